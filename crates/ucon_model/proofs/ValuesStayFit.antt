-- All values fit before any action, and after one more.
use Rattle.std.proofs.Common.{◌≡◌, ◌∙◌, ap, Bool, true, false, cond, [], ◌∷◌, refl, subst}
use Rattle.std.specs.Prelude.{◌&&◌, ◌||◌, Option, Some, None, is_some, option_map, IsTrue, IsSomeAnd}
use Rattle.std.specs.Str.{bytes_eq}
use Rattle.std.proofs.lemmas.Bool.{and_parts}
use Rattle.std.proofs.lemmas.Option.{same_Some}
use Rattle.std.proofs.lemmas.Slice.Eq.{bytes_eq-Decides}
use Rattle.ucon_base.specs.declared.value.Side.{Side}
use Rattle.ucon_base.specs.declared.value.Side.TheVariants.{Subject, Object}
use Rattle.ucon_base.specs.declared.value.Value.{Value}
use Rattle.ucon_base.specs.Admits.{admits}
use Rattle.ucon_model.specs.declared.policy.AttrDecl.{AttrDecl}
use Rattle.ucon_model.specs.declared.policy.EnvDecl.{EnvDecl}
use Rattle.ucon_model.specs.Plain.{Bytes, PlainPolicy}
use Rattle.ucon_model.specs.Action.{Trace, subject, object, write, env, amend}
use Rattle.ucon_model.specs.Readings.{in_force, has_entity, same_side, declared_attr, declared_env, given_attr, attribute, given_env, variable}
use Rattle.ucon_model.specs.Fitting.{AttributeAdmits, VariableAdmits, ValuesFit}
use Rattle.ucon_model.specs.MayFollow.{MayFollow}
use Rattle.ucon_model.specs.Typing.{is_range, IsTyped}
use Rattle.ucon_model.proofs.KindsStay.{same_side_is, attr_kind_stays, env_kind_stays}
use Rattle.ucon_model.proofs.TypedParts.{typed_attr, typed_env}

-- ---- defaults

start_admitted : (P : PlainPolicy) → IsTyped P → (side : Side) (attr : Bytes) (d : AttrDecl) → declared_attr P.attrs side attr ≡ Some d → AttributeAdmits P side attr d.start
start_admitted P typed side attr d is = rw is ((and_parts (is_range d.kind) (admits d.kind d.start) (typed_attr P typed side attr d is)).1)

variable_start_admitted : (P : PlainPolicy) → IsTyped P → (name : Bytes) (d : EnvDecl) → declared_env P.envs name ≡ Some d → VariableAdmits P name d.start
variable_start_admitted P typed name d is = rw is ((and_parts (is_range d.kind) (admits d.kind d.start) (typed_env P typed name d is)).1)

-- ---- what is given, case by case

by_write : (Q : Value → Type 0) (there that : Bool) (v w : Value) (given : Option Value) → (that ≡ true → Q v) → (cond there given None ≡ Some w → Q w)
    → cond there (cond that (Some v) given) None ≡ Some w → Q w
by_write Q true true v w given new old is = subst Q (same_Some v w is) (new refl)
by_write Q true false v w given new old is = old is
by_write Q false that v w given new old is = absurd cc

by_new : (Q : Value → Type 0) (here there : Bool) (w : Value) (given : Option Value) (o : Option AttrDecl) → ((d : AttrDecl) → o ≡ Some d → Q d.start)
    → (cond (there && is_some o) given None ≡ Some w → Q w) → cond ((here || there) && is_some o) (cond here (option_map (λ d. d.start) o) given) None ≡ Some w → Q w
by_new Q true there w given None start old is = absurd cc
by_new Q true there w given (Some d) start old is = subst Q (same_Some d.start w is) (start d refl)
by_new Q false there w given o start old is = old is

-- what is there while another policy was in force, or is new
by_amendment : {D : Type 0} (Q : Value → Type 0) (value : D → Value) (there : Bool) (w : Value) (given : Option Value) (before o : Option D)
    → ((e : D) → o ≡ Some e → Q (value e)) → ((d e : D) → before ≡ Some d → o ≡ Some e → cond (there && true) given None ≡ Some w → Q w)
    → cond (there && is_some o) (cond (is_some before) given (option_map value o)) None ≡ Some w → Q w
by_amendment Q value true w given None (Some e) new old is = subst Q (same_Some (value e) w is) (new e refl)
by_amendment Q value true w given (Some d) (Some e) new old is = old d e refl refl is
by_amendment Q value true w given None None new old is = absurd cc
by_amendment Q value true w given (Some d) None new old is = absurd cc
by_amendment Q value false w given before o new old is = absurd cc

-- what is written to an attribute is admitted by the attribute that it is
that_admits : (P : PlainPolicy) (side s : Side) (e n attr a : Bytes) (v : Value) → AttributeAdmits P s a v
    → (same_side side s && bytes_eq e n && bytes_eq attr a) ≡ true → AttributeAdmits P side attr v
that_admits P side s e n attr a v admitted is =
    let front = and_parts (same_side side s && bytes_eq e n) (bytes_eq attr a) is in
    let sides = and_parts (same_side side s) (bytes_eq e n) front.0 in
    rw (same_side_is side s sides.0, (bytes_eq-Decides attr a).0 front.1) admitted

-- ---- one action more

pub fit-write : (P : PlainPolicy) (T : Trace) (s : Side) (n a : Bytes) (v : Value) → AttributeAdmits (in_force P T) s a v → ValuesFit P T → ValuesFit P (write s n a v ∷ T)
fit-write P T s n a v admitted h = record { attributes = attributes; variables = h.variables }
  where
    attributes : (side : Side) (e attr : Bytes) (w : Value) → attribute P (write s n a v ∷ T) side e attr ≡ Some w → AttributeAdmits (in_force P T) side attr w
    attributes Subject e attr w is =
        by_write (AttributeAdmits (in_force P T) Subject attr) (has_entity Subject e T && is_some (declared_attr (in_force P T).attrs Subject attr))
        (same_side Subject s && bytes_eq e n && bytes_eq attr a) v w (given_attr P Subject e attr T)
        (that_admits (in_force P T) Subject s e n attr a v admitted) (h.attributes Subject e attr w) is
    attributes Object e attr w is =
        by_write (AttributeAdmits (in_force P T) Object attr) (has_entity Object e T && is_some (declared_attr (in_force P T).attrs Object attr))
        (same_side Object s && bytes_eq e n && bytes_eq attr a) v w (given_attr P Object e attr T)
        (that_admits (in_force P T) Object s e n attr a v admitted) (h.attributes Object e attr w) is

pub fit-subject : (P : PlainPolicy) (T : Trace) (name : Bytes) → IsTyped (in_force P T) → ValuesFit P T → ValuesFit P (subject name ∷ T)
fit-subject P T name typed h = record { attributes = attributes; variables = h.variables }
  where
    attributes : (side : Side) (e attr : Bytes) (w : Value) → attribute P (subject name ∷ T) side e attr ≡ Some w → AttributeAdmits (in_force P T) side attr w
    attributes Subject e attr w is =
        by_new (AttributeAdmits (in_force P T) Subject attr) (bytes_eq e name) (has_entity Subject e T) w (given_attr P Subject e attr T)
        (declared_attr (in_force P T).attrs Subject attr) (start_admitted (in_force P T) typed Subject attr) (h.attributes Subject e attr w) is
    attributes Object e attr w is = h.attributes Object e attr w is

pub fit-object : (P : PlainPolicy) (T : Trace) (name : Bytes) → IsTyped (in_force P T) → ValuesFit P T → ValuesFit P (object name ∷ T)
fit-object P T name typed h = record { attributes = attributes; variables = h.variables }
  where
    attributes : (side : Side) (e attr : Bytes) (w : Value) → attribute P (object name ∷ T) side e attr ≡ Some w → AttributeAdmits (in_force P T) side attr w
    attributes Subject e attr w is = h.attributes Subject e attr w is
    attributes Object e attr w is =
        by_new (AttributeAdmits (in_force P T) Object attr) (bytes_eq e name) (has_entity Object e T) w (given_attr P Object e attr T)
        (declared_attr (in_force P T).attrs Object attr) (start_admitted (in_force P T) typed Object attr) (h.attributes Object e attr w) is

pub fit-env : (P : PlainPolicy) (T : Trace) (n : Bytes) (v : Value) → VariableAdmits (in_force P T) n v → ValuesFit P T → ValuesFit P (env n v ∷ T)
fit-env P T n v admitted h = record { attributes = attributes; variables = variables }
  where
    attributes : (side : Side) (e attr : Bytes) (w : Value) → attribute P (env n v ∷ T) side e attr ≡ Some w → AttributeAdmits (in_force P T) side attr w
    attributes Subject e attr w is = h.attributes Subject e attr w is
    attributes Object e attr w is = h.attributes Object e attr w is

    variables : (name : Bytes) (w : Value) → variable P (env n v ∷ T) name ≡ Some w → VariableAdmits (in_force P T) name w
    variables name w is =
        by_write (VariableAdmits (in_force P T) name) (is_some (declared_env (in_force P T).envs name)) (bytes_eq name n) v w (given_env P name T)
        (λ same. rw ((bytes_eq-Decides name n).0 same) admitted) (h.variables name w) is

-- ---- an amendment

-- what one declaration admits, another of the same kind does
attr_still : (before o : Option AttrDecl) (d e : AttrDecl) (v : Value) → before ≡ Some d → o ≡ Some e → d.kind ≡ e.kind
    → IsSomeAnd before (λ d. IsTrue (admits d.kind v)) → IsSomeAnd o (λ d. IsTrue (admits d.kind v))
attr_still before o d e v old new same h =
    let admitted : IsTrue (admits d.kind v) = subst (λ (o : Option AttrDecl). IsSomeAnd o (λ d. IsTrue (admits d.kind v))) old h in
    rw new (subst (λ k. IsTrue (admits k v)) same admitted)

env_still : (before o : Option EnvDecl) (d e : EnvDecl) (v : Value) → before ≡ Some d → o ≡ Some e → d.kind ≡ e.kind
    → IsSomeAnd before (λ d. IsTrue (admits d.kind v)) → IsSomeAnd o (λ d. IsTrue (admits d.kind v))
env_still before o d e v old new same h =
    let admitted : IsTrue (admits d.kind v) = subst (λ (o : Option EnvDecl). IsSomeAnd o (λ d. IsTrue (admits d.kind v))) old h in
    rw new (subst (λ k. IsTrue (admits k v)) same admitted)

module _ (P : PlainPolicy) (T : Trace) (text : Bytes) (Q : PlainPolicy) (typed : IsTyped Q) (follows : MayFollow (in_force P T) Q) (h : ValuesFit P T) where
  attribute_still : (side : Side) (e attr : Bytes) (w : Value) (d f : AttrDecl) → attribute P T side e attr ≡ cond (has_entity side e T && is_some (declared_attr (in_force P T).attrs side attr)) (given_attr P side e attr T) None
      → declared_attr (in_force P T).attrs side attr ≡ Some d → declared_attr Q.attrs side attr ≡ Some f
      → cond (has_entity side e T && true) (given_attr P side e attr T) None ≡ Some w → AttributeAdmits Q side attr w
  attribute_still side e attr w d f whole old new is =
      attr_still (declared_attr (in_force P T).attrs side attr) (declared_attr Q.attrs side attr) d f w old new
      (attr_kind_stays (in_force P T) Q follows side attr d f old new)
      (h.attributes side e attr w (whole ∙ ap (λ o. cond (has_entity side e T && is_some o) (given_attr P side e attr T) None) old ∙ is))

  pub fit-amend : ValuesFit P (amend text Q ∷ T)
  fit-amend = record { attributes = attributes; variables = variables }
    where
      attributes : (side : Side) (e attr : Bytes) (w : Value) → attribute P (amend text Q ∷ T) side e attr ≡ Some w → AttributeAdmits Q side attr w
      attributes Subject e attr w is =
          by_amendment (AttributeAdmits Q Subject attr) (λ d. d.start) (has_entity Subject e T) w (given_attr P Subject e attr T)
          (declared_attr (in_force P T).attrs Subject attr) (declared_attr Q.attrs Subject attr) (start_admitted Q typed Subject attr)
          (λ d f. attribute_still Subject e attr w d f refl) is
      attributes Object e attr w is =
          by_amendment (AttributeAdmits Q Object attr) (λ d. d.start) (has_entity Object e T) w (given_attr P Object e attr T)
          (declared_attr (in_force P T).attrs Object attr) (declared_attr Q.attrs Object attr) (start_admitted Q typed Object attr)
          (λ d f. attribute_still Object e attr w d f refl) is

      variables : (name : Bytes) (w : Value) → variable P (amend text Q ∷ T) name ≡ Some w → VariableAdmits Q name w
      variables name w is =
          by_amendment (VariableAdmits Q name) (λ d. d.start) true w (given_env P name T) (declared_env (in_force P T).envs name) (declared_env Q.envs name)
          (variable_start_admitted Q typed name)
          (λ d f old new there. env_still (declared_env (in_force P T).envs name) (declared_env Q.envs name) d f w old new
          (env_kind_stays (in_force P T) Q follows name d f old new)
          (h.variables name w (ap (λ o. cond (is_some o) (given_env P name T) None) old ∙ there))) is

-- ---- no action

held_none : (Q : Value → Type 0) (w : Value) (o : Option EnvDecl) → ((d : EnvDecl) → o ≡ Some d → Q d.start) → cond (is_some o) (option_map (λ (d : EnvDecl). d.start) o) None ≡ Some w → Q w
held_none Q w None start is = absurd cc
held_none Q w (Some d) start is = subst Q (same_Some d.start w is) (start d refl)

pub fit-empty : (P : PlainPolicy) → IsTyped P → ValuesFit P []
fit-empty P typed = record { attributes = attributes; variables = λ name w is. held_none (VariableAdmits P name) w (declared_env P.envs name) (variable_start_admitted P typed name) is }
  where
    attributes : (side : Side) (e attr : Bytes) (w : Value) → attribute P [] side e attr ≡ Some w → AttributeAdmits P side attr w
    attributes Subject e attr w is = absurd cc
    attributes Object e attr w is = absurd cc
