-- What is known of a row that may come.
use Rattle.std.proofs.Common.{◌≡◌, ◌∙◌, ℕ, ◌+◌, ◌<◌, true, List, [], ◌∷◌, ◌++◌, length, map, Some, None, refl, sym, ap, subst, arith, length-append}
use Rattle.std.specs.Prelude.{◌&&◌, Option, slice_get, nat_le, IsSomeAnd, IsTrue}
use Rattle.std.specs.Option.{option_map_or}
use Rattle.std.specs.Str.{bytes_eq}
use Rattle.std.proofs.lemmas.Option.{slice_get-map}
use Rattle.std.proofs.lemmas.Slice.Eq.{bytes_eq-Decides}
use Rattle.ucon_base.specs.declared.value.Kind.{Kind}
use Rattle.ucon_base.specs.declared.value.Side.{Side}
use Rattle.ucon_base.specs.declared.value.Side.TheVariants as sides
use Rattle.ucon_base.specs.declared.value.Value.{Value}
use Rattle.ucon_base.specs.Admits.{admits}
use Rattle.ucon_model.specs.declared.policy.AttrDecl.{AttrDecl}
use Rattle.ucon_model.specs.declared.policy.EnvDecl.{EnvDecl}
use Rattle.ucon_model.specs.Fitting.{AttributeAdmits, VariableAdmits}
use Rattle.ucon_model.specs.Plain.{Bytes, PlainPolicy}
use Rattle.ucon_model.specs.Readings.{attrs_of, declared_attr, declared_env}
use Rattle.ucon_model.specs.Typing.{IsTyped}
use Rattle.ucon_state.specs.Applied.{with_cell}
use Rattle.ucon_state.specs.Tables.{Tables}
use Rattle.ucon_point.specs.declared.order.Reached.{Reached}
use Rattle.ucon_point.specs.declared.order.Stage.{Stage}
use Rattle.ucon_point.specs.declared.order.Stage.TheVariants.{Variables, Subjects, Objects, Acts, Sessions}
use Rattle.ucon_point.specs.declared.row.Row.{Row}
use Rattle.ucon_point.specs.declared.row.Row.TheVariants.{Variable, Entity, Attribute, Act, Session}
use Rattle.ucon_point.specs.Order.{after, attribute_place, awaited, rank, stage_of, variable_place, with_row, with_value}
use Rattle.ucon_point.specs.Standing.{Fits, HasLast, last_cell, with_put}
use Rattle.ucon_point.proofs.Declared.{env_declared, attr_once}
use Rattle.std.proofs.lemmas.Bool.{and_parts}
use Rattle.ucon_point.proofs.Results.{kept, mapped_is, nothing}

abbrev pub reaching : Stage → ℕ → Reached
reaching stage values = record { stage = stage; values = values }

-- a value came: one of this name and kind was awaited
pub record ValueCame (o : Option (Bytes × Kind)) (stage : Stage) (values : ℕ) (name : Bytes) (v : Value) (next : Reached) : Type 0 where
  pub name_there : Bytes
  pub kind_there : Kind
  pub there : o ≡ Some (name_there, kind_there)
  pub named : name ≡ name_there
  pub fits : admits kind_there v ≡ true
  pub is : reaching stage (values + 1) ≡ next

pub value_came : (o : Option (Bytes × Kind)) (stage : Stage) (values : ℕ) (name : Bytes) (v : Value) (next : Reached) → with_value o (reaching stage values) name v ≡ Some next
    → ValueCame o stage values name v next
value_came None stage values name v next h = absurd (nothing h)
value_came (Some d) stage values name v next h =
    let k = kept (bytes_eq name d.0 && admits d.1 v) (reaching stage (values + 1)) next h in
    let both = and_parts (bytes_eq name d.0) (admits d.1 v) k.0 in
    record { name_there = d.0; kind_there = d.1; there = refl; named = (bytes_eq-Decides name d.0).0 both.0; fits = both.1; is = k.1 }

-- another row came: no value was awaited
pub record RowCame (o : Option (Bytes × Kind)) (before stage : Stage) (next : Reached) : Type 0 where
  pub none : o ≡ None
  pub later : nat_le (rank before) (rank stage) ≡ true
  pub is : reaching stage 0 ≡ next

pub row_came : (o : Option (Bytes × Kind)) (before stage : Stage) (values : ℕ) (next : Reached) → with_row o (reaching before values) stage ≡ Some next → RowCame o before stage next
row_came (Some d) before stage values next h = absurd (nothing h)
row_came None before stage values next h =
    let k = kept (nat_le (rank before) (rank stage)) (reaching stage 0) next h in
    record { none = refl; later = k.0; is = k.1 }

-- a declaration of which a value comes
pub record EnvThere (Q : PlainPolicy) (i : ℕ) (name : Bytes) (kind : Kind) : Type 0 where
  pub decl : EnvDecl
  pub at : slice_get Q.envs i ≡ Some decl
  pub named : decl.name ≡ name
  pub kinded : decl.kind ≡ kind

pub env_there : (Q : PlainPolicy) (i : ℕ) (name : Bytes) (kind : Kind) → slice_get (map variable_place Q.envs) i ≡ Some (name, kind) → EnvThere Q i name kind
env_there Q i name kind h =
    let k = mapped_is (slice_get Q.envs i) variable_place (name, kind) (sym (slice_get-map variable_place Q.envs i) ∙ h) in
    record { decl = k.0; at = k.1.0; named = ap (λ (p : Bytes × Kind). p.0) k.1.1; kinded = ap (λ (p : Bytes × Kind). p.1) k.1.1 }

pub record AttrThere (Q : PlainPolicy) (side : Side) (i : ℕ) (name : Bytes) (kind : Kind) : Type 0 where
  pub decl : AttrDecl
  pub at : slice_get (attrs_of Q side) i ≡ Some decl
  pub named : decl.name ≡ name
  pub kinded : decl.kind ≡ kind

pub attr_there : (Q : PlainPolicy) (side : Side) (i : ℕ) (name : Bytes) (kind : Kind) → slice_get (map attribute_place (attrs_of Q side)) i ≡ Some (name, kind) → AttrThere Q side i name kind
attr_there Q side i name kind h =
    let k = mapped_is (slice_get (attrs_of Q side) i) attribute_place (name, kind) (sym (slice_get-map attribute_place (attrs_of Q side) i) ∙ h) in
    record { decl = k.0; at = k.1.0; named = ap (λ (p : Bytes × Kind). p.0) k.1.1; kinded = ap (λ (p : Bytes × Kind). p.1) k.1.1 }

and_some : {A : Type 0} (o : Option A) (P : A → Type 0) (x : A) → o ≡ Some x → P x → IsSomeAnd o P
and_some o P x is h = subst (λ q. IsSomeAnd q P) (sym is) h

-- ---- values fit

pub variable_fits : (Q : PlainPolicy) → IsTyped Q → (i : ℕ) (name : Bytes) (v : Value) (next : Reached) → ValueCame (slice_get (map variable_place Q.envs) i) Variables i name v next → VariableAdmits Q name v
variable_fits Q typed i name v next c =
    let d = env_there Q i c.name_there c.kind_there c.there in
    let named : d.decl.name ≡ name = d.named ∙ sym c.named in
    and_some (declared_env Q.envs name) (λ (e : EnvDecl). IsTrue (admits e.kind v)) d.decl
    (ap (declared_env Q.envs) (sym named) ∙ env_declared Q typed i d.decl d.at) (ap (λ (k : Kind). admits k v) d.kinded ∙ c.fits)

pub attribute_fits : (Q : PlainPolicy) → IsTyped Q → (side : Side) (stage : Stage) (i : ℕ) (name : Bytes) (v : Value) (next : Reached)
    → ValueCame (slice_get (map attribute_place (attrs_of Q side)) i) stage i name v next → AttributeAdmits Q side name v
attribute_fits Q typed side stage i name v next c =
    let d = attr_there Q side i c.name_there c.kind_there c.there in
    let named : d.decl.name ≡ name = d.named ∙ sym c.named in
    and_some (declared_attr Q.attrs side name) (λ (e : AttrDecl). IsTrue (admits e.kind v)) d.decl
    (ap (declared_attr Q.attrs side) (sym named) ∙ (attr_once Q typed side i d.decl d.at).declared) (ap (λ (k : Kind). admits k v) d.kinded ∙ c.fits)

fits_at : (Q : PlainPolicy) → IsTyped Q → (t : Tables) (stage : Stage) (i : ℕ) (row : Row) (next : Reached) → HasLast stage t → after Q (reaching stage i) row ≡ Some next → Fits Q stage t row
fits_at Q typed t Variables i (Variable name v) next last h = variable_fits Q typed i name v next (value_came (awaited Q (reaching Variables i)) Variables i name v next h)
fits_at Q typed t Subjects i (Variable name v) next last h = absurd (nothing h)
fits_at Q typed t Objects i (Variable name v) next last h = absurd (nothing h)
fits_at Q typed t Acts i (Variable name v) next last h = absurd (nothing h)
fits_at Q typed t Sessions i (Variable name v) next last h = absurd (nothing h)
fits_at Q typed t Variables i (Attribute name v) next last h = absurd (nothing h)
fits_at Q typed t Subjects i (Attribute name v) next last h =
    (attribute_fits Q typed sides.Subject Subjects i name v next (value_came (awaited Q (reaching Subjects i)) Subjects i name v next h), last)
fits_at Q typed t Objects i (Attribute name v) next last h =
    (attribute_fits Q typed sides.Object Objects i name v next (value_came (awaited Q (reaching Objects i)) Objects i name v next h), last)
fits_at Q typed t Acts i (Attribute name v) next last h = absurd (nothing h)
fits_at Q typed t Sessions i (Attribute name v) next last h = absurd (nothing h)
fits_at Q typed t stage i (Entity side name) next last h = tt
fits_at Q typed t stage i (Act subject action object moment) next last h = tt
fits_at Q typed t stage i (Session s) next last h = tt

pub row_fits : (Q : PlainPolicy) → IsTyped Q → (t : Tables) (r : Reached) (row : Row) (next : Reached) → HasLast r.stage t → after Q r row ≡ Some next → Fits Q r.stage t row
row_fits Q typed t r row next last h = fits_at Q typed t r.stage r.values row next last h

-- ---- the entity whose attributes come next is there

stays : (t : Tables) (v : Value) (o : Option ℕ) (stage : Stage) → HasLast stage t → HasLast stage (option_map_or (λ cell. with_cell t cell v) o t)
stays t v None stage h = h
stays t v (Some cell) Variables h = tt
stays t v (Some cell) Subjects h = h
stays t v (Some cell) Objects h = h
stays t v (Some cell) Acts h = tt
stays t v (Some cell) Sessions h = tt

new_there : {X : Type 0} (xs : List X) (x : X) → 0 < length (xs ++ x ∷ [])
new_there xs x = omega (arith, length-append xs (x ∷ []))

entity_last : (Q : PlainPolicy) (t : Tables) (stage : Stage) (side : Side) (name : Bytes) → HasLast (stage_of side) (with_put Q stage t (Entity side name))
entity_last Q t stage sides.Subject name = new_there t.subjects (name, length t.cells)
entity_last Q t stage sides.Object name = new_there t.objects (name, length t.cells)

last_at : (Q : PlainPolicy) (t : Tables) (stage : Stage) (i : ℕ) (row : Row) (next : Reached) → HasLast stage t → after Q (reaching stage i) row ≡ Some next
    → HasLast next.stage (with_put Q stage t row)
last_at Q t Variables i (Variable name v) next last h = subst (λ (r : Reached). HasLast r.stage (with_put Q Variables t (Variable name v))) (value_came (awaited Q (reaching Variables i)) Variables i name v next h).is tt
last_at Q t Subjects i (Variable name v) next last h = absurd (nothing h)
last_at Q t Objects i (Variable name v) next last h = absurd (nothing h)
last_at Q t Acts i (Variable name v) next last h = absurd (nothing h)
last_at Q t Sessions i (Variable name v) next last h = absurd (nothing h)
last_at Q t Variables i (Attribute name v) next last h = absurd (nothing h)
last_at Q t Subjects i (Attribute name v) next last h =
    subst (λ (r : Reached). HasLast r.stage (with_put Q Subjects t (Attribute name v))) (value_came (awaited Q (reaching Subjects i)) Subjects i name v next h).is (stays t v (last_cell Q t sides.Subject name) Subjects last)
last_at Q t Objects i (Attribute name v) next last h =
    subst (λ (r : Reached). HasLast r.stage (with_put Q Objects t (Attribute name v))) (value_came (awaited Q (reaching Objects i)) Objects i name v next h).is (stays t v (last_cell Q t sides.Object name) Objects last)
last_at Q t Acts i (Attribute name v) next last h = absurd (nothing h)
last_at Q t Sessions i (Attribute name v) next last h = absurd (nothing h)
last_at Q t stage i (Entity side name) next last h =
    subst (λ (r : Reached). HasLast r.stage (with_put Q stage t (Entity side name))) (row_came (awaited Q (reaching stage i)) stage (stage_of side) i next h).is (entity_last Q t stage side name)
last_at Q t stage i (Act subject action object moment) next last h =
    subst (λ (r : Reached). HasLast r.stage (with_put Q stage t (Act subject action object moment))) (row_came (awaited Q (reaching stage i)) stage Acts i next h).is tt
last_at Q t stage i (Session s) next last h = subst (λ (r : Reached). HasLast r.stage (with_put Q stage t (Session s))) (row_came (awaited Q (reaching stage i)) stage Sessions i next h).is tt

pub last_there : (Q : PlainPolicy) (t : Tables) (r : Reached) (row : Row) (next : Reached) → HasLast r.stage t → after Q r row ≡ Some next → HasLast next.stage (with_put Q r.stage t row)
last_there Q t r row next last h = last_at Q t r.stage r.values row next last h
