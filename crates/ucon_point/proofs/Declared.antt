-- Under a well typed policy a name is declared once: no declaration before one of these has its name.
use Rattle.std.proofs.Common.{◌≡◌, ◌∙◌, ℕ, zero, suc, ◌+◌, Bool, true, false, List, [], ◌∷◌, ◌++◌, take, Some, None, is_some, refl, sym, ap, subst, append_assoc, append-nil}
use Rattle.std.specs.Prelude.{◌&&◌, Option, slice_get, find}
use Rattle.std.specs.Option.{option_or}
use Rattle.std.specs.Str.{bytes_eq}
use Rattle.std.proofs.lemmas.Bool.{false≢true}
use Rattle.ucon_base.specs.declared.value.Side.{Side}
use Rattle.ucon_base.specs.declared.value.Side.TheVariants as sides
use Rattle.ucon_model.specs.declared.policy.AttrDecl.{AttrDecl}
use Rattle.ucon_model.specs.declared.policy.EnvDecl.{EnvDecl}
use Rattle.ucon_model.specs.Plain.{Bytes, PlainPolicy}
use Rattle.ucon_model.specs.Readings.{same_side, declared_attr, declared_env, attrs_of}
use Rattle.ucon_model.specs.Typing.{TypeFault, IsTyped, type_fault, item_fault, name_if, attr_fault, env_fault, first_fault_of, one_item, is_typed_start}
use Rattle.ucon_point.proofs.Found.{none_of, found_at, found_filtered, filtered_at}
use Rattle.ucon_point.proofs.PointsRead.{bytes_same}
use Rattle.ucon_point.proofs.PointsSpelled.{none_is}
use Rattle.ucon_point.proofs.Results.{nothing}

neither : {A : Type 0} (o r : Option A) → option_or o r ≡ None → (o ≡ None) × (r ≡ None)
neither None r h = (refl, h)
neither (Some x) r h = absurd (nothing (sym h))

stood_not : (n : ℕ) (name : Bytes) (stood typed : Bool) → item_fault n (name_if stood name) None false typed ≡ None → stood ≡ false
stood_not n name true typed h = absurd (nothing (sym h))
stood_not n name false typed h = refl

module _ {T : Type 0} (fault : List T → ℕ → T → Option TypeFault) where
  each_faultless : (before : List T) (n : ℕ) (xs : List T) (i : ℕ) (x : T) → first_fault_of one_item fault before n xs ≡ None → slice_get xs i ≡ Some x
      → (m : ℕ) × (fault (before ++ take i xs) m x ≡ None)
  each_faultless before n [] i x none at = absurd (nothing at)
  each_faultless before n (y ∷ xs) zero x none at =
      let here = (neither (fault before n y) _ none).0 in
      (n, ap (λ (l : List T). fault l n x) (append-nil before) ∙ ap (λ o. fault_of o) (sym at) ∙ here)
    where
      fault_of : Option T → Option TypeFault
      fault_of None = None
      fault_of (Some z) = fault before n z
  each_faultless before n (y ∷ xs) (suc i) x none at =
      let rest = each_faultless (before ++ y ∷ []) (n + 1) xs i x (neither (fault before n y) _ none).1 at in
      (rest.0, ap (λ (l : List T). fault l rest.0 x) (sym (append_assoc before (y ∷ []) (take i xs))) ∙ rest.1)

lists_faultless : (Q : PlainPolicy) → IsTyped Q → (first_fault_of one_item attr_fault [] 1 Q.attrs ≡ None) × ((n : ℕ) × (first_fault_of one_item env_fault [] n Q.envs ≡ None))
unfolding type_fault
lists_faultless Q typed =
    let all = neither _ _ (none_is (type_fault Q) typed) in
    (all.0, (_, (neither _ _ all.1).0))

-- ---- variables

pub env_once : (Q : PlainPolicy) → IsTyped Q → (i : ℕ) (d : EnvDecl) → slice_get Q.envs i ≡ Some d → find (λ (e : EnvDecl). bytes_eq d.name e.name) (take i Q.envs) ≡ None
env_once Q typed i d at =
    let none = (lists_faultless Q typed).1 in
    let here = each_faultless env_fault [] none.0 Q.envs i d none.1 at in
    none_of (declared_env (take i Q.envs) d.name) (stood_not here.0 d.name (is_some (declared_env (take i Q.envs) d.name)) (is_typed_start d.kind d.start) here.1)

pub env_declared : (Q : PlainPolicy) → IsTyped Q → (i : ℕ) (d : EnvDecl) → slice_get Q.envs i ≡ Some d → declared_env Q.envs d.name ≡ Some d
env_declared Q typed i d at = found_at (λ (e : EnvDecl). bytes_eq d.name e.name) Q.envs i d (env_once Q typed i d at) at (bytes_same d.name)

-- ---- attributes

same_sides : (s t : Side) → same_side s t ≡ true → t ≡ s
same_sides sides.Subject sides.Subject h = refl
same_sides sides.Subject sides.Object h = absurd (false≢true h)
same_sides sides.Object sides.Subject h = absurd (false≢true h)
same_sides sides.Object sides.Object h = refl

pub record IsOnce (Q : PlainPolicy) (side : Side) (i : ℕ) (d : AttrDecl) : Type 0 where
  pub once : find (λ (e : AttrDecl). bytes_eq d.name e.name) (take i (attrs_of Q side)) ≡ None
  pub declared : declared_attr Q.attrs side d.name ≡ Some d

pub attr_once : (Q : PlainPolicy) → IsTyped Q → (side : Side) (i : ℕ) (d : AttrDecl) → slice_get (attrs_of Q side) i ≡ Some d → IsOnce Q side i d
attr_once Q typed side i d at =
    let of_side : AttrDecl → Bool = λ e. same_side side e.side in
    let named : AttrDecl → Bool = λ e. bytes_eq d.name e.name in
    let s = filtered_at of_side Q.attrs i d at in
    let here = each_faultless attr_fault [] 1 Q.attrs s.place d (lists_faultless Q typed).0 s.at in
    let other : declared_attr (take s.place Q.attrs) d.side d.name ≡ None =
    none_of (declared_attr (take s.place Q.attrs) d.side d.name) (stood_not here.0 d.name (is_some (declared_attr (take s.place Q.attrs) d.side d.name)) (is_typed_start d.kind d.start) here.1) in
    let none : declared_attr (take s.place Q.attrs) side d.name ≡ None = subst (λ (t : Side). declared_attr (take s.place Q.attrs) t d.name ≡ None) (same_sides side d.side s.passes) other in
    record {
      once = ap (find named) (sym s.before) ∙ found_filtered of_side named (take s.place Q.attrs) ∙ none;
      declared = found_at (λ (e : AttrDecl). same_side side e.side && bytes_eq d.name e.name) Q.attrs s.place d none s.at (rw s.passes (bytes_same d.name));
    }
