-- Where one policy may follow another, what both declare is of one kind.
use Rattle.std.proofs.Common.{◌≡◌, Bool, true, false, cond, List, [], ◌∷◌, refl, ap}
use Rattle.std.specs.Prelude.{ℤ, ◌&&◌, not, Option, Some, None, option_map, find}
use Rattle.std.specs.Option.{option_or}
use Rattle.std.specs.Ordering.{int_eq}
use Rattle.std.specs.Str.{bytes_eq}
use Rattle.std.proofs.lemmas.Bool.{and_parts, not-false}
use Rattle.std.proofs.lemmas.Int.{ints}
use Rattle.std.proofs.Common.{arith}
use Rattle.std.proofs.lemmas.Slice.Eq.{bytes_eq-Decides}
use Rattle.ucon_base.specs.declared.value.Side.{Side}
use Rattle.ucon_base.specs.declared.value.Side.TheVariants as sides
use Rattle.ucon_base.specs.declared.value.Kind.{Kind}
use Rattle.ucon_base.specs.declared.value.Kind.TheVariants as kinds
use Rattle.ucon_model.specs.declared.policy.AttrDecl.{AttrDecl}
use Rattle.ucon_model.specs.declared.policy.EnvDecl.{EnvDecl}
use Rattle.ucon_model.specs.Plain.{Bytes, PlainPolicy}
use Rattle.ucon_model.specs.Readings.{same_side, declared_attr, declared_env}
use Rattle.ucon_model.specs.MayFollow.{same_kind, is_changed, changes_attr, changes_env, MayFollow}

pub same_side_is : (s t : Side) → same_side s t ≡ true → s ≡ t
same_side_is sides.Subject sides.Subject h = refl
same_side_is sides.Object sides.Object h = refl
same_side_is sides.Subject sides.Object h = absurd cc
same_side_is sides.Object sides.Subject h = absurd cc

same_int : (a b : ℤ) → int_eq a b ≡ true → a ≡ b
same_int a b h = grind (arith, ints)

same_kind_is : (k l : Kind) → same_kind k l ≡ true → k ≡ l
same_kind_is (kinds.Int low high) (kinds.Int l h) same =
    let both = and_parts (int_eq low l) (int_eq high h) same in
    rw (same_int low l both.0, same_int high h both.1) refl
same_kind_is kinds.Text kinds.Text same = refl
same_kind_is kinds.Set kinds.Set same = refl
same_kind_is (kinds.Int low high) kinds.Text same = absurd cc
same_kind_is (kinds.Int low high) kinds.Set same = absurd cc
same_kind_is kinds.Text (kinds.Int l h) same = absurd cc
same_kind_is kinds.Text kinds.Set same = absurd cc
same_kind_is kinds.Set (kinds.Int l h) same = absurd cc
same_kind_is kinds.Set kinds.Text same = absurd cc

-- ---- what is found

-- what is found passes the test, and what passes no test isn't
found_by : {T : Type 0} (p test : T → Bool) (b : Bool) (x y : T) (o : Option T) → p y ≡ b → test y ≡ false → (o ≡ Some x → (p x ≡ true) × (test x ≡ false))
    → cond b (Some y) o ≡ Some x → (p x ≡ true) × (test x ≡ false)
found_by p test true x y o here not rest is = let same : y ≡ x = cc in rw (← same) (here, not)
found_by p test false x y o here not rest is = rest is

fails_here : {T : Type 0} (b : Bool) (y : T) (o : Option T) → cond b (Some y) o ≡ None → (b ≡ false) × (o ≡ None)
fails_here true y o is = absurd cc
fails_here false y o is = (refl, is)

found_among : {T : Type 0} (p test : T → Bool) (xs : List T) (x : T) → find test xs ≡ None → find p xs ≡ Some x → (p x ≡ true) × (test x ≡ false)
found_among p test [] x none is = absurd cc
found_among p test (y ∷ ys) x none is =
    let fails = fails_here (test y) y (find test ys) none in
    found_by p test (p y) x y (find p ys) refl fails.0 (found_among p test ys x fails.1) is

nothing_first : {A : Type 0} (a b : Option A) → option_or a b ≡ None → (a ≡ None) × (b ≡ None)
nothing_first None b h = (refl, h)
nothing_first (Some x) b h = absurd cc

nothing_mapped : {A B : Type 0} (f : A → B) (o : Option A) → option_map f o ≡ None → o ≡ None
nothing_mapped f None h = refl
nothing_mapped f (Some x) h = absurd cc

stays : (k : Kind) (l : Kind) → is_changed k (Some l) ≡ false → k ≡ l
stays k l h = same_kind_is k l (not-false (same_kind k l) h)

-- ---- what both declare

pub attr_kind_stays : (P Q : PlainPolicy) → MayFollow P Q → (side : Side) (attr : Bytes) (d e : AttrDecl) → declared_attr P.attrs side attr ≡ Some d
    → declared_attr Q.attrs side attr ≡ Some e → d.kind ≡ e.kind
attr_kind_stays P Q follows side attr d e old new =
    let none = nothing_mapped (λ (x : AttrDecl). x.name) (find (changes_attr Q.attrs) P.attrs) (nothing_first _ _ follows).0 in
    let both = found_among (λ (x : AttrDecl). same_side side x.side && bytes_eq attr x.name) (changes_attr Q.attrs) P.attrs d none old in
    let here = and_parts (same_side side d.side) (bytes_eq attr d.name) both.0 in
    let there : declared_attr Q.attrs d.side d.name ≡ Some e = rw (← same_side_is side d.side here.0, ← (bytes_eq-Decides attr d.name).0 here.1) new in
    stays d.kind e.kind (rw (← ap (λ (o : Option AttrDecl). is_changed d.kind (option_map (λ x. x.kind) o)) there) both.1)

pub env_kind_stays : (P Q : PlainPolicy) → MayFollow P Q → (name : Bytes) (d e : EnvDecl) → declared_env P.envs name ≡ Some d
    → declared_env Q.envs name ≡ Some e → d.kind ≡ e.kind
env_kind_stays P Q follows name d e old new =
    let none = nothing_mapped (λ (x : EnvDecl). x.name) (find (changes_env Q.envs) P.envs) (nothing_first _ _ follows).1 in
    let both = found_among (λ (x : EnvDecl). bytes_eq name x.name) (changes_env Q.envs) P.envs d none old in
    let there : declared_env Q.envs d.name ≡ Some e = rw (← (bytes_eq-Decides name d.name).0 both.0) new in
    stays d.kind e.kind (rw (← ap (λ (o : Option EnvDecl). is_changed d.kind (option_map (λ x. x.kind) o)) there) both.1)
