-- A report has no floats.
use Rattle.std.proofs.Common.{◌≡◌, ℕ, zero, suc, ℤ, pos, negsuc, Bool, true, false, List, [], ◌∷◌, ◌++◌, map, Option, Some, None, option_map, unwrap_or, refl, Ordering, Less, Equal, Greater, nat_cmp}
use Rattle.std.specs.Prelude.{◌||◌, filter, ⊤}
use Rattle.std.specs.Cmp.Lexicographic.{slice_cmp}
use Rattle.std.specs.Ordering.{match_ordering}
use Rattle.serde_json.specs.Data.{Data, string, Members, no_members, member, put}
use Rattle.serde_json.specs.Find.{of_integer, is_float}
use Rattle.serde_json.specs.View.{items_of}
use Rattle.serde_json.specs.Written.{has_float, items_have_float, members_have_float}
use Rattle.ucon_base.specs.declared.value.Side.{Side}
use Rattle.ucon_base.specs.declared.value.Side.TheVariants as sides
use Rattle.ucon_base.specs.declared.value.Value.{Value}
use Rattle.ucon_base.specs.declared.value.Value.TheVariants.{Int, Text, Set}
use Rattle.ucon_model.specs.declared.policy.AttrDecl.{AttrDecl}
use Rattle.ucon_model.specs.declared.policy.EnvDecl.{EnvDecl}
use Rattle.ucon_model.specs.declared.session.SessionRow.{SessionRow}
use Rattle.ucon_model.specs.Plain.{Bytes}
use Rattle.ucon_model.specs.Readings.{same_side}
use Rattle.ucon_state.specs.Held.{Held}
use Rattle.ucon_audit.specs.Report.{value_tree, with_member, with_members, entity_tree, entities_tree, env_tree, act_tree, acts_tree, session_tree, with_session, sessions_to, sessions_tree, tree_of}

either_whole : (a b : Bool) → a ≡ false → b ≡ false → (a || b) ≡ false
either_whole a b p q = rw (p, q) refl

first_of_both : (a b : Bool) → (a || b) ≡ false → a ≡ false
first_of_both true b e = e
first_of_both false b e = refl

second_of_both : (a b : Bool) → (a || b) ≡ false → b ≡ false
second_of_both true b e = absurd cc
second_of_both false b e = e

integer_whole : (z : ℤ) → is_float (of_integer z) ≡ false
integer_whole (pos n) = refl
integer_whole (negsuc n) = refl

-- ---- lists

module _ {A : Type 0} (tree : A → Data) (each : (x : A) → has_float (tree x) ≡ false) where
  all_whole : (xs : List A) → items_have_float (items_of (map tree xs)) ≡ false
  all_whole [] = refl
  all_whole (x ∷ xs) = either_whole (has_float (tree x)) (items_have_float (items_of (map tree xs))) (each x) (all_whole xs)

one_more_whole : (ds : List Data) (d : Data) → items_have_float (items_of ds) ≡ false → has_float d ≡ false → items_have_float (items_of (ds ++ d ∷ [])) ≡ false
one_more_whole [] d p q = either_whole (has_float d) false q refl
one_more_whole (e ∷ ds) d p q =
    either_whole (has_float e) (items_have_float (items_of (ds ++ d ∷ []))) (first_of_both (has_float e) (items_have_float (items_of ds)) p)
    (one_more_whole ds d (second_of_both (has_float e) (items_have_float (items_of ds)) p) q)

value_whole : (v : Value) → has_float (value_tree v) ≡ false
value_whole (Int n) = integer_whole n
value_whole (Text t) = refl
value_whole (Set ts) = all_whole (λ t. string t) (λ t. refl) ts

-- ---- members

chosen_whole : (o : Ordering) (a b c : Members) → members_have_float a ≡ false → members_have_float b ≡ false → members_have_float c ≡ false
    → members_have_float (match_ordering o a b c) ≡ false
chosen_whole Less a b c p q r = p
chosen_whole Equal a b c p q r = q
chosen_whole Greater a b c p q r = r

put_whole : (k : Bytes) (d : Data) (ms : Members) → has_float d ≡ false → members_have_float ms ≡ false → members_have_float (put k d ms) ≡ false
put_whole k d no_members p q = either_whole (has_float d) false p refl
put_whole k d (member l e ms) p q =
    let here = first_of_both (has_float e) (members_have_float ms) q in
    let rest = second_of_both (has_float e) (members_have_float ms) q in
    chosen_whole (slice_cmp nat_cmp k l) (member k d (member l e ms)) (member l d ms) (member l e (put k d ms))
    (either_whole (has_float d) (has_float e || members_have_float ms) p q)
    (either_whole (has_float d) (members_have_float ms) p rest)
    (either_whole (has_float e) (members_have_float (put k d ms)) here (put_whole k d ms p rest))

-- what is there has no float
abbrev has_none : Option Data → Type 0
has_none None = ⊤
has_none (Some d) = has_float d ≡ false

with_member_whole : (name : Bytes) (o : Option Data) (ms : Members) → has_none o → members_have_float ms ≡ false → members_have_float (with_member name o ms) ≡ false
with_member_whole name None ms p q = q
with_member_whole name (Some d) ms p q = put_whole name d ms p q

module _ (has : Bytes → Option Data) (each : (name : Bytes) → has_none (has name)) where
  members_whole : (names : List Bytes) (ms : Members) → members_have_float ms ≡ false → members_have_float (with_members has names ms) ≡ false
  members_whole [] ms q = q
  members_whole (name ∷ names) ms q = members_whole names (with_member name (has name) ms) (with_member_whole name (has name) ms (each name) q)

there_whole : (o : Option Value) → has_none (option_map value_tree o)
there_whole None = tt
there_whole (Some v) = value_whole v

-- ---- all of it

module _ (h : Held) where
  entity_whole : (side : Side) (name : Bytes) → has_float (entity_tree h side name) ≡ false
  entity_whole side name =
      members_whole (λ attr. option_map value_tree (h.attribute side name attr)) (λ attr. there_whole (h.attribute side name attr))
      (map (λ (d : AttrDecl). d.name) (filter (λ (d : AttrDecl). same_side side d.side) h.policy.attrs)) no_members refl

  entities_whole : (side : Side) → has_float (entities_tree h side) ≡ false
  entities_whole side = members_whole (λ name. Some (entity_tree h side name)) (λ name. entity_whole side name) (h.names side) no_members refl

  env_whole : has_float (env_tree h) ≡ false
  env_whole =
      members_whole (λ name. option_map value_tree (h.variable name)) (λ name. there_whole (h.variable name)) (map (λ (d : EnvDecl). d.name) h.policy.envs) no_members refl

  act_whole : (a : Bytes × Bytes × Bytes) → has_float (act_tree h a) ≡ false
  act_whole a = either_whole (is_float (of_integer (unwrap_or (h.moment a.0 a.1 a.2) (pos 0)))) false (integer_whole (unwrap_or (h.moment a.0 a.1 a.2) (pos 0))) refl

  acts_whole : has_float (acts_tree h) ≡ false
  acts_whole = all_whole (act_tree h) act_whole h.acts

session_whole : (n : ℕ) (row : SessionRow) → has_float (session_tree n row) ≡ false
session_whole n row = either_whole (is_float (of_integer row.start)) false (integer_whole row.start) refl

with_session_whole : (ds : List Data) (n : ℕ) (o : Option SessionRow) → items_have_float (items_of ds) ≡ false → items_have_float (items_of (with_session ds n o)) ≡ false
with_session_whole ds n None p = p
with_session_whole ds n (Some row) p = one_more_whole ds (session_tree n row) p (session_whole n row)

sessions_whole : (row : ℕ → Option SessionRow) (n : ℕ) → items_have_float (items_of (sessions_to row n)) ≡ false
sessions_whole row zero = refl
sessions_whole row (suc n) = with_session_whole (sessions_to row n) (suc n) (row (suc n)) (sessions_whole row n)

pub tree_whole : (entries : ℕ) (h : Held) → has_float (tree_of entries h) ≡ false
tree_whole entries h =
    either_whole (has_float (acts_tree h)) _ (acts_whole h)
    (either_whole (has_float (env_tree h)) _ (env_whole h)
    (either_whole (has_float (entities_tree h sides.Object)) _ (entities_whole h sides.Object)
    (either_whole (has_float (sessions_tree h)) _ (sessions_whole h.session h.sessions)
    (either_whole (has_float (entities_tree h sides.Subject)) _ (entities_whole h sides.Subject)
    (either_whole (is_float (of_integer h.tick)) false (integer_whole h.tick) refl)))))
