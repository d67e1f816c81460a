-- What a text spells keeps the limits.
use Rattle.std.proofs.Common.{◌≡◌, ℕ, zero, suc, ◌+◌, ◌≤◌, ◌<◌, Bool, cond, List, [], ◌∷◌, ◌++◌, length, Option, Some, None, refl, sym, subst, arith, codes}
use Rattle.std.proofs.lemmas.List.Sums.{sum_by-cons}
use Rattle.std.specs.Prelude.{count_by}
use Rattle.ucon_base.specs.Elements.{Each}
use Rattle.ucon_base.specs.declared.value.Side.{Side}
use Rattle.ucon_base.specs.declared.value.Side.TheVariants as sides
use Rattle.ucon_model.specs.declared.policy.Phase.{Phase}
use Rattle.ucon_model.specs.declared.policy.Phase.TheVariants as phases
use Rattle.ucon_model.specs.declared.policy.When.{When}
use Rattle.ucon_model.specs.declared.policy.When.TheVariants as whens
use Rattle.ucon_model.specs.Plain.{Bytes, PlainPolicy}
use Rattle.ucon_base.specs.Tokens.{close_curly}
use Rattle.ucon_model.specs.Forms.{Terminal, word, Limit, item, Marked, beyond, Form, Items, items_tokens, items_tree, IsClean}
use Rattle.ucon_model.specs.Grammar.{sign, side_token, SideCount, of_side, count_side, an_attr, attrs, an_env, envs, phase_token, PhaseCount, of_phase, count_phase, a_pred, preds, when_token, WhenCount, of_when, count_when, an_update, updates, a_right, rights, a_policy}
use Rattle.ucon_model.specs.Limits.{same_phase, IsRightWithin, IsWithin}
use Rattle.ucon_model.specs.Readings.{same_side}
use Rattle.ucon_model.specs.Updates.{same_when}
use Rattle.ucon_model.specs.Spells.{Spells}
use Rattle.ucon_syntax.proofs.Marks.{clean_front}
use Rattle.ucon_syntax.proofs.Rooms.{clean_first, below_most}
use Rattle.ucon_syntax.proofs.Parts.{attr_tail, pred_rest, pred_phase, plain_rest}

clean_back : (a b : List Marked) → IsClean (a ++ b) → IsClean b
clean_back [] b c = c
clean_back ((t, None) ∷ a) b c = clean_back a b c
clean_back ((t, Some l) ∷ a) b c = absurd c

clean_tail : (t : Terminal) (o : Option Limit) (ms : List Marked) → IsClean ((t, o) ∷ ms) → IsClean ms
clean_tail t None ms c = c
clean_tail t (Some l) ms c = absurd c

abbrev one : Bool → ℕ
one b = cond b 1 0

counted : {N A : Type 0} (form : N → Form A) (count : N → A → N) (of : N → ℕ) (is : A → Bool) (most : ℕ) → ((n : N) (s : (form n).Written) → IsClean ((form n).tokens s) → of n ≤ most → (of (count n ((form n).tree s)) ≤ most) × (of (count n ((form n).tree s)) ≡ of n + one (is ((form n).tree s)))) → (k : ℕ) (n : N) (s : Items form count k n) → IsClean (items_tokens form count k n s) → of n ≤ most → of n + count_by is (items_tree form count k n s) ≤ most
counted form count of is most grows zero n s clean le = omega arith
counted form count of is most grows (suc k) n s clean le =
    let more = items_tokens form count k (count n ((form n).tree s.0)) s.1 in
    let g = grows n s.0 (clean_front ((form n).tokens s.0) more clean) le in
    let r = counted form count of is most grows k (count n ((form n).tree s.0)) s.1 (clean_back ((form n).tokens s.0) more clean) g.0 in
    let x = (form n).tree s.0 in
    let trees = items_tree form count k (count n x) s.1 in
    let split : count_by is (x ∷ trees) ≡ one (is x) + count_by is trees = sum_by-cons (λ y. one (is y)) x trees in
    omega (arith, g.1, r, split)

each_item : {N A : Type 0} (form : N → Form A) (count : N → A → N) (Q : A → Type 0) → ((n : N) (s : (form n).Written) → IsClean ((form n).tokens s) → Q ((form n).tree s)) → (k : ℕ) (n : N) (s : Items form count k n) → IsClean (items_tokens form count k n s) → Each Q (items_tree form count k n s)
each_item form count Q holds zero n s clean = tt
each_item form count Q holds (suc k) n s clean =
    let more = items_tokens form count k (count n ((form n).tree s.0)) s.1 in
    (holds n s.0 (clean_front ((form n).tokens s.0) more clean), each_item form count Q holds k (count n ((form n).tree s.0)) s.1 (clean_back ((form n).tokens s.0) more clean))

-- items that are counted together
long : {A : Type 0} (form : ℕ → Form A) (most : ℕ) → ((n : ℕ) (s : (form n).Written) → IsClean ((form n).tokens s) → n < most) → (k n : ℕ) (s : Items form (λ n x. suc n) k n) → IsClean (items_tokens form (λ n x. suc n) k n s) → n ≤ most → n + length (items_tree form (λ n x. suc n) k n s) ≤ most
long form most below zero n s clean le = omega arith
long form most below (suc k) n s clean le =
    let more = items_tokens form (λ n x. suc n) k (suc n) s.1 in
    let lt = below n s.0 (clean_front ((form n).tokens s.0) more clean) in
    let r = long form most below k (suc n) s.1 (clean_back ((form n).tokens s.0) more clean) (omega arith) in
    omega (arith, r)

-- ---- attributes

side_grows : (side : Side) (n : SideCount) (other : Side) → of_side n other < 16 → of_side n side ≤ 16 → (of_side (count_side n other) side ≤ 16) × (of_side (count_side n other) side ≡ of_side n side + one (same_side side other))
side_grows sides.Subject n sides.Subject lt le = (omega arith, refl)
side_grows sides.Subject n sides.Object lt le = (le, omega arith)
side_grows sides.Object n sides.Subject lt le = (le, omega arith)
side_grows sides.Object n sides.Object lt le = (omega arith, refl)

attrs_within : (s : attrs.Written) → IsClean (attrs.tokens s) → (side : Side) → count_by (λ a. same_side side a.side) (attrs.tree s) ≤ 16
attrs_within s clean side =
    let none : SideCount = record { subject = 0; object = 0 } in
    omega (arith, counted an_attr (λ n a. count_side n a.side) (λ n. of_side n side) (λ a. same_side side a.side) 16 (λ n t c le. side_grows side n t.0 (below_most 16 (of_side n t.0) (clean_first (side_token t.0) (beyond item 16 (of_side n t.0)) ((attr_tail t.0).tokens t.1) c)) le) s.0 none s.1 clean (nought side))
  where
    nought : (side : Side) → of_side (record { subject = 0; object = 0 }) side ≤ 16
    nought sides.Subject = omega arith
    nought sides.Object = omega arith

-- ---- predicates and updates

phase_grows : (phase : Phase) (n : PhaseCount) (other : Phase) → of_phase n other < 16 → of_phase n phase ≤ 16 → (of_phase (count_phase n other) phase ≤ 16) × (of_phase (count_phase n other) phase ≡ of_phase n phase + one (same_phase phase other))
phase_grows phases.Pre n phases.Pre lt le = (omega arith, refl)
phase_grows phases.Pre n phases.Ongoing lt le = (le, omega arith)
phase_grows phases.Ongoing n phases.Pre lt le = (le, omega arith)
phase_grows phases.Ongoing n phases.Ongoing lt le = (omega arith, refl)

pred_grows : (phase : Phase) (n : PhaseCount) (t : (a_pred n).Written) → IsClean ((a_pred n).tokens t) → of_phase n phase ≤ 16 → (of_phase (count_phase n ((a_pred n).tree t).phase) phase ≤ 16) × (of_phase (count_phase n ((a_pred n).tree t).phase) phase ≡ of_phase n phase + one (same_phase phase ((a_pred n).tree t).phase))
pred_grows phase n t clean le =
    let lt = below_most 16 (of_phase n t.0) (clean_first (phase_token t.0) (beyond item 16 (of_phase n t.0)) ((pred_rest t.0).tokens t.1) clean) in
    let Q : Phase → Type 0 = λ z. (of_phase (count_phase n z) phase ≤ 16) × (of_phase (count_phase n z) phase ≡ of_phase n phase + one (same_phase phase z)) in
    subst Q (sym (pred_phase n t)) (phase_grows phase n t.0 lt le)

no_preds : (phase : Phase) → of_phase (record { pre = 0; ongoing = 0 }) phase ≡ 0
no_preds phases.Pre = refl
no_preds phases.Ongoing = refl

preds_within : (s : preds.Written) → IsClean (preds.tokens s) → (phase : Phase) → count_by (λ p. same_phase phase p.phase) (preds.tree s) ≤ 16
preds_within s clean phase =
    let none : PhaseCount = record { pre = 0; ongoing = 0 } in
    omega (arith, counted a_pred (λ n p. count_phase n p.phase) (λ n. of_phase n phase) (λ p. same_phase phase p.phase) 16 (pred_grows phase) s.0 none s.1 clean (omega (arith, no_preds phase)))

when_grows : (when : When) (n : WhenCount) (other : When) → of_when n other < 16 → of_when n when ≤ 16 → (of_when (count_when n other) when ≤ 16) × (of_when (count_when n other) when ≡ of_when n when + one (same_when when other))
when_grows whens.Before n whens.Before lt le = (omega arith, refl)
when_grows whens.Before n whens.During lt le = (le, omega arith)
when_grows whens.Before n whens.AfterEnd lt le = (le, omega arith)
when_grows whens.Before n whens.AfterRevoke lt le = (le, omega arith)
when_grows whens.During n whens.Before lt le = (le, omega arith)
when_grows whens.During n whens.During lt le = (omega arith, refl)
when_grows whens.During n whens.AfterEnd lt le = (le, omega arith)
when_grows whens.During n whens.AfterRevoke lt le = (le, omega arith)
when_grows whens.AfterEnd n whens.Before lt le = (le, omega arith)
when_grows whens.AfterEnd n whens.During lt le = (le, omega arith)
when_grows whens.AfterEnd n whens.AfterEnd lt le = (omega arith, refl)
when_grows whens.AfterEnd n whens.AfterRevoke lt le = (le, omega arith)
when_grows whens.AfterRevoke n whens.Before lt le = (le, omega arith)
when_grows whens.AfterRevoke n whens.During lt le = (le, omega arith)
when_grows whens.AfterRevoke n whens.AfterEnd lt le = (le, omega arith)
when_grows whens.AfterRevoke n whens.AfterRevoke lt le = (omega arith, refl)

no_updates : (when : When) → of_when (record { before_usage = 0; during_usage = 0; after_end = 0; after_revoke = 0 }) when ≡ 0
no_updates whens.Before = refl
no_updates whens.During = refl
no_updates whens.AfterEnd = refl
no_updates whens.AfterRevoke = refl

updates_within : (s : updates.Written) → IsClean (updates.tokens s) → (when : When) → count_by (λ u. same_when when u.when) (updates.tree s) ≤ 16
updates_within s clean when =
    let none : WhenCount = record { before_usage = 0; during_usage = 0; after_end = 0; after_revoke = 0 } in
    omega (arith, counted an_update (λ n u. count_when n u.when) (λ n. of_when n when) (λ u. same_when when u.when) 16 (λ n t c le. when_grows when n t.0 (below_most 16 (of_when n t.0) (clean_first (when_token t.0) (beyond item 16 (of_when n t.0)) ((plain_rest t.0).tokens t.1) c)) le) s.0 none s.1 clean (omega (arith, no_updates when)))

-- ---- rights and policies

right_within : (n : ℕ) (s : (a_right n).Written) → IsClean ((a_right n).tokens s) → IsRightWithin ((a_right n).tree s)
right_within n s clean =
    let behind = updates.tokens s.1.1.0 ++ sign close_curly ∷ [] in
    let body : IsClean (preds.tokens s.1.0 ++ behind) = clean_tail (word (codes "right")) (beyond item 64 n) _ clean in
    record {
      preds = preds_within s.1.0 (clean_front (preds.tokens s.1.0) behind body);
      updates = updates_within s.1.1.0 (clean_front (updates.tokens s.1.1.0) (sign close_curly ∷ []) (clean_back (preds.tokens s.1.0) behind body));
    }

policy_within : (s : a_policy.Written) → IsClean (a_policy.tokens s) → IsWithin (a_policy.tree s)
policy_within s clean =
    let behind = envs.tokens s.1.0 ++ rights.tokens s.1.1 in
    let rest = clean_back (attrs.tokens s.0) behind clean in
    let of_envs = clean_front (envs.tokens s.1.0) (rights.tokens s.1.1) rest in
    let of_rights = clean_back (envs.tokens s.1.0) (rights.tokens s.1.1) rest in
    record {
      attrs = attrs_within s.0 (clean_front (attrs.tokens s.0) behind clean);
      envs = omega (arith, long an_env 32 (λ n t c. below_most 32 n (clean_first (word (codes "env")) (beyond item 32 n) _ c)) s.1.0.0 0 s.1.0.1 of_envs (omega arith));
      rights = omega (arith, long a_right 64 (λ n t c. below_most 64 n (clean_first (word (codes "right")) (beyond item 64 n) _ c)) s.1.1.0 0 s.1.1.1 of_rights (omega arith));
      each = each_item a_right (λ n r. suc n) IsRightWithin right_within s.1.1.0 0 s.1.1.1 of_rights;
    }

pub spelled_within : (text : Bytes) (p : PlainPolicy) → Spells text p → IsWithin p
spelled_within text p s = subst IsWithin s.spelled.tree (policy_within s.spelled.written s.spelled.clean)
