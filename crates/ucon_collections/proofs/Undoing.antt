-- Changes of the lists are undone, the newest first.
use Rattle.std.proofs.Common.{◌≡◌, ◌≢◌, ◌∙◌, ◌⊎◌, inl, inr, ◌≤◌, ℕ, Bool, true, false, cond, List, [], ◌∷◌, ◌++◌, length, refl, sym, ap, subst, arith}
use Rattle.std.specs.Prelude.{Option, nat_eq}
use Rattle.std.proofs.lemmas.Bool.Decides.{eqb_tells}
use Rattle.ucon_collections.specs.Lists.{AreSame, Members}
use Rattle.ucon_collections.specs.Undoing.{CanUndo, CanUndoAll, Listed, UndoGives, Who, all_undone, undone, who_in, with_leader, without_list}
use Rattle.ucon_collections.specs.declared.lists.Change.{Change}
use Rattle.ucon_collections.specs.declared.lists.Change.TheVariants.{Founded, Joined, Left}

pub newest_first : (changes : List Change) (c : Change) (w : Who) → all_undone (changes ++ c ∷ []) w ≡ all_undone changes (undone c w)
newest_first [] c w = refl
newest_first (d ∷ changes) c w = ap (undone d) (newest_first changes c w)

can_more : (changes : List Change) (c : Change) (w : Who) (count : ℕ) → CanUndo c w count → CanUndoAll changes (undone c w) count → CanUndoAll (changes ++ c ∷ []) w count
can_more [] c w count now can = (tt, now)
can_more (d ∷ changes) c w count now can =
    (can_more changes c w count now can.0, subst (λ (x : Who). CanUndo d x count) (sym (newest_first changes c w)) can.1)

pub can_newest : (changes : List Change) (c : Change) (w : Who) (count : ℕ) → CanUndoAll (changes ++ c ∷ []) w count → CanUndo c w count × CanUndoAll changes (undone c w) count
can_newest [] c w count can = (can.1, tt)
can_newest (d ∷ changes) c w count can =
    let rest = can_newest changes c w count can.0 in
    (rest.0, (rest.1, subst (λ (x : Who). CanUndo d x count) (newest_first changes c w) can.1))

-- with more rows as well
can_with_more : (c : Change) (w : Who) (count more : ℕ) → count ≤ more → CanUndo c w count → CanUndo c w more
can_with_more (Founded leader) w count more up can = can
can_with_more (Joined leader session) w count more up can = can
can_with_more (Left leader session gap) w count more up can = (can.0, can.1, (let below = can.2 in omega (arith, below, up)), can.3, can.4)

pub can_all_with_more : (changes : List Change) (w : Who) (count more : ℕ) → count ≤ more → CanUndoAll changes w count → CanUndoAll changes w more
can_all_with_more [] w count more up can = tt
can_all_with_more (c ∷ changes) w count more up can =
    (can_all_with_more changes w count more up can.0, can_with_more c (all_undone changes w) count more up can.1)

-- ---- one change more

pub same_who : (v w : Members) → AreSame v w → who_in w ≡ who_in v
same_who v w same = λ i. record { leader = λ n. same.leaders n i; joined = λ l. same.joined l i }

-- undoing a change that can be undone gives what was there before it, and then what undoing gave
pub gives_more : (l l' : Listed) (c : Change) (before : Who) → l'.changes ≡ l.changes ++ c ∷ [] → length l.members.rows ≤ length l'.members.rows
    → CanUndo c (who_in l'.members) (length l'.members.rows) → undone c (who_in l'.members) ≡ who_in l.members → UndoGives l before → UndoGives l' before
gives_more l l' c before changes up now back gives = record {
  can = subst (λ (cs : List Change). CanUndoAll cs (who_in l'.members) (length l'.members.rows)) (sym changes)
      (can_more l.changes c (who_in l'.members) (length l'.members.rows) now
      (can_all_with_more l.changes (undone c (who_in l'.members)) (length l.members.rows) (length l'.members.rows) up
      (subst (λ (x : Who). CanUndoAll l.changes x (length l.members.rows)) (sym back) gives.can)));
  back = ap (λ (cs : List Change). all_undone cs (who_in l'.members)) changes ∙ newest_first l.changes c (who_in l'.members) ∙ ap (all_undone l.changes) back ∙ gives.back;
}

-- where nothing of it changed
pub gives_still : (l l' : Listed) (before : Who) → l'.changes ≡ l.changes → length l.members.rows ≤ length l'.members.rows → who_in l'.members ≡ who_in l.members
    → UndoGives l before → UndoGives l' before
gives_still l l' before changes up same gives = record {
  can = subst (λ (cs : List Change). CanUndoAll cs (who_in l'.members) (length l'.members.rows)) (sym changes)
      (can_all_with_more l.changes (who_in l'.members) (length l.members.rows) (length l'.members.rows) up
      (subst (λ (x : Who). CanUndoAll l.changes x (length l.members.rows)) (sym same) gives.can));
  back = ap (λ (cs : List Change). all_undone cs (who_in l'.members)) changes ∙ ap (all_undone l.changes) same ∙ gives.back;
}

-- ---- one session, or one list

one_apart : (A : Type 0) (f g : ℕ → A) (s : ℕ) (a : A) → f s ≡ a → ((n : ℕ) → n ≢ s → f n ≡ g n) → (n : ℕ) → f n ≡ cond (nat_eq n s) a (g n)
one_apart A f g s a here others n = by (eqb_tells n s)
  where
    by : ((nat_eq n s ≡ true) × (n ≡ s)) ⊎ ((nat_eq n s ≡ false) × (n ≢ s)) → f n ≡ cond (nat_eq n s) a (g n)
    by (inl same) = ap f same.1 ∙ here ∙ ap (λ (b : Bool). cond b a (g n)) (sym same.0)
    by (inr other) = others n other.1 ∙ ap (λ (b : Bool). cond b a (g n)) (sym other.0)

pub with_leader_is : (v w : Who) (s : ℕ) (leader : Option ℕ) → w.leader s ≡ leader → ((n : ℕ) → n ≢ s → w.leader n ≡ v.leader n)
    → ((l : ℕ) → w.joined l ≡ v.joined l) → w ≡ with_leader v s leader
with_leader_is v w s leader here others joined = λ i. record {
  leader = λ n. one_apart (Option ℕ) w.leader v.leader s leader here others n i;
  joined = λ l. joined l i;
}

pub without_list_is : (v w : Who) (leader : ℕ) → ((n : ℕ) → w.leader n ≡ v.leader n) → w.joined leader ≡ false
    → ((l : ℕ) → l ≢ leader → w.joined l ≡ v.joined l) → w ≡ without_list v leader
without_list_is v w leader leaders here others = λ i. record {
  leader = λ n. leaders n i;
  joined = λ l. one_apart Bool w.joined v.joined leader false here others l i;
}
