-- The stages of undoing.
use Rattle.std.proofs.Common.{◌≡◌, ◌∙◌, zero, suc, refl, sym, ap, subst, List, [], ◌∷◌, ◌++◌}
use Rattle.ucon_model.specs.Plain.{Bytes, PlainPolicy}
use Rattle.ucon_state.specs.declared.change.Change.{Change}
use Rattle.ucon_state.specs.declared.change.Undo.{Undo}
use Rattle.ucon_state.specs.declared.change.Undo.TheVariants.{Changed}
use Rattle.ucon_state.specs.Tables.{Tables}
use Rattle.ucon_state.specs.Stored.{Stored, AreNumbered, named}
use Rattle.ucon_state.specs.Shown.{showing, changed_to}
use Rattle.ucon_state.specs.Undo.{undone, tables_before, policy_before, all_undone, policy_undone}
use Rattle.ucon_state.specs.Sound.{IsSound, HasRights, IsKept, AllSound}

-- the change that was made last is undone first
pub newest_first : (changes : List Undo) (u : Undo) (t : Stored) → all_undone (changes ++ u ∷ []) t ≡ all_undone changes (tables_before u t)
newest_first [] u t = refl
newest_first (d ∷ changes) u t = ap (tables_before d) (newest_first changes u t)

pub newest_policy : (changes : List Undo) (u : Undo) (P : PlainPolicy) → policy_undone (changes ++ u ∷ []) P ≡ policy_undone changes (policy_before u P)
newest_policy [] u P = refl
newest_policy (d ∷ changes) u P = ap (policy_before d) (newest_policy changes u P)

-- undoing a change that was added gives what undoing gave before
pub same_opening : (changes : List Undo) (u : Undo) (before after : Stored) → tables_before u after ≡ before → all_undone (changes ++ u ∷ []) after ≡ all_undone changes before
same_opening changes u before after back = newest_first changes u after ∙ ap (all_undone changes) back

pub same_opening_policy : (changes : List Undo) (u : Undo) (P Q : PlainPolicy) → policy_before u Q ≡ P → policy_undone (changes ++ u ∷ []) Q ≡ policy_undone changes P
same_opening_policy changes u P Q back = newest_policy changes u Q ∙ ap (policy_undone changes) back

module _ (R : List Bytes) where
  -- what holds of a policy and of tables at each stage
  abbrev pub Holds : PlainPolicy → Stored → Type 0
  Holds P t = IsKept P R t × HasRights P R

  at_one : (P Q : PlainPolicy) (t u : Stored) → P ≡ Q → t ≡ u → Holds P t → Holds Q u
  at_one P Q t u policy tables h = subst (λ (Q : PlainPolicy). Holds Q u) policy (subst (Holds P) tables h)

  -- with one more change to undo
  pub sound_with_one : (P Q : PlainPolicy) (changes : List Undo) (u : Undo) (before after : Stored) → policy_before u Q ≡ P → tables_before u after ≡ before
      → AllSound P R changes before → Holds Q after → AllSound Q R (changes ++ u ∷ []) after
  sound_with_one P Q [] u before after policy back all now zero = at_one P (policy_before u Q) before (tables_before u after) (sym policy) (sym back) (all zero)
  sound_with_one P Q [] u before after policy back all now (suc zero) = now
  sound_with_one P Q [] u before after policy back all now (suc (suc k)) = now
  sound_with_one P Q (d ∷ changes) u before after policy back all now zero =
      at_one (policy_before d (policy_undone changes P)) (policy_before d (policy_undone (changes ++ u ∷ []) Q))
      (tables_before d (all_undone changes before)) (tables_before d (all_undone (changes ++ u ∷ []) after))
      (ap (policy_before d) (sym (same_opening_policy changes u P Q policy))) (ap (tables_before d) (sym (same_opening changes u before after back))) (all zero)
  sound_with_one P Q (d ∷ changes) u before after policy back all now (suc k) =
      sound_with_one P Q changes u before after policy back (λ i. all (suc i)) now k

  -- after one was undone
  pub sound_without_one : (P : PlainPolicy) (changes : List Undo) (u : Undo) (t : Stored) → AllSound P R (changes ++ u ∷ []) t
      → AllSound (policy_before u P) R changes (tables_before u t)
  sound_without_one P [] u t all zero = all zero
  sound_without_one P [] u t all (suc k) = all zero
  sound_without_one P (d ∷ changes) u t all zero =
      at_one (policy_before d (policy_undone (changes ++ u ∷ []) P)) (policy_before d (policy_undone changes (policy_before u P)))
      (tables_before d (all_undone (changes ++ u ∷ []) t)) (tables_before d (all_undone changes (tables_before u t)))
      (ap (policy_before d) (newest_policy changes u P)) (ap (tables_before d) (newest_first changes u t)) (all zero)
  sound_without_one P (d ∷ changes) u t all (suc k) = sound_without_one P changes u t (λ i. all (suc i)) k

module _ (P : PlainPolicy) (R : List Bytes) where
  -- with nothing to undo the tables are as they should be at each stage
  pub sound_alone : (t : Stored) → IsKept P R t → HasRights P R → AllSound P R [] t
  sound_alone t s rights zero = (s, rights)
  sound_alone t s rights (suc k) = (s, rights)

  pub holds_now : (changes : List Undo) (t : Stored) → AllSound P R changes t → IsKept P R t × HasRights P R
  holds_now [] t all = all zero
  holds_now (c ∷ changes) t all = holds_now changes t (λ k. all (suc k))

  -- the tables now are sound, and their sessions' numbers have their names
  pub kept_now : (changes : List Undo) (t : Stored) → AllSound P R changes t → IsKept P R t
  kept_now changes t all = (holds_now changes t all).0

  pub sound_now : (changes : List Undo) (t : Stored) → AllSound P R changes t → IsSound P t
  sound_now changes t all = (kept_now changes t all).0

  pub numbered_now : (changes : List Undo) (t : Stored) → AllSound P R changes t → AreNumbered R t.subjects t.objects t.sessions
  numbered_now changes t all = (kept_now changes t all).1

  -- after a change that was noted the tables are so at each stage
  pub noted_sound : (old new : List Undo) (c : Change) (before after : Stored)
      → new ≡ old ++ Changed c ∷ [] → undone c after ≡ before → AllSound P R old before → IsKept P R after → AllSound P R new after
  noted_sound old new c before after added back all now =
      subst (λ cs. AllSound P R cs after) (sym added)
      (sound_with_one R P P old (Changed c) before after refl back all (now, (holds_now old before all).1))

  -- and what the state shows has changed to what these tables stand for
  pub noted_shown : (old new : List Undo) (c : Change) (before after : Stored) (wanted : Tables)
      → new ≡ old ++ Changed c ∷ [] → undone c after ≡ before → named R after ≡ wanted
      → showing P R after new ≡ changed_to (showing P R before old) wanted
  noted_shown old new c before after wanted added back is =
      let opening = ap (λ cs. named R (all_undone cs after)) added ∙ ap (named R) (same_opening old (Changed c) before after back) in
      let policy = ap (λ cs. policy_undone cs P) added ∙ same_opening_policy old (Changed c) P P refl in
      λ j. record { policy = P; tables = is j; opening_policy = policy j; opening = opening j }
