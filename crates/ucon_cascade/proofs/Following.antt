-- The readers are exact, and the sessions grouped, after a head is followed.
use Rattle.std.proofs.Common.{◌≡◌, ◌≢◌, ◌↔◌, ◌∙◌, ◌≤◌, ℕ, List, sym, ap, subst, refl}
use Rattle.std.specs.Prelude.{Option, None, Some, IfSome, IsSome, ⊤}
use Rattle.std.specs.List.{Contains}
use Rattle.ucon_model.specs.declared.reply.Head.{Head}
use Rattle.ucon_model.specs.declared.reply.Head.TheVariants as heads
use Rattle.ucon_model.specs.declared.session.SessionRow.{SessionRow}
use Rattle.ucon_model.specs.Plain.{Bytes, PlainPolicy}
use Rattle.ucon_model.specs.Action.{Trace, extended}
use Rattle.ucon_model.specs.Readings.{session}
use Rattle.ucon_model.specs.Settle.{revocation}
use Rattle.ucon_model.specs.Usages.{going_on}
use Rattle.ucon_state.specs.Shown.{Shown}
use Rattle.ucon_state.specs.Tables.{session_in}
use Rattle.ucon_cascade.specs.Cascading.{WereExact}
use Rattle.ucon_cascade.specs.Grouping.{AreGrouped}
use Rattle.ucon_cascade.specs.Numbering.{IsExact}
use Rattle.ucon_cascade.proofs.Exact.{exact_still}
use Rattle.ucon_cascade.proofs.Grouped.{among_all, among_like, grouped_all, grouped_still}
use Rattle.ucon_cascade.proofs.Leaving.{exact_left, grouped_left}
use Rattle.ucon_cascade.proofs.Outcomes.{told_if}

-- the same who stand
pub exact_like : (s : Shown) (standing standing' : ℕ → List ℕ) → ((place : ℕ) → standing' place ≡ standing place) → IsExact s standing → IsExact s standing'
exact_like s standing standing' same exact = record {
  sound = λ n place stands. exact.sound n place (subst (λ (xs : List ℕ). Contains xs n) (same place) stands);
  complete = λ n place reads. subst (λ (xs : List ℕ). Contains xs n) (sym (same place)) (exact.complete n place reads);
  numbered = exact.numbered;
}

-- the same firsts
pub grouped_like : (s : Shown) (first first' : ℕ → ℕ) → ((n : ℕ) → first' n ≡ first n) → AreGrouped s first → AreGrouped s first'
grouped_like s first first' same grouped =
    grouped_all s (λ n. ⊤) first' (among_like s (λ n. ⊤) first first' same (among_all s first grouped)) (λ n goes. tt)

-- ---- a head that permits and ends nobody

module _ (s : Shown) (standing : ℕ → List ℕ) (first : ℕ → ℕ) (head : Head) (were : WereExact s standing first head) (no_permit : (n : ℕ) → head ≢ heads.Permitted n)
    (no_end : (n : ℕ) → head ≢ heads.Ended n) where
  pub follow_quiet : IsExact s standing
  follow_quiet = exact_still were.before s standing were.base were.exact (λ n. (were.told n).same (no_permit n) (no_end n))

  pub group_quiet : AreGrouped s first
  group_quiet = grouped_still were.before s first were.base were.grouped (λ n. (were.told n).same (no_permit n) (no_end n))

-- ---- one that ends session k

module _ (s : Shown) (standing : ℕ → List ℕ) (first : ℕ → ℕ) (k : ℕ) (were : WereExact s standing first (heads.Ended k)) where
  others_same : (n : ℕ) → n ≢ k → going_on (session_in s.tables n) ≡ going_on (session_in were.before.tables n)
  others_same n other = (were.told n).same (λ h. cc) (λ h. (let back : k ≡ n = cc in other (sym back)))

  pub follow_ended : (standing' : ℕ → List ℕ) → ((n place : ℕ) → Contains (standing' place) n ↔ ((n ≢ k) × Contains (standing place) n)) → IsExact s standing'
  follow_ended standing' left = exact_left were.before s k were.base ((were.told k).over refl) others_same standing standing' were.exact left

  pub group_ended : (first' : ℕ → ℕ) (next : Option ℕ) → ((m : ℕ) → first' m ≤ m) → ((m : ℕ) → m ≢ k → first m ≢ k → first' m ≡ first m)
      → ((m : ℕ) → m ≢ k → first m ≡ k → next ≡ Some (first' m)) → IfSome next (λ m. (m ≢ k) × (first m ≡ k) × (first' m ≡ m))
      → IfSome next (λ m. (place : ℕ) × Contains (standing place) m) → AreGrouped s first'
  group_ended first' next low same told at stands =
      grouped_left were.before s k were.base ((were.told k).over refl) others_same first first' were.grouped
      (record {
        low = low;
        same = same;
        next = λ m other was. (let all = told_if (λ m. (m ≢ k) × (first m ≡ k) × (first' m ≡ m)) next (first' m) (told m other was) at in
            record { other = all.0; was = all.1; is = all.2 });
      })
      (λ m next_one.
      let place = told_if (λ m. (place : ℕ) × Contains (standing place) m) next m (told m next_one.other next_one.was ∙ ap (λ (n : ℕ). Some n) next_one.is) stands in
      let reads = were.exact.sound m place.0 place.1 in
      subst (λ (o : Option SessionRow). IsSome o) (sym reads.is) refl)

-- ---- a revocation

-- a revocation of session k
abbrev pub IsOver : Type 0
IsOver = (P : PlainPolicy) (T : Trace) (f : ℕ × Bytes) → going_on (session (extended T (revocation P T f)) f.0) ≡ None

abbrev pub OthersStay : Type 0
OthersStay = (P : PlainPolicy) (T : Trace) (f : ℕ × Bytes) (n : ℕ) → n ≢ f.0 → session (extended T (revocation P T f)) n ≡ session T n
