-- So many turns of a settling, and one more.
use Rattle.std.proofs.Common.{◌≡◌, ℕ, zero, suc, ◌+◌, ◌≤◌, List, [], ◌∷◌, ◌++◌, refl, sym, ap, ◌∙◌, append_assoc, arith}
use Rattle.std.specs.Prelude.{Option, Some, None}
use Rattle.std.specs.Option.{option_map_or}
use Rattle.std.proofs.lemmas.List.{append-nil}
use Rattle.ucon_model.specs.Plain.{Bytes, PlainPolicy}
use Rattle.ucon_model.specs.Action.{Action, Trace, extended, followed_by}
use Rattle.ucon_model.specs.Settle.{least_failing, revocation, settle_within, settled_to, revoked_in}
use Rattle.ucon_model.proofs.Cascades.{none_within}
use Rattle.ucon_model.proofs.Extending.{extended-append}
use Rattle.ucon_model.proofs.Revoking.{one_more_revoked}

-- a turn, and then so many
abbrev turned : ℕ → PlainPolicy → Trace → ℕ × Bytes → List Action
turned k P T f = followed_by (revocation P T f) (settle_within k P) T

turned-end : (k : ℕ) (P : PlainPolicy) (T : Trace) (f : ℕ × Bytes) → extended T (turned k P T f) ≡ settled_to k P (extended T (revocation P T f))
turned-end k P T f = extended-append T (revocation P T f) (settle_within k P (extended T (revocation P T f)))

-- ---- one turn more

abbrev LastTurn : ℕ → PlainPolicy → Type 0
LastTurn k P = (T : Trace) (f : ℕ × Bytes) → least_failing P (settled_to k P T) ≡ Some f
    → settle_within (k + 1) P T ≡ settle_within k P T ++ revocation P (settled_to k P T) f

first_turn : (P : PlainPolicy) (T : Trace) (f : ℕ × Bytes) → least_failing P T ≡ Some f → settle_within 1 P T ≡ revocation P T f
first_turn P T f e = rw e (append-nil (revocation P T f))

after_turn : (k : ℕ) (P : PlainPolicy) (T : Trace) (f : ℕ × Bytes) (o : Option (ℕ × Bytes)) → LastTurn k P
    → least_failing P (extended T (option_map_or (turned k P T) o [])) ≡ Some f → least_failing P T ≡ o
    → option_map_or (turned (k + 1) P T) o [] ≡ option_map_or (turned k P T) o [] ++ revocation P (extended T (option_map_or (turned k P T) o [])) f
after_turn k P T f None rest e is = absurd cc
after_turn k P T f (Some g) rest e is =
    let U : Trace = extended T (revocation P T g) in
    let last = rest U f (ap (least_failing P) (sym (turned-end k P T g)) ∙ e) in
    ap (λ (xs : List Action). revocation P T g ++ xs) last
    ∙ sym (append_assoc (revocation P T g) (settle_within k P U) (revocation P (settled_to k P U) f))
    ∙ ap (λ (V : Trace). turned k P T g ++ revocation P V f) (sym (turned-end k P T g))

pub settle_within-last : (k : ℕ) (P : PlainPolicy) → LastTurn k P
settle_within-last zero P T f e = first_turn P T f e
settle_within-last (suc k) P T f e =
    let more : suc k + 1 ≡ suc (k + 1) = omega arith in
    ap (λ (m : ℕ). settle_within m P T) more ∙ after_turn k P T f (least_failing P T) (settle_within-last k P) e refl

-- the trace after one turn more
pub settled_to-more : (k : ℕ) (P : PlainPolicy) (T : Trace) (f : ℕ × Bytes) → least_failing P (settled_to k P T) ≡ Some f
    → settled_to (k + 1) P T ≡ extended (settled_to k P T) (revocation P (settled_to k P T) f)
settled_to-more k P T f e =
    ap (extended T) (settle_within-last k P T f e) ∙ extended-append T (settle_within k P T) (revocation P (settled_to k P T) f)

-- one more is revoked
pub revoked_in-more : (k : ℕ) (P : PlainPolicy) (T : Trace) (f : ℕ × Bytes) → least_failing P (settled_to k P T) ≡ Some f
    → revoked_in (settle_within (k + 1) P T) ≡ revoked_in (settle_within k P T) ++ record { session = f.0; label = f.1 } ∷ []
revoked_in-more k P T f e = ap revoked_in (settle_within-last k P T f e) ∙ one_more_revoked P (settle_within k P T) (settled_to k P T) f

-- ---- nothing is left

abbrev NothingLeft : ℕ → PlainPolicy → Type 0
NothingLeft i P = (T : Trace) (k : ℕ) → i ≤ k → least_failing P (settled_to i P T) ≡ None → settle_within k P T ≡ settle_within i P T

nothing_behind : (i k : ℕ) (P : PlainPolicy) (T : Trace) (o : Option (ℕ × Bytes)) → NothingLeft i P → i ≤ k
    → least_failing P (extended T (option_map_or (turned i P T) o [])) ≡ None
    → option_map_or (turned k P T) o [] ≡ option_map_or (turned i P T) o []
nothing_behind i k P T None rest le e = refl
nothing_behind i k P T (Some f) rest le e =
    ap (λ (xs : List Action). revocation P T f ++ xs) (rest (extended T (revocation P T f)) k le (ap (least_failing P) (sym (turned-end i P T f)) ∙ e))

nothing_left_by : (i k : ℕ) (P : PlainPolicy) (T : Trace) → NothingLeft i P → suc i ≤ k → least_failing P (settled_to (suc i) P T) ≡ None
    → settle_within k P T ≡ settle_within (suc i) P T
nothing_left_by i zero P T rest le e = absurd (omega arith)
nothing_left_by i (suc k) P T rest le e = nothing_behind i k P T (least_failing P T) rest (omega (arith, le)) e

pub settle_within-done : (i : ℕ) (P : PlainPolicy) → NothingLeft i P
settle_within-done zero P T k le none = none_within P T k none
settle_within-done (suc i) P T k le none = nothing_left_by i k P T (settle_within-done i P) le none
