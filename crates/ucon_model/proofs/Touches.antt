-- What a cascade costs: its judgements are paid for by touches.
use Rattle.std.proofs.Common.{◌≡◌, ◌⊎◌, inl, inr, ℕ, ◌+◌, ◌≤◌, Bool, true, false, cond, List, [], ◌∷◌, ◌++◌, refl, sym, ap, subst, ◌∙◌, arith}
use Rattle.std.specs.Prelude.{◌≢◌, ◌&&◌, ◌||◌, nat_eq, not, Option, Some, None}
use Rattle.std.specs.Option.{option_map_or}
use Rattle.std.specs.List.{list_any}
use Rattle.std.proofs.lemmas.Bool.{cases_eq, eq-eqb, ne_eqb}
use Rattle.ucon_model.specs.declared.policy.When.{When}
use Rattle.ucon_model.specs.declared.policy.When.TheVariants.{AfterRevoke}
use Rattle.ucon_model.specs.declared.session.SessionRow.{SessionRow}
use Rattle.ucon_model.specs.Plain.{Bytes, PlainPolicy}
use Rattle.ucon_model.specs.Action.{Action, Trace, write, revoke, extended}
use Rattle.ucon_model.specs.Readings.{in_force, session, is_accessing}
use Rattle.ucon_model.specs.Updates.{session_writes}
use Rattle.ucon_model.specs.Settle.{revocation}
use Rattle.ucon_model.specs.Reach.{Location, attribute_of, reads_at, readers, session_targets}
use Rattle.ucon_model.specs.Work.{Work, without}
use Rattle.ucon_model.specs.Touches.{touches, touches_by, sum_to, owes, IsPaid, IsThrifty}
use Rattle.ucon_model.proofs.Extending.{extended-append}
use Rattle.ucon_model.proofs.Frames.{in_force-step, session-step}
use Rattle.ucon_model.proofs.TargetWrites.{WriteAt, none, one, session_writes_at}
use Rattle.ucon_model.proofs.Readers.{session_targets-revoke}
use Rattle.ucon_model.proofs.Revoking.{revoked_off, session-revocation}
use Rattle.ucon_model.proofs.Sums.{sum-le, sum-plus, one_at, sum-one}

pub touches_by-append : (P : PlainPolicy) (T : Trace) (xs ys : List Action) (n : ℕ)
    → touches_by P T (xs ++ ys) n ≡ touches_by P T xs n + touches_by P (extended T xs) ys n
touches_by-append P T [] ys n = omega arith
touches_by-append P T (a ∷ xs) ys n = omega (arith, touches_by-append P (a ∷ T) xs ys n)

-- ---- who reads what is written is touched

-- an accessing session is touched by writes, where it reads at one of their locations
writes_touch : (P : PlainPolicy) (n : ℕ) (other : SessionRow) (actions : List Action) (locations : List Location) → WriteAt actions locations
    → (T : Trace) → session T n ≡ Some other → is_accessing (Some other) ≡ true → list_any (reads_at (in_force P T) other) locations ≡ true
    → 1 ≤ touches_by P T actions n
writes_touch P n other actions locations none T is on reads = absurd cc
writes_touch P n other actions locations (one {actions = more} {locations = others} side name attr v rest) T is on reads =
    let U : Trace = write side name attr v ∷ T in
    let stays : in_force P U ≡ in_force P T = in_force-step P T (write side name attr v) refl in
    here_or_later (reads_at (in_force P T) other (attribute_of side name attr)) refl reads
    (λ later. writes_touch P n other more others rest U is on (ap (λ (Q : PlainPolicy). list_any (reads_at Q other) others) stays ∙ later))
  where
    here_or_later : (b : Bool) → reads_at (in_force P T) other (attribute_of side name attr) ≡ b
        → (b || list_any (reads_at (in_force P T) other) others) ≡ true
        → (list_any (reads_at (in_force P T) other) others ≡ true → 1 ≤ touches_by P (write side name attr v ∷ T) more n)
        → 1 ≤ touches P T (write side name attr v) n + touches_by P (write side name attr v ∷ T) more n
    here_or_later true now h behind =
        let touched : touches P T (write side name attr v) n ≡ 1 = rw (is, on, now) refl in
        omega (arith, touched)
    here_or_later false now h behind = omega (arith, behind h)

-- session m's writes touch each accessing session that reads one of its targets
pub session_writes_touch : (P : PlainPolicy) (m : ℕ) (when : When) (T : Trace) (n : ℕ) → is_accessing (session T n) ≡ true
    → readers P T (session_targets P T m when) n ≡ true → 1 ≤ touches_by P T (session_writes P m when T) n
session_writes_touch P m when T n on reads = by_row (session T n) refl on reads
  where
    by_row : (o : Option SessionRow) → session T n ≡ o → is_accessing o ≡ true
        → option_map_or (λ row. list_any (reads_at (in_force P T) row) (session_targets P T m when)) o false ≡ true
        → 1 ≤ touches_by P T (session_writes P m when T) n
    by_row None is on reads = absurd cc
    by_row (Some other) is on reads = writes_touch P n other _ _ (session_writes_at P m when T) T is on reads

-- where its row and the policy in force are the same at two times, a session reads the same
pub reads_same : (P : PlainPolicy) (T U : Trace) (locations : List Location) (n : ℕ) → in_force P U ≡ in_force P T → session U n ≡ session T n
    → readers P U locations n ≡ readers P T locations n
reads_same P T U locations n stays same =
    ap (λ (Q : PlainPolicy). option_map_or (λ row. list_any (reads_at Q row) locations) (session U n) false) stays
    ∙ ap (λ (o : Option SessionRow). option_map_or (λ row. list_any (reads_at (in_force P T) row) locations) o false) same

-- a revocation touches each other accessing session that reads what its updates write
revocation_touches : (P : PlainPolicy) (U : Trace) (f : ℕ × Bytes) (n : ℕ) → n ≢ f.0 → is_accessing (session U n) ≡ true
    → readers P U (session_targets P U f.0 AfterRevoke) n ≡ true → 1 ≤ touches_by P U (revocation P U f) n
revocation_touches P U f n other on reads =
    let V : Trace = revoke f.0 f.1 ∷ U in
    let same : session V n ≡ session U n = session-step U (revoke f.0 f.1) n (ne_eqb n f.0 other) in
    let there : readers P V (session_targets P V f.0 AfterRevoke) n ≡ true =
    reads_same P U V (session_targets P V f.0 AfterRevoke) n (in_force-step P U (revoke f.0 f.1) refl) same
    ∙ ap (λ (locations : List Location). readers P U locations n) (session_targets-revoke P U f.0 f.0 f.1 AfterRevoke) ∙ reads in
    omega (arith, session_writes_touch P f.0 AfterRevoke V n (ap is_accessing same ∙ on) there)

-- ---- what is owed

-- where each that owes is touched, all is paid
pub paid-begins : (P : PlainPolicy) (T : Trace) (actions : List Action) (first : ℕ → ℕ) (work : Work) (k : ℕ)
    → ((n : ℕ) → is_accessing (session (extended T actions) n) ≡ true → work (first n) ≡ true → 1 ≤ touches_by P T actions n)
    → IsPaid P T actions first work 0 k
paid-begins P T actions first work k touched = omega (arith, sum-le (owes (extended T actions) first work) (touches_by P T actions) each k)
  where
    by_tests : (n : ℕ) (a b : Bool) → (a ≡ true → b ≡ true → 1 ≤ touches_by P T actions n) → cond (a && b) 1 0 ≤ touches_by P T actions n
    by_tests n true true h = h refl refl
    by_tests n true false h = omega arith
    by_tests n false b h = omega arith

    each : (n : ℕ) → owes (extended T actions) first work n ≤ touches_by P T actions n
    each n = by_tests n (is_accessing (session (extended T actions) n)) (work (first n)) (touched n)

-- one that is judged and holds owes no more, and nobody owes more than before
owed-holds : (U : Trace) (first : ℕ → ℕ) (work : Work) (n : ℕ) → is_accessing (session U n) ≡ true → first n ≡ n → work n ≡ true
    → (m : ℕ) → owes U first (without n work) m + one_at n m ≤ owes U first work m
owed-holds U first work n on own there m = by_number (cases_eq m n)
  where
    less : (a b c : Bool) → cond (a && (not c && b)) 1 0 ≤ cond (a && b) 1 0
    less true b true = omega arith
    less true b false = omega arith
    less false b c = omega arith

    by_number : (m ≡ n) ⊎ (m ≡ n → ⊥) → owes U first (without n work) m + one_at n m ≤ owes U first work m
    by_number (inl same) =
        let now : is_accessing (session U m) ≡ true = ap (λ (j : ℕ). is_accessing (session U j)) same ∙ on in
        let mine : first m ≡ n = ap first same ∙ own in
        let is : nat_eq n n ≡ true = eq-eqb n n refl in
        let one : nat_eq m n ≡ true = eq-eqb m n same in
        rw (now, mine, is, one, there) (omega arith)
    by_number (inr other) =
        let none : nat_eq m n ≡ false = ne_eqb m n other in
        rw none (omega (arith, less (is_accessing (session U m)) (work (first m)) (nat_eq (first m) n)))

-- one that is revoked owes no more, and who owes more is touched
owed-fails : (P : PlainPolicy) (U : Trace) (f : ℕ × Bytes) (first : ℕ → ℕ) (work : Work) (new_first : ℕ → ℕ) (next : Work) → is_accessing (session U f.0) ≡ true
    → first f.0 ≡ f.0 → work f.0 ≡ true → IsThrifty P U f first work new_first next
    → (m : ℕ) → owes (extended U (revocation P U f)) new_first next m + one_at f.0 m ≤ owes U first work m + touches_by P U (revocation P U f) m
owed-fails P U f first work new_first next on own there thrifty m = by_number (cases_eq m f.0)
  where
    by_tests : (a b : Bool) → (a ≡ true → b ≡ true → 1 ≤ owes U first work m + touches_by P U (revocation P U f) m)
        → cond (a && b) 1 0 ≤ owes U first work m + touches_by P U (revocation P U f) m
    by_tests true true h = h refl refl
    by_tests true false h = omega arith
    by_tests false b h = omega arith

    paid_by : m ≢ f.0 → is_accessing (session U m) ≡ true → (work (first m) ≡ true) ⊎ (readers P U (session_targets P U f.0 AfterRevoke) m ≡ true)
        → 1 ≤ owes U first work m + touches_by P U (revocation P U f) m
    paid_by other before (inl owed) = rw (before, owed) (omega arith)
    paid_by other before (inr reads) = omega (arith, revocation_touches P U f m other before reads)

    by_number : (m ≡ f.0) ⊎ (m ≡ f.0 → ⊥)
        → owes (extended U (revocation P U f)) new_first next m + one_at f.0 m ≤ owes U first work m + touches_by P U (revocation P U f) m
    by_number (inl same) =
        let off : is_accessing (session (extended U (revocation P U f)) m) ≡ false =
        ap (λ (j : ℕ). is_accessing (session (extended U (revocation P U f)) j)) same ∙ revoked_off P U f in
        let now : is_accessing (session U m) ≡ true = ap (λ (j : ℕ). is_accessing (session U j)) same ∙ on in
        let mine : work (first m) ≡ true = ap (λ (j : ℕ). work (first j)) same ∙ ap work own ∙ there in
        let one : nat_eq m f.0 ≡ true = eq-eqb m f.0 same in
        rw (off, now, mine, one) (omega arith)
    by_number (inr other) =
        let none : nat_eq m f.0 ≡ false = ne_eqb m f.0 other in
        let before : is_accessing (session (extended U (revocation P U f)) m) ≡ true → is_accessing (session U m) ≡ true =
        λ after. ap is_accessing (sym (session-revocation P U f m other)) ∙ after in
        let le = by_tests (is_accessing (session (extended U (revocation P U f)) m)) (next (new_first m)) (λ a b. paid_by other (before a) (thrifty m a b)) in
        rw none (omega (arith, le))

-- one judgement is paid for by what the judged session owed
pub paid-holds : (P : PlainPolicy) (T : Trace) (actions : List Action) (first : ℕ → ℕ) (work : Work) (steps k n : ℕ) → IsPaid P T actions first work steps k
    → 1 ≤ n → n ≤ k → is_accessing (session (extended T actions) n) ≡ true → first n ≡ n → work n ≡ true
    → IsPaid P T actions first (without n work) (steps + 1) k
paid-holds P T actions first work steps k n paid low high on own there =
    let U : Trace = extended T actions in
    let le = sum-le (λ m. owes U first (without n work) m + one_at n m) (owes U first work) (owed-holds U first work n on own there) k in
    omega (arith, paid, le, sum-plus (owes U first (without n work)) (one_at n) k, sum-one n k low high)

-- a revocation is paid for by what the revoked session owed, and who comes in by the writes that it reads
pub paid-fails : (P : PlainPolicy) (T : Trace) (actions : List Action) (first : ℕ → ℕ) (work : Work) (steps k : ℕ) (f : ℕ × Bytes) (new_first : ℕ → ℕ) (next : Work)
    → IsPaid P T actions first work steps k → 1 ≤ f.0 → f.0 ≤ k → is_accessing (session (extended T actions) f.0) ≡ true → first f.0 ≡ f.0 → work f.0 ≡ true
    → IsThrifty P (extended T actions) f first work new_first next
    → IsPaid P T (actions ++ revocation P (extended T actions) f) new_first next (steps + 1) k
paid-fails P T actions first work steps k f new_first next paid low high on own there thrifty =
    let U : Trace = extended T actions in
    let rest : List Action = revocation P U f in
    let le = sum-le (λ m. owes (extended U rest) new_first next m + one_at f.0 m) (λ m. owes U first work m + touches_by P U rest m)
    (owed-fails P U f first work new_first next on own there thrifty) k in
    let all = sum-le (λ m. touches_by P T actions m + touches_by P U rest m) (touches_by P T (actions ++ rest))
    (λ m. omega (arith, touches_by-append P T actions rest m)) k in
    let after : steps + 1 + sum_to (owes (extended U rest) new_first next) k ≤ sum_to (touches_by P T (actions ++ rest)) k =
    omega (
      arith,
      paid,
      le,
      all,
      sum-plus (owes (extended U rest) new_first next) (one_at f.0) k,
      sum-one f.0 k low high,
      sum-plus (owes U first work) (touches_by P U rest) k,
      sum-plus (touches_by P T actions) (touches_by P U rest) k,
    ) in
    subst (λ (V : Trace). steps + 1 + sum_to (owes V new_first next) k ≤ sum_to (touches_by P T (actions ++ rest)) k) (sym (extended-append T actions rest)) after

-- so the judgements are no more than the touches
pub paid-ends : (P : PlainPolicy) (T : Trace) (actions : List Action) (first : ℕ → ℕ) (work : Work) (steps k : ℕ) → IsPaid P T actions first work steps k
    → steps ≤ sum_to (touches_by P T actions) k
paid-ends P T actions first work steps k paid = omega (arith, paid)
