-- How often actions touch sessions, which is what a cascade may cost.
use Rattle.std.specs.Prelude.{◌≡◌, ◌⊎◌, ℕ, zero, suc, ◌+◌, ◌≤◌, true, ◌&&◌, nat_eq, filter, length, List, [], ◌∷◌, if◌then◌else◌}
use Rattle.std.specs.Option.{option_map_or}
use Rattle.ucon_model.specs.declared.policy.When.TheVariants.{AfterRevoke}
use Rattle.ucon_model.specs.declared.session.SessionRow.{SessionRow}
use Rattle.ucon_model.specs.Plain.{Bytes, PlainPolicy}
use Rattle.ucon_model.specs.Action.{Action, Trace, write, env, tick, permit, amend, extended}
use Rattle.ucon_model.specs.Readings.{in_force, tick_of, session, is_accessing}
use Rattle.ucon_model.specs.Settle.{revocation}
use Rattle.ucon_model.specs.Reach.{timed_of, attribute_of, variable_of, reads_at, readers, session_targets}
use Rattle.ucon_model.specs.Deadlines.{deadlines, has_between}
use Rattle.ucon_model.specs.Work.{Work}

-- ---- touches

-- how often an action after a trace touches an accessing session: a write once if its right reads what is written; a tick once for each
-- of its timed parts of which it passes a deadline; an amendment once
abbrev pub touches_row : PlainPolicy → Trace → Action → SessionRow → ℕ
touches_row P T (write side name attr v) row = if reads_at (in_force P T) row (attribute_of side name attr) then 1 else 0
touches_row P T (env name v) row = if reads_at (in_force P T) row (variable_of name) then 1 else 0
touches_row P T (tick t) row = length (filter (λ part. has_between (tick_of T) t (deadlines T row part)) (timed_of (in_force P T) row))
touches_row P T (amend text Q) row = 1
touches_row P T a row = 0

-- how often an action after a trace touches session n: a permit its own session once, and every other only accessing ones
abbrev pub touches : PlainPolicy → Trace → Action → ℕ → ℕ
touches P T (permit m) n = if nat_eq n m then 1 else 0
touches P T a n = if is_accessing (session T n) then option_map_or (touches_row P T a) (session T n) 0 else 0

-- how often these actions touch session n, each after those before it
abbrev pub touches_by : PlainPolicy → Trace → List Action → ℕ → ℕ
touches_by P T [] n = 0
touches_by P T (a ∷ actions) n = touches P T a n + touches_by P (a ∷ T) actions n

-- the sum over 1 to k
abbrev pub sum_to : (ℕ → ℕ) → ℕ → ℕ
sum_to f zero = 0
sum_to f (suc k) = sum_to f k + f (suc k)

-- ---- what is paid for

-- 1 for each accessing session with the first of its list in the work: a list in the work owes its length
abbrev pub owes : Trace → (ℕ → ℕ) → Work → ℕ → ℕ
owes U first work n = if is_accessing (session U n) && work (first n) then 1 else 0

-- the judgements so far and what the work owes are paid for by the touches of the actions so far, of the sessions 1 to k
abbrev pub IsPaid : PlainPolicy → Trace → List Action → (ℕ → ℕ) → Work → ℕ → ℕ → Type 0
IsPaid P T actions first work steps k = steps + sum_to (owes (extended T actions) first work) k ≤ sum_to (touches_by P T actions) k

-- no more comes in than has to: who owes after a revocation owed before it, or reads what its updates wrote
abbrev pub IsThrifty : PlainPolicy → Trace → ℕ × Bytes → (ℕ → ℕ) → Work → (ℕ → ℕ) → Work → Type 0
IsThrifty P U f first work new_first next =
    (n : ℕ) → is_accessing (session (extended U (revocation P U f)) n) ≡ true → next (new_first n) ≡ true
    → (work (first n) ≡ true) ⊎ (readers P U (session_targets P U f.0 AfterRevoke) n ≡ true)
