-- The cascade by a list of work: only who is in it is rechecked.
use Rattle.std.specs.Prelude.{◌≡◌, ℕ, ◌<◌, ◌≤◌, Bool, true, false, ◌&&◌, ◌||◌, not, nat_eq, List, [], ◌∷◌, ◌++◌, Some, None}
use Rattle.std.specs.List.{list_any}
use Rattle.ucon_model.specs.declared.command.Caller.{Caller}
use Rattle.ucon_model.specs.declared.command.Command.{Command}
use Rattle.ucon_model.specs.declared.command.Command.TheVariants.{Set, Env, Tick, Try, Again, Beat, End, Amend}
use Rattle.ucon_model.specs.declared.policy.When.TheVariants.{Before, During, AfterEnd, AfterRevoke}
use Rattle.ucon_model.specs.declared.reply.Head.{Head}
use Rattle.ucon_model.specs.declared.reply.Head.TheVariants as heads
use Rattle.ucon_model.specs.Plain.{Bytes, PlainPolicy}
use Rattle.ucon_model.specs.Action.{Action, Trace, tries, extended}
use Rattle.ucon_model.specs.Readings.{session, is_accessing}
use Rattle.ucon_model.specs.Settle.{fails_at, revocation}
use Rattle.ucon_model.specs.Reach.{attribute_of, variable_of, readers, session_targets, reached, permits}
use Rattle.ucon_model.specs.Deadlines.{is_due}

-- ---- sets of sessions

-- the numbers of the sessions that are to be rechecked
abbrev pub Work : Type 0
Work = ℕ → Bool

abbrev pub nobody : Work
nobody n = false

abbrev pub everybody : Work
everybody n = true

abbrev pub only : ℕ → Work
only n m = nat_eq m n

abbrev pub without : ℕ → Work → Work
without n work m = not (nat_eq m n) && work m

abbrev pub joined : Work → Work → Work
joined work more n = work n || more n

abbrev pub IsEmpty : Work → Type 0
IsEmpty work = (n : ℕ) → work n ≡ false

-- its members are at most the bound
abbrev pub IsBounded : Work → ℕ → Type 0
IsBounded work bound = (n : ℕ) → work n ≡ true → n ≤ bound

-- each accessing session of the one is in the other
abbrev pub IsWithin : Trace → Work → Work → Type 0
IsWithin T work more = (n : ℕ) → is_accessing (session T n) ≡ true → work n ≡ true → more n ≡ true

pub record IsLeastOf (work : Work) (n : ℕ) : Type 0 where
  pub there : work n ≡ true
  pub lower : (m : ℕ) → m < n → work m ≡ false

-- ---- working off

-- no accessing session fails
abbrev pub NobodyFails : PlainPolicy → Trace → Type 0
NobodyFails P T = (n : ℕ) → fails_at P T n ≡ None

-- each accessing session that fails is in the work
abbrev pub Covers : PlainPolicy → Trace → Work → Type 0
Covers P T work = (n : ℕ) (label : Bytes) → fails_at P T n ≡ Some label → work n ≡ true

-- whom actions after a trace concern: who is permitted by one of them, and who reads what one of them reaches
abbrev pub concerned : PlainPolicy → Trace → List Action → Work
concerned P T actions n = list_any (permits n) actions || reached P T actions n

-- the work once session n of it is revoked: the others, and who reads what its updates wrote
abbrev pub work_after : PlainPolicy → Trace → Work → ℕ → Work
work_after P T work n = without n (joined work (readers P T (session_targets P T n AfterRevoke)))

-- Working off: the least member is taken; if it doesn't fail it is left out; if it does it is revoked, its updates run, and who
-- reads what they wrote comes in. More may come in than has to.
pub data WorksOff (P : PlainPolicy) : Trace → Work → List Action → Type 0 where
  done : {T : Trace} {work : Work} → IsEmpty work → WorksOff P T work []
  holds : {T : Trace} {work : Work} {actions : List Action} (n : ℕ) → IsLeastOf work n → fails_at P T n ≡ None
      → WorksOff P T (without n work) actions → WorksOff P T work actions
  fails : {T : Trace} {work : Work} {actions : List Action} (f : ℕ × Bytes) (next : Work) → IsLeastOf work f.0 → fails_at P T f.0 ≡ Some f.1
      → IsWithin (extended T (revocation P T f)) (work_after P T work f.0) next → WorksOff P (extended T (revocation P T f)) next actions
      → WorksOff P T work (revocation P T f ++ actions)

-- ---- after a command's own actions

-- The work after a command's own actions, by the head of its reply, if nobody failed before them. It has who reads where they write, who is
-- permitted, and of whom the tick passed a limit. An amendment concerns everybody. An act makes nobody fail, and nobody reads of an entity that is
-- new.
abbrev pub own_work : PlainPolicy → Trace → Caller → Command → Head → Work
own_work P T caller (Set side name attr v) head = readers P T (attribute_of side name attr ∷ [])
own_work P T caller (Env name v) head = readers P T (variable_of name ∷ [])
own_work P T caller (Tick t) head = is_due P T t
own_work P T caller (Try s r o) (heads.Permitted n) = joined (only n) (readers P T (session_targets P (tries n caller s r o ∷ T) n Before))
own_work P T caller (Again m) (heads.Permitted n) = joined (only n) (readers P T (session_targets P T n Before))
own_work P T caller (Beat n) head = readers P T (session_targets P T n During)
own_work P T caller (End n) head = readers P T (session_targets P T n AfterEnd)
own_work P T caller (Amend a) head = everybody
own_work P T caller c head = nobody
