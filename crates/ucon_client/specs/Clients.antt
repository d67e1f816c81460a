-- What one client's answers say of the list that its seat has seen, and what all clients were told.
use Rattle.std.specs.Prelude.{◌≡◌, ◌≢◌, ℕ, ◌+◌, ◌<◌, ◌≤◌, IsTrue, IsSome, Option, Some, None, nat_eq, List, [], ◌∷◌, ◌++◌, length, take, drop, map, if◌then◌else◌, ⊤}
use Rattle.std.specs.List.{filter}
use Rattle.ucon_base.specs.Elements.{Each}
use Rattle.ucon_turn.specs.Lists.{Has}
use Rattle.ucon_model.specs.declared.command.Entry.{Entry}
use Rattle.ucon_model.specs.declared.command.Caller.{Caller}
use Rattle.ucon_model.specs.declared.command.Command.{Command}
use Rattle.ucon_model.specs.Plain.{PlainReply}
use Rattle.ucon_model.specs.History.{History, changes}
use Rattle.ucon_model.specs.LegalRun.{Answer, no_memory, disk_fault, stopped, placed, Answered, AreInOrder, own_answers, recorded, is_disk_fault, stands_on}
use Rattle.ucon_store.specs.declared.event.Event.{Event}
use Rattle.ucon_client.specs.Events.{entries_in, marks_in, EndsAtMark, appended}

-- ---- what is said

-- what a command of a caller is replied behind a history
abbrev pub Replies : Type 0
Replies = History → Caller → Command → PlainReply

-- a placed reply is the one behind the entries that it stands on, of which the opening history is a part
abbrev pub IsSaidBy : Replies → ℕ → History → Entry → Answer → Type 0
IsSaidBy says opening H line (placed place reply) =
    (opening ≤ stands_on place reply) × (stands_on place reply ≤ length H) × (reply ≡ says (take (stands_on place reply) H) line.caller line.command)
IsSaidBy says opening H line no_memory = ⊤
IsSaidBy says opening H line disk_fault = ⊤
IsSaidBy says opening H line stopped = ⊤

-- a history with the entry, if its reply behind it changes something
abbrev pub grown_by : Replies → History → Entry → History
grown_by says H e = if changes (says H e.caller e.command) then H ++ e ∷ [] else H

-- ---- one step

-- what a store's step does to its history and its mark, by the answer to the line
abbrev pub Stepped : Replies → Entry → History → Option Entry → History → Option Entry → Answer → Type 0
Stepped says line H mark later next (placed place reply) =
    (mark ≡ None) × (reply ≡ says H line.caller line.command) × (place ≡ length later) × (later ≡ grown_by says H line) × (next ≡ None)
Stepped says line H mark later next no_memory = (mark ≡ None) × (later ≡ H) × (next ≡ None)
Stepped says line H mark later next disk_fault =
    (mark ≡ None) × IsTrue (changes (says H line.caller line.command)) × (later ≡ H) × (next ≡ Some line)
Stepped says line H mark later next stopped = IsSome mark × (later ≡ H) × (next ≡ mark)

-- what the answer to a line says of the lists before and after its step
abbrev pub Tells : Replies → Entry → List Event → List Event → Answer → Type 0
Tells says line before after (placed place reply) =
    (marks_in before ≡ []) × (reply ≡ says (entries_in before) line.caller line.command) × (place ≡ length (entries_in after))
Tells says line before after no_memory = marks_in before ≡ []
Tells says line before after disk_fault = (marks_in before ≡ []) × IsTrue (changes (says (entries_in before) line.caller line.command))
Tells says line before after stopped = marks_in before ≢ []

-- what a line's step does to the list of a store
pub record Steps (says : Replies) (line : Entry) (before after : List Event) (a : Answer) : Type 0 where
  pub ends : EndsAtMark before
  pub appends : after ≡ before ++ appended line a
  pub tells : Tells says line before after a

-- ---- one client

-- the first lines of these, each with its answer
abbrev pub answered : List Entry → List Answer → List Answered
answered [] answers = []
answered (line ∷ lines) [] = []
answered (line ∷ lines) (a ∷ answers) = record { line = line; answer = a } ∷ answered lines answers

-- these entries, each under its place, from the one after this on
abbrev pub numbered_from : ℕ → History → List (ℕ × Entry)
numbered_from n [] = []
numbered_from n (e ∷ entries) = (n + 1, e) ∷ numbered_from (n + 1) entries

-- the entries behind an opening history, each under its place
abbrev pub behind : History → List Event → List (ℕ × Entry)
behind G log = numbered_from (length G) (drop (length G) (entries_in log))

-- the lines that met a disk fault
abbrev pub faulted : List Answered → List Entry
faulted told = map (λ t. t.line) (filter (λ t. is_disk_fault t.answer) told)

-- the list has all that an answer tells
abbrev pub Shows : List Event → Answer → Type 0
Shows log (placed place reply) = place ≤ length (entries_in log)
Shows log no_memory = ⊤
Shows log disk_fault = marks_in log ≢ []
Shows log stopped = marks_in log ≢ []

-- a placed reply is the serial run's, after the entries of this list that it stands on
abbrev pub IsSaidIn : Replies → History → List Event → Answered → Type 0
IsSaidIn says G log t = IsSaidBy says (length G) (entries_in log) t.line t.answer

-- if the line met a disk fault, its reply after all entries of this list would change something
abbrev pub WouldChange : Replies → List Event → Answered → Type 0
WouldChange says log t = IsTrue (is_disk_fault t.answer) → IsTrue (changes (says (entries_in log) t.line.caller t.line.command))

-- The answers to one client's lines, in their order, are right for the list that its seat has seen, if the turn was opened with the history G.
-- Each placed reply is the serial run's at its place, and each answer follows the earlier ones. The lines with changing replies are exactly the
-- client's entries behind G, under their places. The lines with a disk fault are exactly its marks.
pub record AreRight (says : Replies) (client : ℕ) (G : History) (log : List Event) (told : List Answered) : Type 0 where
  pub opened : length G ≤ length (entries_in log)
  pub ends : EndsAtMark log
  pub callers : Each (λ t. t.line.caller.0 ≡ client) told
  pub replies : Each (IsSaidIn says G log) told
  pub order : AreInOrder own_answers told
  pub records : recorded told ≡ filter (λ x. nat_eq client x.1.caller.0) (behind G log)
  pub faults : faulted told ≡ filter (λ e. nat_eq client e.caller.0) (marks_in log)
  pub would_change : Each (WouldChange says log) told
  pub shown : Each (λ t. Shows log t.answer) told

-- ---- all clients

-- a client's number, and its lines with their answers
pub record Served : Type 0 where
  pub number : ℕ
  pub told : List Answered

-- the lines of these clients with their answers, client by client
abbrev pub told_by : List Served → List Answered
told_by [] = []
told_by (c ∷ clients) = c.told ++ told_by clients

-- numbers that rise
abbrev pub AreRising : List ℕ → Type 0
AreRising [] = ⊤
AreRising (n ∷ numbers) = Each (λ m. n < m) numbers × AreRising numbers

-- The first seat has taken back the seats of these clients, which have these numbers. The answers of each are right for the list that the first
-- seat has seen by then.
pub record AreJoined (says : Replies) (G : History) (seen : List Event) (taken : List ℕ) (clients : List Served) : Type 0 where
  pub ends : EndsAtMark seen
  pub right : Each (λ c. AreRight says c.number G seen c.told) clients
  pub rising : AreRising (map (λ c. c.number) clients)
  pub back : Each (λ c. Has taken (c.number + 1)) clients
  pub known : Each (Has (map (λ c. c.number + 1) clients)) taken
