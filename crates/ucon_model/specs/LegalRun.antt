-- Legal runs: which answers the lines of a run may have.
use Rattle.std.specs.Prelude.{◌≡◌, ℕ, ◌+◌, ◌-◌, ◌≤◌, Bool, true, false, IsTrue, nat_eq, nat_le, List, [], ◌∷◌, ◌++◌, length, take, map, count_by, ⊤}
use Rattle.std.specs.Prelude.{if◌then◌else◌}
use Rattle.std.specs.List.{list_any}
use Rattle.ucon_base.specs.Elements.{Each}
use Rattle.ucon_model.specs.declared.command.Caller.{Caller}
use Rattle.ucon_model.specs.declared.command.Entry.{Entry}
use Rattle.ucon_model.specs.Plain.{PlainPolicy, PlainReply}
use Rattle.ucon_model.specs.History.{History, said, changes}

-- what a line is answered: that there was no memory, that the disk failed, that it had failed before, or a reply with its place
pub data Answer : Type 0 where
  no_memory : Answer
  disk_fault : Answer
  stopped : Answer
  placed : (place : ℕ) (reply : PlainReply) → Answer

-- a command line with its answer
pub record Answered : Type 0 where
  pub line : Entry
  pub answer : Answer

-- ---- the history that is made

-- a line with a changing reply, under its place, before the others
abbrev pub with_record : Entry → Answer → List (ℕ × Entry) → List (ℕ × Entry)
with_record line (placed place reply) others = if changes reply then (place, line) ∷ others else others
with_record line no_memory others = others
with_record line disk_fault others = others
with_record line stopped others = others

-- the lines with changing replies, each under its place
abbrev pub recorded : List Answered → List (ℕ × Entry)
recorded [] = []
recorded (t ∷ told) = with_record t.line t.answer (recorded told)

-- a line under its place, before the first one with a place that is not lower
abbrev pub put_by_place : ℕ × Entry → List (ℕ × Entry) → List (ℕ × Entry)
put_by_place x [] = x ∷ []
put_by_place x (y ∷ ys) = if nat_le x.0 y.0 then x ∷ y ∷ ys else y ∷ put_by_place x ys

-- in the order of their places
abbrev pub by_place : List (ℕ × Entry) → List (ℕ × Entry)
by_place [] = []
by_place (x ∷ xs) = put_by_place x (by_place xs)

-- the opening history, and then the lines with changing replies in the order of their places
abbrev pub history_made : History → List Answered → History
history_made G told = G ++ map (λ x. x.1) (by_place (recorded told))

-- ---- the parts of a legal run

-- the places are those after this one, each once
abbrev pub AreNumberedFrom : ℕ → List (ℕ × Entry) → Type 0
AreNumberedFrom n [] = ⊤
AreNumberedFrom n (x ∷ xs) = (x.0 ≡ n + 1) × AreNumberedFrom (n + 1) xs

-- how many entries a reply stands on: those before its place if it changes something, and those up to it if it doesn't
abbrev pub stands_on : ℕ → PlainReply → ℕ
stands_on place reply = if changes reply then place - 1 else place

-- a placed reply is the serial run's, after the entries that it stands on, of which the opening history is a part
abbrev pub IsSaid : PlainPolicy → ℕ → History → Entry → Answer → Type 0
IsSaid P opening H line (placed place reply) =
    (opening ≤ stands_on place reply) × (stands_on place reply ≤ length H)
    × (reply ≡ said P (take (stands_on place reply) H) line.caller line.command)
IsSaid P opening H line no_memory = ⊤
IsSaid P opening H line disk_fault = ⊤
IsSaid P opening H line stopped = ⊤

-- a later reply stands on all that an earlier one told
abbrev pub Saw : Answer → Answer → Type 0
Saw (placed place reply) (placed later more) = place ≤ stands_on later more
Saw earlier later = ⊤

-- after a disk fault, and after being stopped, a line is stopped
abbrev pub StaysStopped : Answer → Answer → Type 0
StaysStopped disk_fault later = later ≡ stopped
StaysStopped stopped later = later ≡ stopped
StaysStopped earlier later = ⊤

-- each answer follows the earlier ones that its caller saw
abbrev pub AreInOrder : (Caller → Caller → Bool) → List Answered → Type 0
AreInOrder sees [] = ⊤
AreInOrder sees (t ∷ told) =
    Each (λ later. IsTrue (sees t.line.caller later.line.caller) → Saw t.answer later.answer × StaysStopped t.answer later.answer) told
    × AreInOrder sees told

-- whether the answer is that the disk failed
abbrev pub is_disk_fault : Answer → Bool
is_disk_fault disk_fault = true
is_disk_fault a = false

-- whether the answer is that the disk had failed before
abbrev pub is_stopped : Answer → Bool
is_stopped stopped = true
is_stopped a = false

-- at most one line met a disk fault, and its reply would have changed something; lines are stopped by nothing else
pub record HaveCauses (P : PlainPolicy) (H : History) (told : List Answered) : Type 0 where
  pub once : count_by (λ t. is_disk_fault t.answer) told ≤ 1
  pub would_change : Each (λ t. IsTrue (is_disk_fault t.answer) → IsTrue (changes (said P H t.line.caller t.line.command))) told
  pub by_fault : IsTrue (list_any (λ t. is_stopped t.answer) told) → IsTrue (list_any (λ t. is_disk_fault t.answer) told)

-- The answers are a legal run after an opening history. Here `sees` tells whose earlier answers a caller saw. The places of the changing replies
-- are those behind the opening history, each once. Each reply is the serial run's at its place in the history that is made. Nobody is told less
-- than before, and each fault has its cause.
pub record IsLegalRun (P : PlainPolicy) (sees : Caller → Caller → Bool) (opening : History) (told : List Answered) : Type 0 where
  pub places : AreNumberedFrom (length opening) (by_place (recorded told))
  pub replies : Each (λ t. IsSaid P (length opening) (history_made opening told) t.line t.answer) told
  pub order : AreInOrder sees told
  pub causes : HaveCauses P (history_made opening told) told

-- everybody sees every earlier answer, as if one thread answered all lines in the order of the text
abbrev pub in_text_order : Caller → Caller → Bool
in_text_order earlier later = true

-- a caller sees its own earlier answers
abbrev pub own_answers : Caller → Caller → Bool
own_answers earlier later = nat_eq earlier.0 later.0

-- ---- a run in text order, answer by answer

-- the history after an answer
abbrev pub history_after : History → Entry → Answer → History
history_after H line (placed place reply) = if changes reply then H ++ line ∷ [] else H
history_after H line a = H

-- out of memory, or the serial run's reply at its place
abbrev pub IsNext : PlainPolicy → History → Entry → Answer → Type 0
IsNext P H line no_memory = ⊤
IsNext P H line (placed place reply) =
    (reply ≡ said P H line.caller line.command) × (place ≡ length (history_after H line (placed place reply)))
IsNext P H line disk_fault = ⊥
IsNext P H line stopped = ⊥

-- each answer is the next after those before it
abbrev pub IsSerialRun : PlainPolicy → History → List Answered → Type 0
IsSerialRun P H [] = ⊤
IsSerialRun P H (t ∷ told) = IsNext P H t.line t.answer × IsSerialRun P (history_after H t.line t.answer) told
