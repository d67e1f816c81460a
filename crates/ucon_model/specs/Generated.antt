-- The generated documents: from a seed and a size, a document that anyone can make again.
use Rattle.std.specs.Prelude.{ℕ, zero, suc, ◌+◌, ◌*◌, ◌/◌, ◌%◌, ◌^◌, ◌==◌, nat_lt, pos, List, [], ◌∷◌, ◌++◌, map, codes, if◌then◌else◌}
use Rattle.std.specs.Fmt.{decimal}
use Rattle.ucon_base.specs.declared.value.Side.TheVariants as sides
use Rattle.ucon_base.specs.declared.value.Value.TheVariants as values
use Rattle.ucon_model.specs.declared.command.Caller.{Caller}
use Rattle.ucon_model.specs.declared.command.Command.{Command}
use Rattle.ucon_model.specs.declared.command.Command.TheVariants.{Subject, Object, Set, Tick, Try, Beat, End, Look}
use Rattle.ucon_model.specs.declared.command.Entry.{Entry}
use Rattle.ucon_model.specs.Plain.{Bytes}
use Rattle.ucon_model.specs.CommandLine.{command_spelling}
use Rattle.ucon_model.specs.Document.{caller_of}

-- ---- draws

-- The next x: a linear congruential generator modulo 2^64, with the multiplier and the increment of Knuth's MMIX.
unfoldable pub next_x : ℕ → ℕ
next_x x = (x * 6364136223846793005 + 1442695040888963407) % 2 ^ 64

-- the number below k that an x gives, by its upper 31 bits
unfoldable pub below : ℕ → ℕ → ℕ
below k x = (x / 2 ^ 33) % k

-- ---- entries

-- the entity's name with this number
abbrev pub user : ℕ → Bytes
user n = codes "u" ++ decimal n

abbrev pub video : ℕ → Bytes
video n = codes "v" ++ decimal n

-- a client's command
abbrev pub by : ℕ → Command → Entry
by client command = record { caller = caller_of client; command = command }

-- a subject's credit is set
abbrev pub credit_set : ℕ → ℕ → Command
credit_set n credit = Set sides.Subject (user n) (codes "credit") (values.Int (pos credit))

-- x, the tick, and the number of tries so far
pub record Generator : Type 0 where
  pub x : ℕ
  pub tick : ℕ
  pub tries : ℕ

-- an entry, and the generator behind it
pub record Drawn : Type 0 where
  pub entry : Entry
  pub after : Generator

-- the generator behind a draw, whose x it has
abbrev pub stepped : Generator → Generator
stepped g = record g { x = next_x g.x }

-- a client, a subject and an object are drawn: the subject tries to use the object
abbrev pub drawn_try : Generator → Drawn
drawn_try g =
    let c = stepped g in let a = stepped c in let b = stepped a in
    record { entry = by (1 + below 4 c.x) (Try (user (below 10 a.x)) (codes "use") (video (below 5 b.x))); after = record b { tries = b.tries + 1 } }

-- a client is drawn, and if there were tries one of their sessions: the client beats or ends it
abbrev pub drawn_at_session : (ℕ → Command) → Generator → Drawn
drawn_at_session command g =
    let c = stepped g in let n = stepped c in
    if g.tries == 0 then record { entry = by (1 + below 4 c.x) (Look 1); after = c }
    else record { entry = by (1 + below 4 c.x) (command (1 + below g.tries n.x)); after = n }

-- the tick rises by a number that is drawn
abbrev pub drawn_tick : Generator → Drawn
drawn_tick g =
    let rise = stepped g in let tick = g.tick + below 10 rise.x in
    record { entry = by 0 (Tick (pos tick)); after = record rise { tick = tick } }

-- a subject and its credit are drawn
abbrev pub drawn_credit : Generator → Drawn
drawn_credit g =
    let a = stepped g in let v = stepped a in
    record { entry = by 0 (credit_set (below 10 a.x) (below 200 v.x)); after = v }

-- the kind of entry that a number below 8 says
abbrev pub drawn_by : ℕ → Generator → Drawn
drawn_by d g =
    if nat_lt d 4 then drawn_try g else
    if d == 4 then drawn_at_session Beat g else
    if d == 5 then drawn_at_session End g else
    if d == 6 then drawn_tick g else
    drawn_credit g

-- the next entry: its kind is drawn, and then what it says
unfoldable pub drawn : Generator → Drawn
drawn g = drawn_by (below 8 (next_x g.x)) (stepped g)

-- so many entries
abbrev pub all_drawn : ℕ → Generator → List Entry
all_drawn zero g = []
all_drawn (suc n) g = (drawn g).entry ∷ all_drawn n (drawn g).after

-- before the first entry
abbrev pub seeded : ℕ → Generator
seeded seed = record { x = seed; tick = 0; tries = 0 }

-- ---- the document

-- the policy's lines
unfoldable pub generated_policy : List Bytes
generated_policy =
    codes "attr s credit : int 0..1000 = 0;"
    ∷ codes "attr o users : int 0..100000 = 0;"
    ∷ codes "right use {"
    ∷ codes "  pre a funds: s.credit >= 3;"
    ∷ codes "  on a cap: o.users <= 20;"
    ∷ codes "  on a left: s.credit > 0;"
    ∷ codes "  on c time: lasts 50;"
    ∷ codes "  before s.credit = s.credit - 3;"
    ∷ codes "  before o.users = o.users + 1;"
    ∷ codes "  during s.credit = s.credit - 1;"
    ∷ codes "  after_end o.users = o.users - 1;"
    ∷ codes "  after_revoke o.users = o.users - 1;"
    ∷ codes "}"
    ∷ []

-- 0 and the numbers below n, in order
abbrev pub first : ℕ → List ℕ
first zero = []
first (suc n) = first n ++ n ∷ []

-- ten subjects, five objects, and each subject's credit
unfoldable pub opening : List Command
opening = map (λ n. Subject (user n)) (first 10) ++ map (λ n. Object (video n)) (first 5) ++ map (λ n. credit_set n 100) (first 10)

-- the entries of a generated document, in order
abbrev pub generated_entries : ℕ → ℕ → List Entry
generated_entries seed size = map (by 0) opening ++ all_drawn size (seeded seed)

-- a client's heading, and command lines below it
abbrev pub part_lines : Caller → List Command → List Bytes
part_lines client commands = (codes "client " ++ decimal client.0) ∷ map command_spelling commands

-- entries, each below a heading of its own
abbrev pub entry_lines : List Entry → List Bytes
entry_lines [] = []
entry_lines (e ∷ es) = part_lines e.caller (e.command ∷ []) ++ entry_lines es

-- lines, each with a newline
abbrev pub text_of : List Bytes → Bytes
text_of [] = []
text_of (l ∷ ls) = l ++ 10 ∷ text_of ls

-- what stands before the entries that are drawn: the policy, the divider, and the opening lines of client 0
unfoldable pub generated_head : Bytes
generated_head = text_of (generated_policy ++ codes "%%" ∷ part_lines (caller_of 0) opening)

-- the document
unfoldable pub generated : ℕ → ℕ → Bytes
generated seed size = generated_head ++ text_of (entry_lines (all_drawn size (seeded seed)))
