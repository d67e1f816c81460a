-- What is heard of a run.
use Rattle.std.specs.Prelude.{◌≡◌, ℕ, List, [], ◌∷◌, ◌++◌, map, Option}
use Rattle.ucon_model.specs.declared.command.Entry.{Entry}
use Rattle.ucon_model.specs.Plain.{PlainPolicy, PlainReply}
use Rattle.ucon_model.specs.Summary.{LineReply, IsReplyRun}

abbrev pub replied : Entry → Option (ℕ × PlainReply) → LineReply
replied e reply = record { line = e; reply = reply }

abbrev pub line_of : LineReply → Entry
line_of t = t.line

-- whoever heard some answers has now heard one more
abbrev pub HearsMore : {R : Type 0} → (R → List LineReply → Type 0) → R → R → LineReply → Type 0
HearsMore hears old new t = (told : List LineReply) → hears old told → hears new (told ++ t ∷ [])

-- whoever heard some answers has now heard the one to a line
abbrev pub HearsAnswer : {R : Type 0} → (R → List LineReply → Type 0) → R → R → Entry → Option (ℕ × PlainReply) → Type 0
HearsAnswer hears old new e reply = HearsMore hears old new (replied e reply)

-- a run of these lines from the empty history was heard, whose replies are those said
pub record HasHeard (P : PlainPolicy) (hears : List LineReply → Type 0) (lines : List Entry) : Type 0 where
  pub told : List LineReply
  pub lines_are : map line_of told ≡ lines
  pub heard : hears told
  pub run : IsReplyRun P [] told
