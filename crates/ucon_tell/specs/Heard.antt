-- Lines as they come, and what is left of the input where a conversation ends.
use Rattle.std.specs.Prelude.{◌≡◌, ⊤, ℕ, ◌-◌, ◌^◌, ◌<◌, ◌≤◌, Bool, true, false, List, [], ◌∷◌, ◌++◌, length, Option, Result, Ok, Err}
use Rattle.std.specs.Io.KnownBytes.{Consumes, IsAtEnd}
use Rattle.ucon_flow.specs.Lines.{Reading, Reads, HasNewline, IsBare, IsLine, first_line}
use Rattle.ucon_tell.specs.Told.{IsFrontOf}
use Rattle.ucon_tell.specs.declared.talk_fault.TalkFault.{TalkFault}
use Rattle.ucon_tell.specs.declared.talk_fault.TalkFault.TheVariants as faults
use Rattle.ucon_tell.specs.declared.talking.Heard.{Heard}
use Rattle.ucon_tell.specs.declared.talking.Heard.TheVariants.{Lines, TooLong, Over}
use Rattle.ucon_flow.specs.Seen.{SourceSeen}

-- What was read and not answered, by the ending. At the source's end: what stands behind the last newline. If the source fails: no whole line. If
-- the voice fails: what the reader holds. Otherwise the input is too long for any process, or there was no memory.
abbrev pub LeftBy : Result (Unit {0}) TalkFault → List ℕ → List ℕ → List ℕ → Option (List ℕ) → Type 0
LeftBy (Ok done) lines rest held left = IsBare rest × (held ≡ []) × IsAtEnd left
LeftBy (Err faults.SourceFault) lines rest held left = IsBare rest
LeftBy (Err faults.SinkFault) lines rest held left = rest ≡ held
LeftBy (Err faults.TooLong) lines rest held left = 2 ^ 64 - 1 ≤ length (lines ++ rest)
LeftBy (Err (faults.NoMemory e)) lines rest held left = ⊤

-- these lines came first, of what was held and read, and something may be left
pub record Hears (result : Result (Unit {0}) TalkFault) (held_before held : List ℕ) (left_before left : Option (List ℕ))
    (lines : List ℕ) : Type 0 where
  pub read : List ℕ
  pub consumed : Consumes left_before left read
  pub rest : List ℕ
  pub all : held_before ++ read ≡ lines ++ rest
  pub left_over : LeftBy result lines rest held left

-- ---- one round

-- lines came, the first of which fits the limit, and all that was read is held
pub record HoldsLines (limit : ℕ) (held_before held : List ℕ) (left_before left : Option (List ℕ)) : Type 0 where
  pub read : List ℕ
  pub consumed : Consumes left_before left read
  pub all : held ≡ held_before ++ read
  pub whole : HasNewline held
  pub fits : length (first_line held) ≤ limit

-- a line came that doesn't fit the limit, which stands here without its newline; it was skipped, and what was read behind it is held
pub record SkipsLine (limit : ℕ) (held_before held : List ℕ) (left_before left : Option (List ℕ)) : Type 0 where
  pub read : List ℕ
  pub consumed : Consumes left_before left read
  pub line : List ℕ
  pub bare : IsBare line
  pub long : limit ≤ length line
  pub all : held_before ++ read ≡ (line ++ 10 ∷ []) ++ held

-- what comes next: lines, or one that is too long, or none, or a fault of the source or of memory
abbrev pub HearsNext : Result Heard TalkFault → ℕ → List ℕ → List ℕ → Option (List ℕ) → Option (List ℕ) → Type 0
HearsNext (Ok Lines) limit before held left_before left = HoldsLines limit before held left_before left
HearsNext (Ok TooLong) limit before held left_before left = SkipsLine limit before held left_before left
HearsNext (Ok Over) limit before held left_before left = Hears (Ok tt) before held left_before left []
HearsNext (Err faults.SourceFault) limit before held left_before left = Hears (Err faults.SourceFault) before held left_before left []
HearsNext (Err faults.SinkFault) limit before held left_before left = ⊥
HearsNext (Err faults.TooLong) limit before held left_before left = Hears (Err faults.TooLong) before held left_before left []
HearsNext (Err (faults.NoMemory e)) limit before held left_before left = Hears (Err (faults.NoMemory e)) before held left_before left []

-- what was skipped, by what was heard
abbrev pub SkippedAs : Result Heard TalkFault → List ℕ → List ℕ → Option (List ℕ) → Type 0
SkippedAs (Ok Lines) skipped held left = ⊥
SkippedAs (Ok TooLong) skipped held left = IsLine skipped
SkippedAs (Ok Over) skipped held left = IsBare skipped × (held ≡ []) × IsAtEnd left
SkippedAs (Err faults.SourceFault) skipped held left = IsBare skipped × (held ≡ [])
SkippedAs (Err faults.SinkFault) skipped held left = ⊥
SkippedAs (Err faults.TooLong) skipped held left = 2 ^ 64 - 1 ≤ length (skipped ++ held)
SkippedAs (Err (faults.NoMemory e)) skipped held left = ⊤

-- the first line of what was held and read, or its beginning, is gone, and the rest is held
pub record SkipsNext {S : Type 0} (seen : S → SourceSeen) (result : Result Heard TalkFault) (old new : Reading)
    (first last : S) : Type 0 where
  pub read : List ℕ
  pub reads : Reads seen old.held first last read
  pub skipped : List ℕ
  pub all : old.held ++ read ≡ skipped ++ new.held
  pub limit : new.limit ≡ old.limit
  pub by : SkippedAs result skipped new.held (seen last).left

-- These lines in front of what was held were answered, at least one, and the rest is held. If there was no memory for their replies they may have been.
abbrev pub TakesHeld : Result (Unit {0}) TalkFault → List ℕ → List ℕ → List ℕ → Type 0
TakesHeld (Ok done) before held lines = (before ≡ lines ++ held) × (0 < length lines)
TakesHeld (Err faults.SourceFault) before held lines = ⊥
TakesHeld (Err faults.SinkFault) before held lines = before ≡ lines ++ held
TakesHeld (Err faults.TooLong) before held lines = ⊥
TakesHeld (Err (faults.NoMemory e)) before held lines = IsFrontOf lines before

-- the line was refused, or there was no memory for its reply
abbrev pub adds_line : Result (Unit {0}) TalkFault → List ℕ → List ℕ → Type 0
adds_line (Ok done) line lines = lines ≡ line ++ 10 ∷ []
adds_line (Err faults.SourceFault) line lines = ⊥
adds_line (Err faults.SinkFault) line lines = lines ≡ line ++ 10 ∷ []
adds_line (Err faults.TooLong) line lines = ⊥
adds_line (Err (faults.NoMemory e)) line lines = lines ≡ []

-- these lines came, at least so many bytes, and what was read behind them is held
pub record TakesLines (n : ℕ) (held_before held : List ℕ) (left_before left : Option (List ℕ)) (lines : List ℕ) : Type 0 where
  pub read : List ℕ
  pub consumed : Consumes left_before left read
  pub all : held_before ++ read ≡ lines ++ held
  pub some : n ≤ length lines

-- a round was answered, of lines that came; or the source ended; or the conversation ends by a fault
abbrev pub HearsRound : Result Bool TalkFault → List ℕ → List ℕ → Option (List ℕ) → Option (List ℕ) → List ℕ → Type 0
HearsRound (Ok true) before held left_before left lines = TakesLines 1 before held left_before left lines
HearsRound (Ok false) before held left_before left lines = Hears (Ok tt) before held left_before left lines
HearsRound (Err fault) before held left_before left lines = Hears (Err fault) before held left_before left lines

-- how a conversation stands behind a round
abbrev pub by_round : Result Bool TalkFault → Result (Unit {0}) TalkFault
by_round (Ok going) = Ok tt
by_round (Err fault) = Err fault
