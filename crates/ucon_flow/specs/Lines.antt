-- Lines taken one by one from what a source gives.
use Rattle.std.specs.Prelude.{◌≡◌, ◌⊎◌, ℕ, ◌==◌, ◌+◌, ◌-◌, ◌^◌, ◌<◌, ◌≤◌, List, [], ◌∷◌, ◌++◌, length, take, Option, Bool, true, false, Result, Ok}
use Rattle.std.specs.Prelude.{Err}
use Rattle.std.specs.List.{position_or_len}
use Rattle.std.specs.Io.KnownBytes.{Consumes, IsAtEnd}
use Rattle.ucon_flow.specs.Causes.{raised}
use Rattle.ucon_flow.specs.declared.source.ReadFault.{ReadFault}
use Rattle.ucon_flow.specs.declared.source.ReadFault.TheVariants.{SourceFault, TooLong, NoMemory}
use Rattle.ucon_flow.specs.Seen.{SourceSeen}

-- ---- lines

-- the place of the first newline, or how many bytes there are if none stands among them
abbrev pub newline : List ℕ → ℕ
newline bytes = position_or_len (λ b. b == 10) bytes

abbrev pub HasNewline : List ℕ → Type 0
HasNewline bytes = newline bytes < length bytes

-- no newline stands among the bytes
abbrev pub IsBare : List ℕ → Type 0
IsBare bytes = newline bytes ≡ length bytes

-- the bytes up to the first newline, and with it; all of them if there is none
abbrev pub first_line : List ℕ → List ℕ
first_line bytes = take (newline bytes + 1) bytes

-- bytes without a newline, and then one
pub record IsLine (line : List ℕ) : Type 0 where
  pub text : List ℕ
  pub bare : IsBare text
  pub line_is : line ≡ text ++ 10 ∷ []

-- ---- what is read

-- the most bytes of a line, its newline among them, and what was read and not given out
pub record Reading : Type 0 where
  pub limit : ℕ
  pub held : List ℕ

-- A source's last call was made while no whole line was there: what was held, and what had been read before that call, has no newline in it.
pub record IsAskedLast {S : Type 0} (seen : S → SourceSeen) (held : List ℕ) (first last : S) (read : List ℕ) : Type 0 where
  pub between : S
  pub before : List ℕ
  pub piece : List ℕ
  pub read_is : read ≡ before ++ piece
  pub earlier : Consumes (seen first).left (seen between).left before
  pub bare : IsBare (held ++ before)
  pub one_call : (seen last).reads ≡ raised (seen between).reads

-- a source was not called, so nothing was read
abbrev pub IsLeftAlone : {S : Type 0} → S → S → List ℕ → Type 0
IsLeftAlone first last read = (last ≡ first) × (read ≡ [])

-- these bytes were read, behind those that were held, and the source was called only while no whole line was there
pub record Reads {S : Type 0} (seen : S → SourceSeen) (held : List ℕ) (first last : S) (read : List ℕ) : Type 0 where
  pub consumed : Consumes (seen first).left (seen last).left read
  pub asked : IsLeftAlone first last read ⊎ IsAskedLast seen held first last read

-- all that was read is held, behind what was held
pub record Holds {S : Type 0} (seen : S → SourceSeen) (old new : Reading) (first last : S) : Type 0 where
  pub read : List ℕ
  pub reads : Reads seen old.held first last read
  pub same : new ≡ record old { held = old.held ++ read }

-- a line that is given out has its newline, or it is the input's last and lacks it
abbrev pub IsGiven : List ℕ → List ℕ → Option (List ℕ) → Type 0
IsGiven line held left = IsLine line ⊎ (IsBare line × (0 < length line) × (held ≡ []) × IsAtEnd left)

-- a line was given out, the first of what was held and read, and the rest is held
pub record GivesLine {S : Type 0} (seen : S → SourceSeen) (old new : Reading) (first last : S) (line : List ℕ) : Type 0 where
  pub read : List ℕ
  pub reads : Reads seen old.held first last read
  pub all : old.held ++ read ≡ line ++ new.held
  pub limit : new.limit ≡ old.limit
  pub fits : length line ≤ old.limit
  pub given : IsGiven line new.held (seen last).left

-- nothing was held, and the source is at its end
pub record IsNoLine {S : Type 0} (seen : S → SourceSeen) (old new : Reading) (first last : S) : Type 0 where
  pub nothing : old.held ≡ []
  pub same : new ≡ old
  pub reads : Reads seen old.held first last []
  pub ended : IsAtEnd (seen last).left

-- what was skipped, by the answer: a line with its newline, or as much of it as there was
abbrev pub SkippedBy : Result Bool ReadFault → List ℕ → List ℕ → Option (List ℕ) → Type 0
SkippedBy (Ok true) skipped held left = IsLine skipped
SkippedBy (Ok false) skipped held left = IsBare skipped × (held ≡ []) × IsAtEnd left
SkippedBy (Err SourceFault) skipped held left = IsBare skipped × (held ≡ [])
SkippedBy (Err TooLong) skipped held left = IsBare skipped × (2 ^ 64 - 1 ≤ length (skipped ++ held))
SkippedBy (Err (NoMemory e)) skipped held left = IsBare skipped × (held ≡ [])

-- the first line of what was held and read, or its beginning, is gone, and the rest is held
pub record Skips {S : Type 0} (seen : S → SourceSeen) (result : Result Bool ReadFault) (old new : Reading) (first last : S) : Type 0 where
  pub read : List ℕ
  pub reads : Reads seen old.held first last read
  pub skipped : List ℕ
  pub all : old.held ++ read ≡ skipped ++ new.held
  pub limit : new.limit ≡ old.limit
  pub by : SkippedBy result skipped new.held (seen last).left
