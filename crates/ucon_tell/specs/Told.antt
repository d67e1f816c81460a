-- What somebody outside was told by a moment of a disk.
use Rattle.std.specs.Prelude.{◌≡◌, ◌⊎◌, ℕ, ◌<◌, List, [], ◌∷◌, ◌++◌, length, drop, IfSome}
use Rattle.ucon_base.specs.Elements.{Each}
use Rattle.ucon_flow.specs.Lines.{IsBare, IsLine}
use Rattle.ucon_tell.specs.Seen.{VoiceSeen}

-- After a write at this moment: what was told is told, and nothing else was but what the sink holds now, if it tells, by this moment.
pub record Notes (old new : VoiceSeen) (moment : ℕ) : Type 0 where
  pub kept : (b : List ℕ) (t : ℕ) → old.told b t → new.told b t
  pub nothing_else : (b : List ℕ) (t : ℕ) → new.told b t → old.told b t ⊎ ((t ≡ moment) × IfSome new.contents (λ all. b ≡ all))

-- these bytes are a front of those
abbrev pub IsFrontOf : List ℕ → List ℕ → Type 0
IsFrontOf front all = (rest : List ℕ) × (all ≡ front ++ rest)

-- these bytes are some bytes and then a front of others
abbrev pub IsCut : List ℕ → List ℕ → List ℕ → Type 0
IsCut before bytes b = (front : List ℕ) × IsFrontOf front bytes × (b ≡ before ++ front)

-- After a text was told at this moment: what was told is told. What else was told is what the sink held at first with a front of the text behind
-- it, by this moment.
pub record TellsFronts (old new : VoiceSeen) (bytes : List ℕ) (moment : ℕ) : Type 0 where
  pub kept : (b : List ℕ) (t : ℕ) → old.told b t → new.told b t
  pub nothing_else : (b : List ℕ) (t : ℕ) → new.told b t → old.told b t ⊎ ((t ≡ moment) × IfSome old.contents (λ before. IsCut before bytes b))

-- ---- lines and replies

-- a line without its newline, and the reply with its own
pub record Told : Type 0 where
  pub line : List ℕ
  pub reply : List ℕ

-- all lines, each with its newline
abbrev pub lines_of : List Told → List ℕ
lines_of [] = []
lines_of (t ∷ told) = t.line ++ 10 ∷ lines_of told

-- all replies
abbrev pub replies_of : List Told → List ℕ
replies_of [] = []
replies_of (t ∷ told) = t.reply ++ replies_of told

-- it is one line in, which fits the limit with its newline, and one line out
pub record IsWithin (limit : ℕ) (t : Told) : Type 0 where
  pub line : IsBare t.line
  pub fits : length t.line < limit
  pub reply : IsLine t.reply

-- So many bytes in front of those that were held are lines within the limit, at least one. They were answered so, and their replies, in the order of
-- the lines, stand behind the text.
pub record AreReplied (limit : ℕ) (so : List Told → Type 0) (held : List ℕ) (n : ℕ) (old new : List ℕ) : Type 0 where
  pub told : List Told
  pub some : 0 < length told
  pub each : Each (IsWithin limit) told
  pub answered : so told
  pub front : held ≡ lines_of told ++ drop n held
  pub len : n ≡ length (lines_of told)
  pub text : new ≡ old ++ replies_of told

-- Lines within the limit that came next were answered, and nobody is told.
pub record AreAnsweredUntold {K : Type 0} (limit : ℕ) (answers : K → K → List Told → Type 0) (comes : List ℕ → Type 0) (before after : K) : Type 0 where
  pub told : List Told
  pub each : Each (λ t. IsBare t.line × (length t.line < limit)) told
  pub came : comes (lines_of told)
  pub answer : answers before after told

-- one line, of which this is so, was added to a text
abbrev pub IsReplied : (List ℕ → Type 0) → List ℕ → List ℕ → Type 0
IsReplied so old new = (reply : List ℕ) × IsLine reply × so reply × (new ≡ old ++ reply)
