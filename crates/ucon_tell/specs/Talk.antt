-- A conversation: lines, their replies, and what was told when.
use Rattle.std.specs.Prelude.{◌≡◌, ◌⊎◌, ℕ, ◌≤◌, List, [], ◌∷◌, ◌++◌, length, Option, IfSome, Result, Ok, Err}
use Rattle.std.specs.Io.KnownBytes.{Appends}
use Rattle.ucon_base.specs.Elements.{Each}
use Rattle.ucon_flow.specs.Lines.{IsBare, IsLine}
use Rattle.ucon_flow.specs.Writing.{AppendsPrefix}
use Rattle.ucon_tell.specs.Seen.{KeeperSeen, VoiceSeen}
use Rattle.ucon_tell.specs.Told.{AreAnsweredUntold, IsCut, IsWithin, Told, lines_of, replies_of}
use Rattle.ucon_tell.specs.declared.talk_fault.TalkFault.{TalkFault}
use Rattle.ucon_tell.specs.declared.talk_fault.TalkFault.TheVariants as faults

-- lines that were answered together, with their replies, and the keeper when it had answered them
pub record Round (K : Type 0) : Type 0 where
  pub told : List Told
  pub after : K

-- all that was told
abbrev pub told_in : {K : Type 0} → List (Round K) → List Told
told_in [] = []
told_in (r ∷ rounds) = r.told ++ told_in rounds

-- lines that fit the limit were answered together
pub record AreAnswered {K : Type 0} (limit : ℕ) (answers : K → K → List Told → Type 0) (before : K) (r : Round K) : Type 0 where
  pub each : Each (IsWithin limit) r.told
  pub answered : answers before r.after r.told

-- one line that doesn't fit the limit was refused by one line, and the keeper stayed as it was
pub record IsRefused {K : Type 0} (limit : ℕ) (refuses : K → List ℕ → Type 0) (before : K) (r : Round K) : Type 0 where
  pub one : Told
  pub alone : r.told ≡ one ∷ []
  pub line : IsBare one.line
  pub reply : IsLine one.reply
  pub long : limit ≤ length one.line
  pub refused : refuses before one.reply
  pub same : r.after ≡ before

-- one round came after the other, from a keeper to a keeper
abbrev pub AreRounds : {K : Type 0} → ℕ → (K → K → List Told → Type 0) → (K → List ℕ → Type 0) → K → List (Round K) → K → Type 0
AreRounds limit answers refuses first [] last = first ≡ last
AreRounds limit answers refuses first (r ∷ rounds) last =
    (AreAnswered limit answers first r ⊎ IsRefused limit refuses first r) × AreRounds limit answers refuses r.after rounds last

-- The keeper is as it was when it had answered the last round. If there was no memory for a reply, it may have answered lines that came next, too.
abbrev pub ends_by : {K : Type 0} → ℕ → (K → K → List Told → Type 0) → (List ℕ → Type 0) → Result (Unit {0}) TalkFault → K → K → Type 0
ends_by limit answers comes (Ok done) reached last = reached ≡ last
ends_by limit answers comes (Err faults.SourceFault) reached last = reached ≡ last
ends_by limit answers comes (Err faults.SinkFault) reached last = reached ≡ last
ends_by limit answers comes (Err faults.TooLong) reached last = reached ≡ last
ends_by limit answers comes (Err (faults.NoMemory e)) reached last = (reached ≡ last) ⊎ AreAnsweredUntold limit answers comes reached last

-- the replies went out whole, unless the voice failed
abbrev pub writes_by : Result (Unit {0}) TalkFault → Option (List ℕ) → Option (List ℕ) → List ℕ → Type 0
writes_by (Ok done) before now replies = Appends before now replies
writes_by (Err faults.SourceFault) before now replies = Appends before now replies
writes_by (Err faults.SinkFault) before now replies = AppendsPrefix before now replies
writes_by (Err faults.TooLong) before now replies = Appends before now replies
writes_by (Err (faults.NoMemory e)) before now replies = Appends before now replies

module _ {K : Type 0} (seen : K → KeeperSeen) (stays : K → K → Type 0) where
  -- These bytes were told by this moment, behind what the sink held: all replies of the rounds before one, and those of that one or a front of them.
  -- The keeper had answered all of that round by then. From this moment on, until now, a crash leaves an image that holds all that the keeper had
  -- answered with it.
  pub record IsToldOnceKept (before : List ℕ) (rounds : List (Round K)) (last : K) (b : List ℕ) (t : ℕ) : Type 0 where
    pub earlier : List (Round K)
    pub one : Round K
    pub later : List (Round K)
    pub among : rounds ≡ earlier ++ one ∷ later
    pub bytes : IsCut (before ++ replies_of (told_in earlier)) (replies_of one.told) b
    pub answered : (seen one.after).moment ≤ t
    pub not_later : t ≤ (seen last).moment
    pub stays_from : stays one.after last
    pub kept : (c : List ℕ) → (seen last).images_since t c → (seen one.after).holds c

  -- Lines of which this is so were answered in rounds, each line by one line; the sink holds what it held and then the replies, in the order of the
  -- lines. Whatever its reader was told since, it was told once that was kept.
  pub record HasTalked (answers : K → K → List Told → Type 0) (refuses : K → List ℕ → Type 0) (limit : ℕ) (result : Result (Unit {0}) TalkFault)
      (first last : K) (before now : VoiceSeen) (hears : List ℕ → Type 0) : Type 0 where
    pub rounds : List (Round K)
    pub heard : hears (lines_of (told_in rounds))
    pub reached : K
    pub answered : AreRounds limit answers refuses first rounds reached
    pub ends : ends_by limit answers (λ more. hears (lines_of (told_in rounds) ++ more)) result reached last
    pub output : writes_by result before.contents now.contents (replies_of (told_in rounds))
    pub told : (b : List ℕ) (t : ℕ) → now.told b t → before.told b t ⊎ IfSome before.contents (λ held. IsToldOnceKept held rounds last b t)
