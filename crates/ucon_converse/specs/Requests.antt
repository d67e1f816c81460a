-- What the lines of a conversation ask, and why others ask nothing. How the text of an amendment's policy is read is an argument.
use Rattle.std.specs.Prelude.{◌≡◌, ◌⊎◌, Ok, Err, codes}
use Rattle.ucon_command.specs.Requests.{IsAskedBy}
use Rattle.ucon_model.specs.declared.command.Caller.{Caller}
use Rattle.ucon_model.specs.declared.command.Entry.{Entry}
use Rattle.ucon_model.specs.CommandLine.{LineRefusal, line_read, line_too_long, no_word, unknown_word, wrong_count, bad_word}
use Rattle.ucon_model.specs.Plain.{Bytes}
use Rattle.ucon_store.specs.Points.{PolicyReading}

-- a line is this client's, and asks this command
pub record IsRequestBy (reads : PolicyReading) (line : Bytes) (asked : Entry) : Type 0 where
  pub text : Bytes
  pub by : IsAskedBy line asked.caller text
  pub says : line_read reads text ≡ Ok asked.command

-- a line asks nothing of anybody
abbrev pub IsNoRequestBy : PolicyReading → Bytes → Type 0
IsNoRequestBy reads line = (asked : Entry) → IsRequestBy reads line asked → ⊥

-- ---- why a line is no request

-- the words of a refusal
abbrev pub refusal_words : LineRefusal → Bytes
refusal_words (line_too_long n) = codes "too long"
refusal_words no_word = codes "no word"
refusal_words unknown_word = codes "unknown word"
refusal_words (wrong_count n) = codes "wrong count"
refusal_words (bad_word place) = codes "bad word"

-- it is no client's
pub record IsNobodys (line words : Bytes) : Type 0 where
  pub nobody : (caller : Caller) (text : Bytes) → IsAskedBy line caller text → ⊥
  pub words_are : words ≡ codes "bad client"

-- it is a client's, and its text is no command, for this reason
pub record IsBadCommandBy (reads : PolicyReading) (line words : Bytes) : Type 0 where
  pub caller : Caller
  pub text : Bytes
  pub by : IsAskedBy line caller text
  pub refusal : LineRefusal
  pub refused : line_read reads text ≡ Err refusal
  pub words_are : words ≡ refusal_words refusal

-- these words tell why a line is no request
abbrev pub TellsWhyBy : PolicyReading → Bytes → Bytes → Type 0
TellsWhyBy reads line words = IsNobodys line words ⊎ IsBadCommandBy reads line words
