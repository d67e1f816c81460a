-- Where the words of a line stand, and the command that they give.
use Rattle.std.specs.Prelude.{◌≡◌, ℕ, ◌≤◌, ◌<◌, Bool, ◌&&◌, nat_lt, nat_le, IsTrue, IsOk, ◌∷◌, drop, length, Option, Some, option_map, IfSome, ⊤}
use Rattle.std.specs.Prelude.{MatchResult, Result}
use Rattle.std.specs.Coded.{Coded-set, coded_option}
use Rattle.std.specs.Result.{result_ok}
use Rattle.ucon_base.specs.NameBytes.{is_name}
use Rattle.ucon_command.specs.declared.cuts.Cuts.{Cuts}
use Rattle.ucon_command.specs.declared.line_fault.LineFault.{LineFault}
use Rattle.ucon_command.specs.Faults.{IsSure}
use Rattle.ucon_command.specs.declared.cuts.Cuts.TheVariants as cuts
use Rattle.ucon_model.specs.contracts.command.Command as the_command
use Rattle.ucon_model.specs.declared.command.Command.{Command}
use Rattle.ucon_model.specs.declared.command.Command.TheVariants.{Subject, Object, Set, Env, Tick, Act, Try, Again, Beat, End, Look, Value as Value'}
use Rattle.ucon_model.specs.declared.command.Command.TheVariants.{Amend}
use Rattle.ucon_model.specs.CommandLine.{LineRefusal, words_of, value_in, integer_in, amendment_in}
use Rattle.ucon_model.specs.Plain.{Bytes}
use Rattle.ucon_reply.specs.Words.{between, word_to, words_from}
use Rattle.ucon_syntax.specs.Policies.{accepted}
use denote.Struct.Props.{props}

-- a line's words are the first and those from this place on
pub record IsSecond (second : Option ℕ) (line : Bytes) : Type 0 where
  pub words : words_of line ≡ word_to 0 second line ∷ words_from second line
  pub within : IfSome second (λ at. at ≤ length line)
  pub behind : IfSome second (λ at. 0 < at)

-- ---- the command

-- the command that cuts give
abbrev pub command_cut : Cuts → Bytes → Option Command
command_cut (cuts.Subject name) line = Some (Subject (drop name line))
command_cut (cuts.Object name) line = Some (Object (drop name line))
command_cut (cuts.Set side name attr value) line =
    option_map (Set side (between name attr line) (between attr value line)) (value_in (drop value line))
command_cut (cuts.Env name value) line = option_map (Env (between name value line)) (value_in (drop value line))
command_cut (cuts.Tick tick) line = option_map Tick (integer_in (drop tick line))
command_cut (cuts.Act subject action object) line = Some (Act (between subject action line) (between action object line) (drop object line))
command_cut (cuts.Try subject right object) line = Some (Try (between subject right line) (between right object line) (drop object line))
command_cut (cuts.Again session) line = Some (Again session)
command_cut (cuts.Beat session) line = Some (Beat session)
command_cut (cuts.End session) line = Some (End session)
command_cut (cuts.Look session) line = Some (Look session)
command_cut (cuts.Value side name attr) line = Some (Value' side (between name attr line) (drop attr line))
command_cut (cuts.Amend policy) line = option_map Amend (amendment_in accepted (drop policy line))

-- commands that may be missing are equal in one way at the most
pub commands_are_a_set : IsSet (Option Command)
commands_are_a_set = Coded-set (coded_option (the_command.the_row).coded)

-- whether a name stands at a place, behind which the next word begins at another
abbrev pub has_name : ℕ → ℕ → Bytes → Bool
has_name at next line = nat_lt at next && nat_le next (length line) && is_name (between at next line)

-- whether a name takes the rest of a line
abbrev pub ends_in_name : ℕ → Bytes → Bool
ends_in_name at line = nat_le at (length line) && is_name (drop at line)

-- the words that are names are some, and a value's or a policy's place is one
abbrev pub HasWords : Cuts → Bytes → Type 0
HasWords (cuts.Subject name) line = IsTrue (ends_in_name name line)
HasWords (cuts.Object name) line = IsTrue (ends_in_name name line)
HasWords (cuts.Set side name attr value) line = IsTrue (has_name name attr line) × IsTrue (has_name attr value line)
HasWords (cuts.Env name value) line = IsTrue (has_name name value line)
HasWords (cuts.Tick tick) line = tick ≤ length line
HasWords (cuts.Act subject action object) line =
    IsTrue (has_name subject action line) × IsTrue (has_name action object line) × IsTrue (ends_in_name object line)
HasWords (cuts.Try subject right object) line =
    IsTrue (has_name subject right line) × IsTrue (has_name right object line) × IsTrue (ends_in_name object line)
HasWords (cuts.Again session) line = ⊤
HasWords (cuts.Beat session) line = ⊤
HasWords (cuts.End session) line = ⊤
HasWords (cuts.Look session) line = ⊤
HasWords (cuts.Value side name attr) line = IsTrue (has_name name attr line) × IsTrue (ends_in_name attr line)
HasWords (cuts.Amend policy) line = policy ≤ length line

-- a line has the words of cuts in one way at the most
pub words_are_one : (k : Cuts) (line : Bytes) → IsProp (HasWords k line)
words_are_one (cuts.Subject name) line = hlevel props
words_are_one (cuts.Object name) line = hlevel props
words_are_one (cuts.Set side name attr value) line = hlevel props
words_are_one (cuts.Env name value) line = hlevel props
words_are_one (cuts.Tick tick) line = hlevel props
words_are_one (cuts.Act subject action object) line = hlevel props
words_are_one (cuts.Try subject right object) line = hlevel props
words_are_one (cuts.Again session) line = hlevel props
words_are_one (cuts.Beat session) line = hlevel props
words_are_one (cuts.End session) line = hlevel props
words_are_one (cuts.Look session) line = hlevel props
words_are_one (cuts.Value side name attr) line = hlevel props
words_are_one (cuts.Amend policy) line = hlevel props

-- cuts give what is read of a line
pub record AreCuts (k : Cuts) (line : Bytes) (read : Result Command LineRefusal) : Type 0 where
  pub spelled : IsOk read
  pub cut : result_ok read ≡ command_cut k line
  pub words : HasWords k line

-- what is given are cuts that give what is read of a line, or the refusal that is read; out of memory is told only if nothing is refused
abbrev pub GivesCuts : Result Cuts LineFault → Bytes → Result Command LineRefusal → Type 0
GivesCuts result line read = MatchResult result (λ k. AreCuts k line read) (IsSure read)
