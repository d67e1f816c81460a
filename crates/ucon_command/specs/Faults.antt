-- What the faults of lines tell.
use Rattle.std.specs.Prelude.{◌≡◌, Bool, Result, Ok, Err, IsOk, MatchResult, codes, nat_eq, ⊤}
use Rattle.std.specs.List.{starts_with}
use Rattle.ucon_command.specs.declared.line_fault.LineFault.{LineFault}
use Rattle.ucon_command.specs.declared.line_fault.LineFault.TheVariants.{TooLong, NoWord, UnknownWord, WrongCount, BadWord, NoMemory}
use Rattle.ucon_model.specs.CommandLine.{LineRefusal, line_too_long, no_word, unknown_word, wrong_count, bad_word}
use Rattle.ucon_model.specs.Plain.{Bytes}

-- what is said is this refusal, and out of memory is told only if this is so
abbrev pub IsRefusalOr : {A : Type 0} → Type 0 → Result A LineRefusal → LineFault → Type 0
IsRefusalOr wants said (TooLong n) = said ≡ Err (line_too_long n)
IsRefusalOr wants said NoWord = said ≡ Err no_word
IsRefusalOr wants said UnknownWord = said ≡ Err unknown_word
IsRefusalOr wants said (WrongCount n) = said ≡ Err (wrong_count n)
IsRefusalOr wants said (BadWord place) = said ≡ Err (bad_word place)
IsRefusalOr wants said (NoMemory e) = wants

-- what is said is this refusal, unless memory ran out
abbrev pub IsRefusal : {A : Type 0} → Result A LineRefusal → LineFault → Type 0
IsRefusal said f = IsRefusalOr ⊤ said f

-- what is said is this refusal; out of memory is told only if nothing is refused
abbrev pub IsSure : {A : Type 0} → Result A LineRefusal → LineFault → Type 0
IsSure said f = IsRefusalOr (IsOk said) said f

-- what is said is this refusal, whatever memory there is
abbrev pub IsTold : {A : Type 0} → Result A LineRefusal → LineFault → Type 0
IsTold said f = IsRefusalOr ⊥ said f

-- what is given is, seen so, what is said, or the refusal that is said, whatever memory there is
abbrev pub GivesTold : {A B : Type 0} → Result A LineFault → Result B LineRefusal → (A → B) → Type 0
GivesTold result said seen = MatchResult result (λ x. said ≡ Ok (seen x)) (IsTold said)

-- whether a line is one that amends
abbrev pub amends : Bytes → Bool
amends line = starts_with nat_eq line (codes "amend ")
