-- Lines that are a command's text: what is read of them.
use Rattle.std.proofs.Common.{◌≡◌, ℕ, ◌<◌, ◌++◌, length, drop, true, Some, Ok, refl, sym, ap, ◌∙◌, arith}
use Rattle.std.specs.Prelude.{ℤ, codes, nat_eq, option_map, ◌^◌}
use Rattle.std.specs.List.{starts_with}
use Rattle.std.specs.Fmt.{decimal, signed_decimal}
use Rattle.std.proofs.lemmas.Bool.Decides.{Decides-eqb}
use Rattle.std.proofs.lemmas.Slice.Eq.{starts_is}
use Rattle.ucon_base.specs.Numbers.{InRange}
use Rattle.ucon_command.specs.Cuts.{AreCuts}
use Rattle.ucon_command.specs.declared.cuts.Cuts.TheVariants as cuts
use Rattle.ucon_command.proofs.Judged.{cuts_give}
use Rattle.ucon_model.specs.declared.command.Command.{Command}
use Rattle.ucon_model.specs.declared.command.Command.TheVariants.{Tick, Again, Beat, End}
use Rattle.ucon_model.specs.CommandLine.{IsCommand, command_spelling, integer_in, line_read, number_in}
use Rattle.ucon_model.specs.Plain.{Bytes}
use Rattle.ucon_syntax.specs.Policies.{accepted}

-- each command's text is read as the command
abbrev Commands : Type 0
Commands = (c : Command) → IsCommand c → line_read accepted (command_spelling c) ≡ Ok c

-- what is read of a line that is a command's text
is_read : Commands → (c : Command) (line : Bytes) → IsCommand c → command_spelling c ≡ line → line_read accepted line ≡ Ok c
is_read commands c line form spelled = ap (line_read accepted) (sym spelled) ∙ commands c form

-- a line that begins so is that and what stands behind it
begun : (line word : Bytes) → starts_with nat_eq line word ≡ true → line ≡ word ++ drop (length word) line
begun line word begins = (starts_is Decides-eqb line word true (sym begins)).0 refl

pub again : ((c : Command) → IsCommand c → line_read accepted (command_spelling c) ≡ Ok c)
    → ((bytes : Bytes) (n : ℕ) → number_in bytes ≡ Some n → decimal n ≡ bytes)
    → (line : Bytes) (n : ℕ) → starts_with nat_eq line (codes "again ") ≡ true → number_in (drop 6 line) ≡ Some n → n < 2 ^ 32 → AreCuts (cuts.Again n) line (line_read accepted line)
unfolding command_spelling
again commands numbers line n begins said few =
    cuts_give (cuts.Again n) line _ (Again n) (is_read commands (Again n) line few (ap (λ (bs : Bytes). codes "again " ++ bs) (numbers (drop 6 line) n said) ∙ sym (begun line (codes "again ") begins))) refl tt

pub beat : ((c : Command) → IsCommand c → line_read accepted (command_spelling c) ≡ Ok c)
    → ((bytes : Bytes) (n : ℕ) → number_in bytes ≡ Some n → decimal n ≡ bytes)
    → (line : Bytes) (n : ℕ) → starts_with nat_eq line (codes "beat ") ≡ true → number_in (drop 5 line) ≡ Some n → n < 2 ^ 32 → AreCuts (cuts.Beat n) line (line_read accepted line)
unfolding command_spelling
beat commands numbers line n begins said few =
    cuts_give (cuts.Beat n) line _ (Beat n) (is_read commands (Beat n) line few (ap (λ (bs : Bytes). codes "beat " ++ bs) (numbers (drop 5 line) n said) ∙ sym (begun line (codes "beat ") begins))) refl tt

pub end_ : ((c : Command) → IsCommand c → line_read accepted (command_spelling c) ≡ Ok c)
    → ((bytes : Bytes) (n : ℕ) → number_in bytes ≡ Some n → decimal n ≡ bytes)
    → (line : Bytes) (n : ℕ) → starts_with nat_eq line (codes "end ") ≡ true → number_in (drop 4 line) ≡ Some n → n < 2 ^ 32 → AreCuts (cuts.End n) line (line_read accepted line)
unfolding command_spelling
end_ commands numbers line n begins said few =
    cuts_give (cuts.End n) line _ (End n) (is_read commands (End n) line few (ap (λ (bs : Bytes). codes "end " ++ bs) (numbers (drop 4 line) n said) ∙ sym (begun line (codes "end ") begins))) refl tt

pub tick : ((c : Command) → IsCommand c → line_read accepted (command_spelling c) ≡ Ok c)
    → ((bytes : Bytes) (n : ℤ) → integer_in bytes ≡ Some n → signed_decimal n ≡ bytes)
    → (line : Bytes) (t : ℤ) → starts_with nat_eq line (codes "tick ") ≡ true → integer_in (drop 5 line) ≡ Some t → InRange t → AreCuts (cuts.Tick 5) line (line_read accepted line)
unfolding command_spelling
tick commands integers line t begins said range =
    cuts_give (cuts.Tick 5) line _ (Tick t) (is_read commands (Tick t) line range (ap (λ (bs : Bytes). codes "tick " ++ bs) (integers (drop 5 line) t said) ∙ sym (begun line (codes "tick ") begins)))
    (ap (option_map Tick) said)
    (omega (arith, ap length (begun line (codes "tick ") begins)))
