-- A line that is too long is no request.
use Rattle.std.proofs.Common.{◌≡◌, true, false, Ok, Err, ℕ, ◌+◌, ◌≤◌, ◌<◌, ◌∷◌, length, length-append, refl, sym, ap, ◌∙◌, arith}
use Rattle.std.proofs.lemmas.Fmt.{length-decimal-le}
use Rattle.std.specs.Prelude.{Bool, codes, nat_eq, nat_lt, if◌then◌else◌}
use Rattle.std.specs.Fmt.{decimal}
use Rattle.std.specs.List.{starts_with}
use Rattle.ucon_model.specs.CommandLine.{line_read, line_too_long, most_bytes}
use Rattle.ucon_model.specs.Plain.{Bytes}
use Rattle.ucon_store.specs.Points.{PolicyReading}
use Rattle.ucon_converse.specs.Requests.{IsNoRequestBy}

most_at_most : (amending : Bool) → (if amending then 65542 else 8192) ≤ 65542
most_at_most true = omega arith
most_at_most false = omega arith

less_is : (m n : ℕ) → m < n → nat_lt m n ≡ true
less_is m n lt = grind arith

-- a text of so many bytes is no command
too_long : (reads : PolicyReading) (text : Bytes) → 65542 < length text → line_read reads text ≡ Err (line_too_long (length text))
unfolding line_read
too_long reads text long =
    let most : most_bytes text ≤ 65542 = most_at_most (starts_with nat_eq text (codes "amend ")) in
    rw (less_is (most_bytes text) (length text) (omega (arith, long, most))) refl

pub long_lines_ask_nothing : (reads : PolicyReading) (line : Bytes) → 65546 ≤ length line → IsNoRequestBy reads line
long_lines_ask_nothing reads line long e r =
    let few = r.by.few in
    let number : length (decimal e.caller.0) ≤ 2 = length-decimal-le 2 e.caller.0 (omega arith) (omega (arith, few)) (omega (arith, few)) in
    let parts : length line ≡ length (decimal e.caller.0) + length (32 ∷ r.text) = ap length r.by.line_is ∙ length-append (decimal e.caller.0) (32 ∷ r.text) in
    let refused = too_long reads r.text (omega (arith, long, number, parts)) in
    let bad : Ok e.command ≡ Err (line_too_long (length r.text)) = sym r.says ∙ refused in
    cc bad
