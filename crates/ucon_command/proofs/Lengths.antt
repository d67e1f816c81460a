-- How long a command's text is at the most.
use Rattle.std.proofs.Common.{◌≡◌, ℕ, ◌+◌, ◌*◌, ◌≤◌, ◌<◌, ◌^◌, Bool, true, false, cond, List, [], ◌∷◌, ◌++◌, length, refl, arith, length-append}
use Rattle.std.specs.Prelude.{nat_eq, nat_le, nat_lt, ◌&&◌, is_none, codes}
use Rattle.std.specs.Fmt.{decimal, signed_decimal}
use Rattle.std.specs.List.{starts_with}
use Rattle.std.proofs.lemmas.Bool.{and_parts, leb-true}
use Rattle.std.proofs.lemmas.Fmt.{length-decimal-le}
use Rattle.ucon_base.specs.declared.value.Side.{Side}
use Rattle.ucon_base.specs.declared.value.Side.TheVariants as sides
use Rattle.ucon_base.specs.declared.value.Value.TheVariants.{Int}
use Rattle.ucon_base.specs.Elements.{Each}
use Rattle.ucon_base.specs.NameBytes.{is_name, bad_place}
use Rattle.ucon_base.specs.Spelling.{value_spelling, side_word}
use Rattle.ucon_model.specs.declared.command.Command.{Command}
use Rattle.ucon_model.specs.declared.command.Command.TheVariants.{Subject, Object, Set as Set', Env, Tick, Act, Try, Again, Beat, End, Look, Value as Value', Amend}
use Rattle.ucon_model.specs.CommandLine.{command_spelling, most_bytes, IsCommand}
use Rattle.ucon_model.specs.Plain.{Bytes}
use Rattle.ucon_reply.specs.Joined.{join}
use Rattle.ucon_command.proofs.LowerLaws.{ValuesAreShort}

length-name : (name : Bytes) → is_name name ≡ true → length name ≤ 32
length-name name h =
    let parts = and_parts (nat_lt 0 (length name) && nat_le (length name) 32) (is_none (bad_place name)) h in
    leb-true (length name) 32 (and_parts (nat_lt 0 (length name)) (nat_le (length name) 32) parts.0).1

length-number : (n : ℕ) → n < 2 ^ 32 → length (decimal n) ≤ 32
length-number n lt = omega (arith, length-decimal-le 10 n (omega arith) (omega (arith, lt)) (omega (arith, lt)))

length-side : (side : Side) → length (side_word side) ≤ 32
length-side sides.Subject = omega arith
length-side sides.Object = omega arith

-- words of at most 32 bytes, of which the last may have 4300
length-join : (ws : List Bytes) (rest : Bytes) → Each (λ w. length w ≤ 32) ws → length rest ≤ 4300 → length (join (ws ++ rest ∷ [])) ≤ 33 * length ws + 4300
length-join [] rest h le = omega (arith, le)
length-join (w ∷ []) rest h le = omega (arith, h.0, le, length-append w (32 ∷ rest))
length-join (w ∷ v ∷ ws) rest h le = omega (arith, h.0, length-join (v ∷ ws) rest h.1 le, length-append w (32 ∷ join ((v ∷ ws) ++ rest ∷ [])))

word_length : (w : Bytes) → nat_le (length w) 32 ≡ true → length w ≤ 32
word_length w h = leb-true (length w) 32 h

one : (first w : Bytes) → nat_le (length first) 32 ≡ true → length w ≤ 4300 → length (join (first ∷ w ∷ [])) ≤ 8192
one first w short le = omega (arith, length-join (first ∷ []) w (word_length first short, tt) le)

three : (first a b c : Bytes) → nat_le (length first) 32 ≡ true → length a ≤ 32 → length b ≤ 32 → length c ≤ 32 → length (join (first ∷ a ∷ b ∷ c ∷ [])) ≤ 8192
three first a b c short x y z = omega (arith, length-join (first ∷ a ∷ b ∷ []) c (word_length first short, (x, (y, tt))) (omega (arith, z)))

at_most : (b : Bool) → cond b 65542 8192 ≤ 65542
at_most true = omega arith
at_most false = omega arith

-- how long a command's text is at the most
abbrev pub CommandsAreShort : Type 0
CommandsAreShort = (c : Command) → IsCommand c → length (command_spelling c) ≤ most_bytes (command_spelling c)

module _ (values : ValuesAreShort) where
  pub short : CommandsAreShort
  unfolding command_spelling
  short (Subject name) h = one (codes "subject") name refl (omega (arith, length-name name h))
  short (Object name) h = one (codes "object") name refl (omega (arith, length-name name h))
  short (Set' side name attr v) h =
      omega (arith, length-join (codes "set" ∷ side_word side ∷ name ∷ attr ∷ []) (value_spelling v) (word_length (codes "set") refl, (length-side side, (length-name name h.0, (length-name attr h.1, tt)))) (values v h.2))
  short (Env name v) h = omega (arith, length-join (codes "env" ∷ name ∷ []) (value_spelling v) (word_length (codes "env") refl, (length-name name h.0, tt)) (values v h.1))
  short (Tick t) h = one (codes "tick") (signed_decimal t) refl (values (Int t) h)
  short (Act s a o) h = three (codes "act") s a o refl (length-name s h.0) (length-name a h.1) (length-name o h.2)
  short (Try s r o) h = three (codes "try") s r o refl (length-name s h.0) (length-name r h.1) (length-name o h.2)
  short (Again n) h = one (codes "again") (decimal n) refl (omega (arith, length-number n h))
  short (Beat n) h = one (codes "beat") (decimal n) refl (omega (arith, length-number n h))
  short (End n) h = one (codes "end") (decimal n) refl (omega (arith, length-number n h))
  short (Look n) h = one (codes "look") (decimal n) refl (omega (arith, length-number n h))
  short (Value' side name attr) h = three (codes "value") (side_word side) name attr refl (length-side side) (length-name name h.0) (length-name attr h.1)
  short (Amend a) h = omega (arith, h.spells.short)

-- no line may be longer
pub most : (line : Bytes) → most_bytes line ≤ 65542
most line = at_most (starts_with nat_eq line (codes "amend "))
