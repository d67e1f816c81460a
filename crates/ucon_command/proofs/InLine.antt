-- The texts of commands have no newline.
use Rattle.std.proofs.Common.{◌≡◌, ℕ, ◌<◌, ◌^◌, Bool, true, false, List, [], ◌∷◌, refl, arith}
use Rattle.std.specs.Prelude.{codes, not, ◌||◌, ◌==◌}
use Rattle.std.specs.Fmt.{decimal}
use Rattle.std.specs.List.{list_all}
use Rattle.ucon_base.specs.declared.value.Side.{Side}
use Rattle.ucon_base.specs.declared.value.Side.TheVariants as sides
use Rattle.ucon_base.specs.declared.value.Value.TheVariants.{Int}
use Rattle.ucon_base.specs.Elements.{Each}
use Rattle.ucon_base.specs.NameBytes.{is_name}
use Rattle.ucon_base.specs.Spelling.{side_word}
use Rattle.ucon_model.specs.declared.command.Command.{Command}
use Rattle.ucon_model.specs.declared.command.Command.TheVariants as commands
use Rattle.ucon_model.specs.Amending.{has_newline}
use Rattle.ucon_model.specs.CommandLine.{command_words, command_spelling, IsCommand}
use Rattle.ucon_model.specs.Output.{Lacks}
use Rattle.ucon_model.specs.Plain.{Bytes}
use Rattle.ucon_reply.specs.Joined.{join}
use Rattle.ucon_command.proofs.LowerLaws.{TextsLack, ValuesInLine}

none_of : (found rest : Bool) → (found || rest) ≡ false → (found ≡ false) × (rest ≡ false)
none_of false rest e = (refl, e)
none_of true rest e = absurd cc

without_newline : (text : Bytes) → has_newline text ≡ false → Lacks 10 text
without_newline [] h = tt
without_newline (b ∷ bs) h = let none = none_of (b == 10) (has_newline bs) h in (none.0, without_newline bs none.1)

module _ (lack : TextsLack) (values : ValuesInLine) where
  number_in_line : (n : ℕ) → n < 2 ^ 32 → Lacks 10 (decimal n)
  number_in_line n lt = lack.numbers 10 n (omega arith) (omega (arith, lt))

  joined_in_line : (ws : List Bytes) → Each (Lacks 10) ws → Lacks 10 (join ws)
  joined_in_line [] h = tt
  joined_in_line (w ∷ []) h = h.0
  joined_in_line (w ∷ v ∷ ws) h = lack.joined 10 w (32 ∷ join (v ∷ ws)) h.0 (refl, joined_in_line (v ∷ ws) h.1)

  word : (w : Bytes) → list_all (λ b. not (b == 10)) w ≡ true → Lacks 10 w
  word w h = lack.tested 10 w h

  side_in_line : (side : Side) → Lacks 10 (side_word side)
  side_in_line sides.Subject = word (codes "s") refl
  side_in_line sides.Object = word (codes "o") refl

  name_in_line : (name : Bytes) → is_name name ≡ true → Lacks 10 name
  name_in_line name h = lack.names 10 name refl h

  words_in_line : (c : Command) → IsCommand c → Each (Lacks 10) (command_words c)
  words_in_line (commands.Subject name) h = (word (codes "subject") refl, (name_in_line name h, tt))
  words_in_line (commands.Object name) h = (word (codes "object") refl, (name_in_line name h, tt))
  words_in_line (commands.Set side name attr v) h = (word (codes "set") refl, (side_in_line side, (name_in_line name h.0, (name_in_line attr h.1, (values v h.2, tt)))))
  words_in_line (commands.Env name v) h = (word (codes "env") refl, (name_in_line name h.0, (values v h.1, tt)))
  words_in_line (commands.Tick t) h = (word (codes "tick") refl, (values (Int t) h, tt))
  words_in_line (commands.Act s a o) h = (word (codes "act") refl, (name_in_line s h.0, (name_in_line a h.1, (name_in_line o h.2, tt))))
  words_in_line (commands.Try s r o) h = (word (codes "try") refl, (name_in_line s h.0, (name_in_line r h.1, (name_in_line o h.2, tt))))
  words_in_line (commands.Again n) h = (word (codes "again") refl, (number_in_line n h, tt))
  words_in_line (commands.Beat n) h = (word (codes "beat") refl, (number_in_line n h, tt))
  words_in_line (commands.End n) h = (word (codes "end") refl, (number_in_line n h, tt))
  words_in_line (commands.Look n) h = (word (codes "look") refl, (number_in_line n h, tt))
  words_in_line (commands.Value side name attr) h = (word (codes "value") refl, (side_in_line side, (name_in_line name h.0, (name_in_line attr h.1, tt))))
  words_in_line (commands.Amend a) h = (word (codes "amend") refl, (without_newline a.text h.one_line, tt))

  pub command_in_line : (c : Command) → IsCommand c → Lacks 10 (command_spelling c)
  unfolding command_spelling
  command_in_line c h = joined_in_line (command_words c) (words_in_line c h)
