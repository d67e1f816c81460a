-- A command's text is read as the command.
use Rattle.std.proofs.Common.{◌≡◌, ℕ, suc, ◌<◌, ◌^◌, true, List, [], ◌∷◌, ◌++◌, length, Some, Ok, refl, ap, ◌∙◌, arith}
use Rattle.std.specs.Prelude.{ℤ, pos, negsuc, Option, codes}
use Rattle.std.specs.Fmt.{decimal, signed_decimal}
use Rattle.std.proofs.lemmas.Bool.{le-ltb}
use Rattle.std.proofs.lemmas.Int.{ints}
use Rattle.ucon_base.specs.declared.value.Side.{Side}
use Rattle.ucon_base.specs.declared.value.Side.TheVariants as sides
use Rattle.ucon_base.specs.NameBytes.{is_name}
use Rattle.ucon_base.specs.Numbers.{InRange}
use Rattle.ucon_base.specs.Spelling.{value_spelling, side_word}
use Rattle.ucon_model.specs.declared.command.Command.{Command}
use Rattle.ucon_model.specs.declared.command.Command.TheVariants.{Subject, Object, Set, Env, Tick, Act, Try, Again, Beat, End, Look, Value as Value', Amend}
use Rattle.ucon_model.specs.CommandLine.{command_spelling, most_bytes, IsCommand, placed, side_in, name_in, integer_in, number_in, one_word, names_of, three_names, place_of, value_words, set_of, set_words, env_of, env_words, amendment_in, amend_words, command_read, words_read, line_read}
use Rattle.ucon_base.specs.Elements.{Each}
use Rattle.ucon_model.specs.Output.{Lacks}
use Rattle.ucon_model.specs.Amending.{IsAmendment}
use Rattle.ucon_model.specs.Plain.{Bytes, PlainPolicy, Amendment}
use Rattle.ucon_model.specs.Spells.{Spells}
use Rattle.ucon_model.specs.Typing.{IsTyped}
use Rattle.ucon_reply.specs.Joined.{split, join, split-join, split-join_rest, drop-join, split_some}
use Rattle.ucon_command.proofs.LowerLaws.{TextsLack, WordsAreRead}
use Rattle.ucon_command.proofs.Lengths.{CommandsAreShort}

-- ---- words

pub side_back : (side : Side) → side_in (side_word side) ≡ Some side
side_back sides.Subject = refl
side_back sides.Object = refl

pub name_back : (name : Bytes) → is_name name ≡ true → name_in name ≡ Some name
name_back name h = rw h refl

module _ (lack : TextsLack) where
  side_lacks : (side : Side) → Lacks 32 (side_word side)
  side_lacks sides.Subject = lack.tested 32 (codes "s") refl
  side_lacks sides.Object = lack.tested 32 (codes "o") refl

  pub name_lacks : (name : Bytes) → is_name name ≡ true → Lacks 32 name
  name_lacks name h = lack.names 32 name refl h

  pub number_lacks : (n : ℕ) → n < 2 ^ 32 → Lacks 32 (decimal n)
  number_lacks n lt = lack.numbers 32 n (omega arith) (omega (arith, lt))

  integer_lacks : (z : ℤ) → InRange z → Lacks 32 (signed_decimal z)
  integer_lacks (pos n) h = lack.numbers 32 n (omega arith) (omega (arith, ints, h.high))
  integer_lacks (negsuc n) h = (refl, lack.numbers 32 (suc n) (omega arith) (omega (arith, ints, h.low)))

-- ---- lines

one_read : {A : Type 0} (kind : Bytes → Option A) (first w : Bytes) (x : A) → kind w ≡ Some x → one_word kind (placed 0 (first ∷ w ∷ [])) ≡ Ok x
unfolding one_word
one_read kind first w x h = rw h refl

three_read : (first a b c : Bytes) → is_name a ≡ true → is_name b ≡ true → is_name c ≡ true → three_names (placed 0 (first ∷ a ∷ b ∷ c ∷ [])) ≡ Ok (a, b, c)
unfolding three_names names_of
three_read first a b c x y z = rw (name_back a x, name_back b y, name_back c z) refl

-- a word and another
two : (first w : Bytes) → Lacks 32 first → Lacks 32 w → split (join (first ∷ w ∷ [])) ≡ first ∷ w ∷ []
two first w h k = split-join first (w ∷ []) (h, (k, tt))

-- a word and three others
four : (first a b c : Bytes) → Lacks 32 first → Lacks 32 a → Lacks 32 b → Lacks 32 c → split (join (first ∷ a ∷ b ∷ c ∷ [])) ≡ first ∷ a ∷ b ∷ c ∷ []
four first a b c h x y z = split-join first (a ∷ b ∷ c ∷ []) (h, (x, (y, (z, tt))))

-- each text that spells a well typed policy is read as the policy
abbrev pub Accepts : (Bytes → Option PlainPolicy) → Type 0
Accepts reads = (text : Bytes) (p : PlainPolicy) → Spells text p → IsTyped p → reads text ≡ Some p

module _ (words : WordsAreRead) (short : CommandsAreShort) (lack : TextsLack) (reads : Bytes → Option PlainPolicy) (accepts : Accepts reads) where
  read_as : (c : Command) (ws : List Bytes) → IsCommand c → split (command_spelling c) ≡ ws → words_read reads (command_spelling c) (placed 0 ws) ≡ Ok c → line_read reads (command_spelling c) ≡ Ok c
  unfolding line_read
  read_as c ws h is told = rw (le-ltb (most_bytes (command_spelling c)) (length (command_spelling c)) (short c h), is) told

  amendment_back : (a : Amendment) → IsAmendment a → amendment_in reads a.text ≡ Some a
  amendment_back a h = rw (h.one_line, accepts a.text a.policy h.spells h.typed) refl

  pub command_back : (c : Command) → IsCommand c → line_read reads (command_spelling c) ≡ Ok c
  unfolding command_spelling command_read value_words place_of set_words set_of env_words env_of amend_words
  command_back (Subject name) h =
      read_as (Subject name) (codes "subject" ∷ name ∷ []) h (two (codes "subject") name (lack.tested 32 (codes "subject") refl) (name_lacks lack name h))
      (rw (one_read name_in (codes "subject") name name (name_back name h)) refl)
  command_back (Object name) h =
      read_as (Object name) (codes "object" ∷ name ∷ []) h (two (codes "object") name (lack.tested 32 (codes "object") refl) (name_lacks lack name h))
      (rw (one_read name_in (codes "object") name name (name_back name h)) refl)
  command_back (Set side name attr v) h =
      let front : List Bytes = codes "set" ∷ side_word side ∷ name ∷ attr ∷ [] in
      let some = split_some (value_spelling v) in
      let lacks : Each (Lacks 32) front = (lack.tested 32 (codes "set") refl, (side_lacks lack side, (name_lacks lack name h.0, (name_lacks lack attr h.1, tt)))) in
      read_as (Set side name attr v) (front ++ some.0 ∷ some.1.0) h (split-join_rest front (value_spelling v) lacks ∙ ap (λ vs. front ++ vs) some.1.1)
      (rw (side_back side, name_back name h.0, name_back attr h.1, drop-join front (value_spelling v), words.values v h.2) refl)
  command_back (Env name v) h =
      let front : List Bytes = codes "env" ∷ name ∷ [] in
      let some = split_some (value_spelling v) in
      read_as (Env name v) (front ++ some.0 ∷ some.1.0) h
      (split-join_rest front (value_spelling v) (lack.tested 32 (codes "env") refl, (name_lacks lack name h.0, tt)) ∙ ap (λ vs. front ++ vs) some.1.1)
      (rw (name_back name h.0, drop-join front (value_spelling v), words.values v h.1) refl)
  command_back (Tick t) h =
      read_as (Tick t) (codes "tick" ∷ signed_decimal t ∷ []) h (two (codes "tick") (signed_decimal t) (lack.tested 32 (codes "tick") refl) (integer_lacks lack t h))
      (rw (one_read integer_in (codes "tick") (signed_decimal t) t (words.integers t h)) refl)
  command_back (Act s a o) h =
      read_as (Act s a o) (codes "act" ∷ s ∷ a ∷ o ∷ []) h
      (four (codes "act") s a o (lack.tested 32 (codes "act") refl) (name_lacks lack s h.0) (name_lacks lack a h.1) (name_lacks lack o h.2))
      (rw (three_read (codes "act") s a o h.0 h.1 h.2) refl)
  command_back (Try s r o) h =
      read_as (Try s r o) (codes "try" ∷ s ∷ r ∷ o ∷ []) h
      (four (codes "try") s r o (lack.tested 32 (codes "try") refl) (name_lacks lack s h.0) (name_lacks lack r h.1) (name_lacks lack o h.2))
      (rw (three_read (codes "try") s r o h.0 h.1 h.2) refl)
  command_back (Again n) h =
      read_as (Again n) (codes "again" ∷ decimal n ∷ []) h (two (codes "again") (decimal n) (lack.tested 32 (codes "again") refl) (number_lacks lack n h))
      (rw (one_read number_in (codes "again") (decimal n) n (words.numbers n h)) refl)
  command_back (Beat n) h =
      read_as (Beat n) (codes "beat" ∷ decimal n ∷ []) h (two (codes "beat") (decimal n) (lack.tested 32 (codes "beat") refl) (number_lacks lack n h))
      (rw (one_read number_in (codes "beat") (decimal n) n (words.numbers n h)) refl)
  command_back (End n) h =
      read_as (End n) (codes "end" ∷ decimal n ∷ []) h (two (codes "end") (decimal n) (lack.tested 32 (codes "end") refl) (number_lacks lack n h))
      (rw (one_read number_in (codes "end") (decimal n) n (words.numbers n h)) refl)
  command_back (Look n) h =
      read_as (Look n) (codes "look" ∷ decimal n ∷ []) h (two (codes "look") (decimal n) (lack.tested 32 (codes "look") refl) (number_lacks lack n h))
      (rw (one_read number_in (codes "look") (decimal n) n (words.numbers n h)) refl)
  command_back (Value' side name attr) h =
      read_as (Value' side name attr) (codes "value" ∷ side_word side ∷ name ∷ attr ∷ []) h
      (four (codes "value") (side_word side) name attr (lack.tested 32 (codes "value") refl) (side_lacks lack side) (name_lacks lack name h.0) (name_lacks lack attr h.1))
      (rw (side_back side, name_back name h.0, name_back attr h.1) refl)
  command_back (Amend a) h =
      let front : List Bytes = codes "amend" ∷ [] in
      let some = split_some a.text in
      read_as (Amend a) (front ++ some.0 ∷ some.1.0) h
      (split-join_rest front a.text (lack.tested 32 (codes "amend") refl, tt) ∙ ap (λ vs. front ++ vs) some.1.1)
      (rw (drop-join front a.text, amendment_back a h) refl)
