-- What is read as a command is one that a line may give.
use Rattle.std.proofs.Common.{◌≡◌, ℕ, ◌+◌, ◌<◌, ◌^◌, Bool, true, false, cond, List, [], ◌∷◌, length, Option, Some, None, Ok, Err, is_ok, is_some, refl, ap, subst, arith}
use Rattle.std.specs.Prelude.{Result, ℤ, pos, negsuc, ◌==◌, nat_lt, option_and_then, option_map, ok_or, unwrap_or, codes, IsTrue, ⊤}
use Rattle.std.specs.Result.{result_ok, result_unwrap_or}
use Rattle.std.specs.Str.{bytes_eq}
use Rattle.std.proofs.lemmas.Bool.{false≢true}
use Rattle.std.proofs.lemmas.Bool.Decides.{nat_tests}
use Rattle.ucon_base.specs.NameBytes.{is_name}
use Rattle.ucon_base.specs.Numbers.{InRange}
use Rattle.ucon_base.specs.Reading.{value_read}
use Rattle.ucon_base.specs.Spelling.{IsValue}
use Rattle.ucon_base.specs.declared.value.Side.{Side}
use Rattle.ucon_base.specs.declared.value.Value.{Value}
use Rattle.ucon_base.specs.declared.value.Value.TheVariants as values
use Rattle.ucon_base.specs.declared.value_fault.ValueFault.{ValueFault}
use Rattle.ucon_model.specs.declared.command.Command.{Command}
use Rattle.ucon_model.specs.declared.command.Command.TheVariants.{Subject, Object, Set, Env, Tick, Act, Try, Again, Beat, End, Look, Value as Value', Amend}
use Rattle.ucon_model.specs.declared.command.Caller.{Caller}
use Rattle.ucon_model.specs.Amending.{has_newline, IsAmendment}
use Rattle.ucon_model.specs.CommandLine.{IsCommand, LineRefusal, Word, ◌>>=◌, side_in, name_in, value_in, integer_of, integer_in, number_of, number_in, said, one_word, names_of, three_names, place_of, value_words, set_of, set_words, env_of, env_words, made, amendment_in, amend_words, command_read, words_read, words_of, with_rest, most_bytes, line_read, bad_word}
use Rattle.ucon_model.specs.Output.{cut_at}
use Rattle.ucon_model.specs.Payload as payloads
use Rattle.ucon_model.specs.Payload.{Told, caller_read, step_read, payload_read}
use Rattle.ucon_model.specs.Plain.{Bytes, PlainPolicy}
use Rattle.ucon_model.specs.ReplyText.{reply_read}
use Rattle.ucon_model.specs.Spells.{Spells}
use Rattle.ucon_model.specs.Typing.{IsTyped}
use Rattle.ucon_store.proofs.Spelled.ReadValues.{value_of_bytes}

refused : {A F : Type 0} {f : F} {v : A} → Err f ≡ Ok v → ⊥
refused h = false≢true (ap is_ok h)

nothing : {A : Type 0} {v : A} → None ≡ Some v → ⊥
nothing h = false≢true (ap is_some h)

same_some : {A : Type 0} (x y : A) → Some x ≡ Some y → x ≡ y
same_some x y h = ap (λ o. unwrap_or o x) h

abbrev done : {A : Type 0} → A → Result A LineRefusal
done x = Ok x

same_ok : {A : Type 0} (x y : A) → done x ≡ Ok y → x ≡ y
same_ok {A} x y h = ap (λ (r : Result A LineRefusal). result_unwrap_or r x) h

-- ---- words

-- what is read by its kind has what all of the kind have
abbrev Gives : {A : Type 0} → (Bytes → Option A) → (A → Type 0) → Type 0
Gives {A} kind Q = (bs : Bytes) (x : A) → kind bs ≡ Some x → Q x

gives_name : Gives name_in (λ name. IsTrue (is_name name))
gives_name bs name h = by (is_name bs) refl h
  where
    by : (b : Bool) → is_name bs ≡ b → cond b (Some bs) None ≡ Some name → IsTrue (is_name name)
    by true is k = subst (λ (n : Bytes). IsTrue (is_name n)) (same_some bs name k) is
    by false is k = absurd (nothing k)

gives_side : Gives side_in (λ side. ⊤)
gives_side bs side h = tt

gives_value : Gives value_in IsValue
gives_value bs v h = by (value_read bs) refl h
  where
    by : (r : Result Value ValueFault) → value_read bs ≡ r → result_ok r ≡ Some v → IsValue v
    by (Ok w) is k = subst IsValue (same_some w v k) (value_of_bytes bs w is)
    by (Err f) is k = absurd (nothing k)

gives_integer : Gives integer_in InRange
gives_integer bs z h = by (value_in bs) refl h
  where
    by : (o : Option Value) → value_in bs ≡ o → option_and_then integer_of o ≡ Some z → InRange z
    by None is k = absurd (nothing k)
    by (Some (values.Int n)) is k = subst InRange (same_some n z k) (gives_value bs (values.Int n) is)
    by (Some (values.Text t)) is k = absurd (nothing k)
    by (Some (values.Set ts)) is k = absurd (nothing k)

below_if : (n : ℕ) → nat_lt n (2 ^ 32) ≡ true → n < 2 ^ 32
below_if n h = grind (arith, nat_tests)

gives_number : Gives number_in (λ n. n < 2 ^ 32)
gives_number bs n h = by (integer_in bs) h
  where
    small : (m : ℕ) (b : Bool) → nat_lt m (2 ^ 32) ≡ b → cond b (Some m) None ≡ Some n → n < 2 ^ 32
    small m true is k = subst (λ (i : ℕ). i < 2 ^ 32) (same_some m n k) (below_if m is)
    small m false is k = absurd (nothing k)

    by : (o : Option ℤ) → option_and_then number_of o ≡ Some n → n < 2 ^ 32
    by None k = absurd (nothing k)
    by (Some (pos m)) k = small m (nat_lt m (2 ^ 32)) refl k
    by (Some (negsuc m)) k = absurd (nothing k)

gives_said : {A : Type 0} (kind : Bytes → Option A) (Q : A → Type 0) → Gives kind Q → (w : Word) (x : A) → said kind w ≡ Ok x → Q x
gives_said {A} kind Q gives w x h = by (kind w.text) refl h
  where
    by : (o : Option A) → kind w.text ≡ o → ok_or o (bad_word w.at) ≡ Ok x → Q x
    by None is k = absurd (refused k)
    by (Some y) is k = subst Q (same_ok y x k) (gives w.text y is)

bind_is : {A B : Type 0} (r : Result A LineRefusal) (f : A → Result B LineRefusal) (y : B) → (r >>= f) ≡ Ok y → (x : A) × ((r ≡ Ok x) × (f x ≡ Ok y))
bind_is (Ok x) f y h = (x, (refl, h))
bind_is (Err r) f y h = absurd (refused h)

made_is : {A : Type 0} (command : A → Command) (r : Result A LineRefusal) (c : Command) → made command r ≡ Ok c → (x : A) × ((r ≡ Ok x) × (command x ≡ c))
made_is command (Ok x) c h = (x, (refl, same_ok (command x) c h))
made_is command (Err r) c h = absurd (refused h)

-- ---- forms

one_gives : {A : Type 0} (kind : Bytes → Option A) (Q : A → Type 0) → Gives kind Q → (ws : List Word) (x : A) → one_word kind ws ≡ Ok x → Q x
unfolding one_word
one_gives kind Q gives [] x h = absurd (refused h)
one_gives kind Q gives (w ∷ []) x h = absurd (refused h)
one_gives kind Q gives (w ∷ a ∷ []) x h = gives_said kind Q gives a x h
one_gives kind Q gives (w ∷ a ∷ b ∷ ws) x h = absurd (refused h)

abbrev Named3 : Bytes × Bytes × Bytes → Type 0
Named3 t = IsTrue (is_name t.0) × IsTrue (is_name t.1) × IsTrue (is_name t.2)

three_give : (ws : List Word) (t : Bytes × Bytes × Bytes) → three_names ws ≡ Ok t → Named3 t
unfolding three_names names_of
three_give [] t h = absurd (refused h)
three_give (w ∷ []) t h = absurd (refused h)
three_give (w ∷ a ∷ []) t h = absurd (refused h)
three_give (w ∷ a ∷ b ∷ []) t h = absurd (refused h)
three_give (w ∷ a ∷ b ∷ c ∷ []) t h =
    let x = bind_is (said name_in a) _ t h in
    let y = bind_is (said name_in b) _ t x.1.1 in
    let z = bind_is (said name_in c) _ t y.1.1 in
    subst Named3 (same_ok (x.0, y.0, z.0) t z.1.1)
    (gives_said name_in _ gives_name a x.0 x.1.0, gives_said name_in _ gives_name b y.0 y.1.0, gives_said name_in _ gives_name c z.0 z.1.0)
three_give (w ∷ a ∷ b ∷ c ∷ d ∷ ws) t h = absurd (refused h)

abbrev Named2 : Side × Bytes × Bytes → Type 0
Named2 p = IsTrue (is_name p.1) × IsTrue (is_name p.2)

place_gives : (s n a : Word) (p : Side × Bytes × Bytes) → place_of s n a ≡ Ok p → Named2 p
unfolding place_of
place_gives s n a p h =
    let x = bind_is (said side_in s) _ p h in
    let y = bind_is (said name_in n) _ p x.1.1 in
    let z = bind_is (said name_in a) _ p y.1.1 in
    subst Named2 (same_ok (x.0, y.0, z.0) p z.1.1) (gives_said name_in _ gives_name n y.0 y.1.0, gives_said name_in _ gives_name a z.0 z.1.0)

value_words_give : (ws : List Word) (p : Side × Bytes × Bytes) → value_words ws ≡ Ok p → Named2 p
unfolding value_words
value_words_give [] p h = absurd (refused h)
value_words_give (w ∷ []) p h = absurd (refused h)
value_words_give (w ∷ s ∷ []) p h = absurd (refused h)
value_words_give (w ∷ s ∷ n ∷ []) p h = absurd (refused h)
value_words_give (w ∷ s ∷ n ∷ a ∷ []) p h = place_gives s n a p h
value_words_give (w ∷ s ∷ n ∷ a ∷ b ∷ ws) p h = absurd (refused h)

set_gives : (line : Bytes) (ws : List Word) (c : Command) → set_words line ws ≡ Ok c → IsCommand c
unfolding set_words set_of
set_gives line [] c h = absurd (refused h)
set_gives line (w ∷ []) c h = absurd (refused h)
set_gives line (w ∷ s ∷ []) c h = absurd (refused h)
set_gives line (w ∷ s ∷ n ∷ []) c h = absurd (refused h)
set_gives line (w ∷ s ∷ n ∷ a ∷ []) c h = absurd (refused h)
set_gives line (w ∷ s ∷ n ∷ a ∷ v ∷ more) c h =
    let p = bind_is (place_of s n a) _ c h in
    let value = bind_is (said value_in (with_rest line v)) _ c p.1.1 in
    let names = place_gives s n a p.0 p.1.0 in
    subst IsCommand (same_ok (Set p.0.0 p.0.1 p.0.2 value.0) c value.1.1) (names.0, names.1, gives_said value_in IsValue gives_value (with_rest line v) value.0 value.1.0)

env_gives : (line : Bytes) (ws : List Word) (c : Command) → env_words line ws ≡ Ok c → IsCommand c
unfolding env_words env_of
env_gives line [] c h = absurd (refused h)
env_gives line (w ∷ []) c h = absurd (refused h)
env_gives line (w ∷ n ∷ []) c h = absurd (refused h)
env_gives line (w ∷ n ∷ v ∷ more) c h =
    let name = bind_is (said name_in n) _ c h in
    let value = bind_is (said value_in (with_rest line v)) _ c name.1.1 in
    subst IsCommand (same_ok (Env name.0 value.0) c value.1.1)
    (gives_said name_in _ gives_name n name.0 name.1.0, gives_said value_in IsValue gives_value (with_rest line v) value.0 value.1.0)

-- a text is read as a well typed policy that it spells
module _ (reads : Bytes → Option PlainPolicy) (accepts : (text : Bytes) (P : PlainPolicy) → reads text ≡ Some P → Spells text P × IsTyped P) where
  gives_amendment : Gives (amendment_in reads) IsAmendment
  gives_amendment text a h = by (has_newline text) refl h
    where
      told : (o : Option PlainPolicy) → reads text ≡ o → has_newline text ≡ false → option_map (λ policy. record { text = text; policy = policy }) o ≡ Some a → IsAmendment a
      told None is one k = absurd (nothing k)
      told (Some Q) is one k =
          let both = accepts text Q is in
          subst IsAmendment (same_some (record { text = text; policy = Q }) a k) (record { spells = both.0; typed = both.1; one_line = one })

      by : (b : Bool) → has_newline text ≡ b → cond b None (option_map (λ policy. record { text = text; policy = policy }) (reads text)) ≡ Some a → IsAmendment a
      by true is k = absurd (nothing k)
      by false is k = told (reads text) refl is k

  amend_gives : (line : Bytes) (ws : List Word) (c : Command) → amend_words reads line ws ≡ Ok c → IsCommand c
  unfolding amend_words
  amend_gives line [] c h = absurd (refused h)
  amend_gives line (w ∷ []) c h = absurd (refused h)
  amend_gives line (w ∷ v ∷ more) c h =
      let a = made_is Amend (said (amendment_in reads) (with_rest line v)) c h in
      subst IsCommand a.1.1 (gives_said (amendment_in reads) IsAmendment gives_amendment (with_rest line v) a.0 a.1.0)

  made_gives : {A : Type 0} (command : A → Command) (r : Result A LineRefusal) (c : Command) → ((x : A) → r ≡ Ok x → IsCommand (command x)) → made command r ≡ Ok c → IsCommand c
  made_gives command r c each h = let x = made_is command r c h in subst IsCommand x.1.1 (each x.0 x.1.0)

  either : (b : Bool) (x y : Result Command LineRefusal) (c : Command) → (x ≡ Ok c → IsCommand c) → (y ≡ Ok c → IsCommand c) → cond b x y ≡ Ok c → IsCommand c
  either true x y c f g h = f h
  either false x y c f g h = g h

  command_gives : (line first : Bytes) (ws : List Word) (c : Command) → command_read reads line first ws ≡ Ok c → IsCommand c
  unfolding command_read
  command_gives line first ws c =
      either (bytes_eq first (codes "subject")) _ _ c (made_gives Subject (one_word name_in ws) c (one_gives name_in _ gives_name ws))
      (either (bytes_eq first (codes "object")) _ _ c (made_gives Object (one_word name_in ws) c (one_gives name_in _ gives_name ws))
      (either (bytes_eq first (codes "set")) _ _ c (set_gives line ws c)
      (either (bytes_eq first (codes "env")) _ _ c (env_gives line ws c)
      (either (bytes_eq first (codes "tick")) _ _ c (made_gives Tick (one_word integer_in ws) c (one_gives integer_in _ gives_integer ws))
      (either (bytes_eq first (codes "act")) _ _ c (made_gives (λ t. Act t.0 t.1 t.2) (three_names ws) c (three_give ws))
      (either (bytes_eq first (codes "try")) _ _ c (made_gives (λ t. Try t.0 t.1 t.2) (three_names ws) c (three_give ws))
      (either (bytes_eq first (codes "again")) _ _ c (made_gives Again (one_word number_in ws) c (one_gives number_in _ gives_number ws))
      (either (bytes_eq first (codes "beat")) _ _ c (made_gives Beat (one_word number_in ws) c (one_gives number_in _ gives_number ws))
      (either (bytes_eq first (codes "end")) _ _ c (made_gives End (one_word number_in ws) c (one_gives number_in _ gives_number ws))
      (either (bytes_eq first (codes "look")) _ _ c (made_gives Look (one_word number_in ws) c (one_gives number_in _ gives_number ws))
      (either (bytes_eq first (codes "value")) _ _ c (made_gives (λ p. Value' p.0 p.1 p.2) (value_words ws) c (value_words_give ws))
      (either (bytes_eq first (codes "amend")) _ _ c (amend_gives line ws c) (λ h. absurd (refused h))))))))))))))

  words_give : (line : Bytes) (ws : List Word) (c : Command) → words_read reads line ws ≡ Ok c → IsCommand c
  words_give line [] c h = absurd (refused h)
  words_give line (w ∷ ws) c h = either (length w.text == 0) _ _ c (λ k. absurd (refused k)) (command_gives line w.text (w ∷ ws) c) h

  -- what a line is read as
  pub line_gives : (line : Bytes) (c : Command) → line_read reads line ≡ Ok c → IsCommand c
  unfolding line_read
  line_gives line c h = either (nat_lt (most_bytes line) (length line)) _ _ c (λ k. absurd (refused k)) (words_give line (words_of line) c) h

  -- ---- payloads

  abbrev step : {A : Type 0} → A → Result A ℕ
  step x = Ok x

  bind_step : {A B : Type 0} (r : Result A ℕ) (f : A → Result B ℕ) (y : B) → payloads.◌>>=◌ r f ≡ Ok y → (x : A) × ((r ≡ Ok x) × (f x ≡ Ok y))
  bind_step (Ok x) f y h = (x, (refl, h))
  bind_step (Err r) f y h = absurd (refused h)

  ok_some : {A : Type 0} (o : Option A) (n : ℕ) (x : A) → ok_or o n ≡ Ok x → o ≡ Some x
  ok_some None n x h = absurd (refused h)
  ok_some (Some y) n x h = ap result_ok h

  ok_result : (r : Result Command LineRefusal) (c : Command) → result_ok r ≡ Some c → r ≡ Ok c
  ok_result (Ok d) c h = ap done (same_some d c h)
  ok_result (Err f) c h = absurd (nothing h)

  step_gives : (place : ℕ) (caller : Caller) (bytes : Bytes) (t : Told) → step_read reads place caller bytes ≡ Ok t → IsCommand t.command
  unfolding step_read
  step_gives place caller bytes t h =
      let parts = bind_step (ok_or (cut_at 10 bytes) place) _ t h in
      let command = bind_step (ok_or (result_ok (line_read reads parts.0.0)) place) _ t parts.1.1 in
      let reply = bind_step (ok_or (reply_read parts.0.1) (place + length parts.0.0 + 1)) _ t command.1.1 in
      let is : line_read reads parts.0.0 ≡ Ok command.0 = ok_result (line_read reads parts.0.0) command.0 (ok_some (result_ok (line_read reads parts.0.0)) place command.0 command.1.0) in
      let told : record { caller = caller; command = command.0; reply = reply.0 } ≡ t = ap (λ (r : Result Told ℕ). result_unwrap_or r t) reply.1.1 in
      subst (λ (u : Told). IsCommand u.command) told (line_gives parts.0.0 command.0 is)

  -- the command of a step that a payload tells
  pub payload_gives : (bytes : Bytes) (t : Told) → payload_read reads bytes ≡ Ok t → IsCommand t.command
  unfolding payload_read
  payload_gives bytes t h =
      let parts = bind_step (ok_or (cut_at 32 bytes) 0) _ t h in
      let caller = bind_step (ok_or (caller_read parts.0.0) 0) _ t parts.1.1 in
      step_gives (length parts.0.0 + 1) caller.0 parts.0.1 t caller.1.1
