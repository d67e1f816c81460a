-- A line that is read as a command is the command's text.
use Rattle.std.proofs.Common.{◌≡◌, Bool, true, false, cond, List, [], ◌∷◌, ◌++◌, length, drop, Some, None, Ok, Err, is_ok, is_some, refl, sym, ap, ◌∙◌}
use Rattle.std.specs.Prelude.{Result, Option, codes, nat_lt, ok_or, option_map, unwrap_or, ◌==◌}
use Rattle.std.specs.Fmt.{decimal, signed_decimal}
use Rattle.std.specs.Result.{result_ok, result_unwrap_or}
use Rattle.std.specs.Str.{bytes_eq}
use Rattle.std.proofs.lemmas.Bool.{false≢true}
use Rattle.std.proofs.lemmas.List.Splits.{join_with_byte-slice_split}
use Rattle.std.proofs.lemmas.Slice.Eq.{bytes_eq-Decides}
use Rattle.ucon_base.specs.declared.value.Side.{Side}
use Rattle.ucon_base.specs.declared.value.Side.TheVariants as sides
use Rattle.ucon_base.specs.declared.value.Value.{Value}
use Rattle.ucon_base.specs.NameBytes.{is_name}
use Rattle.ucon_base.specs.Spelling.{value_spelling, side_word}
use Rattle.ucon_model.specs.declared.command.Command.{Command}
use Rattle.ucon_model.specs.declared.command.Command.TheVariants.{Subject, Object, Set, Env, Tick, Act, Try, Again, Beat, End, Look, Value as Value', Amend}
use Rattle.ucon_model.specs.Amending.{has_newline}
use Rattle.ucon_model.specs.CommandLine.{command_words, command_spelling, LineRefusal, no_word, line_too_long, Word, placed, ◌>>=◌, side_in, name_in, value_in, integer_in, number_in, one_word, names_of, three_names, place_of, value_words, set_of, set_words, env_of, env_words, amendment_in, amend_words, made, command_read, words_read, most_bytes, line_read}
use Rattle.ucon_model.specs.Plain.{Bytes, PlainPolicy, Amendment}
use Rattle.ucon_reply.specs.Joined.{split, join, behind, drop-join}
use Rattle.ucon_command.proofs.LowerLaws.{WordsAreSpelled}

refused : {A : Type 0} {f : LineRefusal} {v : A} → Err f ≡ Ok v → ⊥
refused h = false≢true (ap is_ok h)

nothing : {A : Type 0} {v : A} → None ≡ Some v → ⊥
nothing h = false≢true (ap is_some h)

pub same_bytes : (xs ys : Bytes) → bytes_eq xs ys ≡ true → xs ≡ ys
same_bytes xs ys h = (bytes_eq-Decides xs ys).0 h

-- ---- words

kept : {A : Type 0} (b : Bool) (x y : A) → cond b (Some x) None ≡ Some y → x ≡ y
kept true x y h = ap (λ o. unwrap_or o x) h
kept false x y h = absurd (nothing h)

pub name_is : (bs name : Bytes) → name_in bs ≡ Some name → name ≡ bs
name_is bs name h = sym (kept (is_name bs) bs name h)

side_from : (bs : Bytes) (s o : Bool) (side : Side) → bytes_eq bs (codes "s") ≡ s → bytes_eq bs (codes "o") ≡ o → cond s (Some sides.Subject) (cond o (Some sides.Object) None) ≡ Some side → side_word side ≡ bs
side_from bs true o side is_s is_o h = ap (λ x. side_word (unwrap_or x side)) (sym h) ∙ sym (same_bytes bs (codes "s") is_s)
side_from bs false true side is_s is_o h = ap (λ x. side_word (unwrap_or x side)) (sym h) ∙ sym (same_bytes bs (codes "o") is_o)
side_from bs false false side is_s is_o h = absurd (nothing h)

side_is : (bs : Bytes) (side : Side) → side_in bs ≡ Some side → side_word side ≡ bs
side_is bs side h = side_from bs (bytes_eq bs (codes "s")) (bytes_eq bs (codes "o")) side refl refl h

pub said_is : {A : Type 0} (o : Option A) (r : LineRefusal) (x : A) → ok_or o r ≡ Ok x → o ≡ Some x
said_is None r x h = absurd (refused h)
said_is (Some y) r x h = ap result_ok h

-- ---- forms

made_is : {A : Type 0} (command : A → Command) (r : Result A LineRefusal) (c : Command) → made command r ≡ Ok c → (x : A) × ((r ≡ Ok x) × (command x ≡ c))
made_is command (Ok x) c h = (x, (refl, ap (λ y. result_unwrap_or y c) h))
made_is command (Err r) c h = absurd (refused h)

bind_is : {A B : Type 0} (r : Result A LineRefusal) (f : A → Result B LineRefusal) (y : B) → (r >>= f) ≡ Ok y → (x : A) × ((r ≡ Ok x) × (f x ≡ Ok y))
bind_is (Ok x) f y h = (x, (refl, h))
bind_is (Err r) f y h = absurd (refused h)

one_is : {A : Type 0} (kind : Bytes → Option A) (spell : A → Bytes) → ((bs : Bytes) (x : A) → kind bs ≡ Some x → spell x ≡ bs)
    → (first : Bytes) (ws : List Bytes) (x : A) → one_word kind (placed 0 (first ∷ ws)) ≡ Ok x → spell x ∷ [] ≡ ws
unfolding one_word
one_is kind spell back first [] x h = absurd (refused h)
one_is kind spell back first (w ∷ []) x h = ap (λ v. v ∷ []) (back w x (said_is (kind w) _ x h))
one_is kind spell back first (w ∷ v ∷ ws) x h = absurd (refused h)

listed : (x a y b z c : Bytes) → x ≡ a → y ≡ b → z ≡ c → x ∷ y ∷ z ∷ [] ≡ a ∷ b ∷ c ∷ []
listed x a y b z c p q r = rw (p, q, r) refl

three_is : (first : Bytes) (ws : List Bytes) (t : Bytes × Bytes × Bytes) → three_names (placed 0 (first ∷ ws)) ≡ Ok t → t.0 ∷ t.1 ∷ t.2 ∷ [] ≡ ws
unfolding three_names names_of
three_is first [] t h = absurd (refused h)
three_is first (a ∷ []) t h = absurd (refused h)
three_is first (a ∷ b ∷ []) t h = absurd (refused h)
three_is first (a ∷ b ∷ c ∷ []) t h =
    let x = bind_is _ _ t h in
    let y = bind_is _ _ t x.1.1 in
    let z = bind_is _ _ t y.1.1 in
    let a_is : x.0 ≡ a = name_is a x.0 (said_is _ _ x.0 x.1.0) in
    let b_is : y.0 ≡ b = name_is b y.0 (said_is _ _ y.0 y.1.0) in
    let c_is : z.0 ≡ c = name_is c z.0 (said_is _ _ z.0 z.1.0) in
    let told : t ≡ (x.0, y.0, z.0) = sym (ap (λ r. result_unwrap_or r t) z.1.1) in
    ap (λ u. u.0 ∷ u.1 ∷ u.2 ∷ []) told ∙ listed x.0 a y.0 b z.0 c a_is b_is c_is
three_is first (a ∷ b ∷ c ∷ d ∷ ws) t h = absurd (refused h)

place_is : (s n a : Word) (p : Side × Bytes × Bytes) → place_of s n a ≡ Ok p → side_word p.0 ∷ p.1 ∷ p.2 ∷ [] ≡ s.text ∷ n.text ∷ a.text ∷ []
unfolding place_of
place_is s n a p h =
    let x = bind_is _ _ p h in
    let y = bind_is _ _ p x.1.1 in
    let z = bind_is _ _ p y.1.1 in
    let s_is : side_word x.0 ≡ s.text = side_is s.text x.0 (said_is _ _ x.0 x.1.0) in
    let n_is : y.0 ≡ n.text = name_is n.text y.0 (said_is _ _ y.0 y.1.0) in
    let a_is : z.0 ≡ a.text = name_is a.text z.0 (said_is _ _ z.0 z.1.0) in
    let told : p ≡ (x.0, y.0, z.0) = sym (ap (λ r. result_unwrap_or r p) z.1.1) in
    ap (λ u. side_word u.0 ∷ u.1 ∷ u.2 ∷ []) told ∙ listed (side_word x.0) s.text y.0 n.text z.0 a.text s_is n_is a_is

value_words_is : (first : Bytes) (ws : List Bytes) (p : Side × Bytes × Bytes) → value_words (placed 0 (first ∷ ws)) ≡ Ok p → side_word p.0 ∷ p.1 ∷ p.2 ∷ [] ≡ ws
unfolding value_words
value_words_is first [] p h = absurd (refused h)
value_words_is first (s ∷ []) p h = absurd (refused h)
value_words_is first (s ∷ n ∷ []) p h = absurd (refused h)
value_words_is first (s ∷ n ∷ a ∷ []) p h = place_is _ _ _ p h
value_words_is first (s ∷ n ∷ a ∷ b ∷ ws) p h = absurd (refused h)

-- a form whose words are made into a command
from : {A : Type 0} (command : A → Command) (words : A → List Bytes) (word first : Bytes) (ws : List Bytes) (r : Result A LineRefusal) (c : Command)
    → ((x : A) → command_words (command x) ≡ word ∷ words x) → word ≡ first → ((x : A) → r ≡ Ok x → words x ≡ ws) → made command r ≡ Ok c → join (command_words c) ≡ join (first ∷ ws)
from command words word first ws r c spelled w back h =
    let x = made_is command r c h in
    ap (λ k. join (command_words k)) (sym x.1.1) ∙ ap join (spelled x.0) ∙ ap (λ vs. join (word ∷ vs)) (back x.0 x.1.0) ∙ ap (λ b. join (b ∷ ws)) w

either : {G : Type 0} (b : Bool) (x y : Result Command LineRefusal) (c : Command) → cond b x y ≡ Ok c → (b ≡ true → x ≡ Ok c → G) → (y ≡ Ok c → G) → G
either true x y c h f g = f refl h
either false x y c h f g = g h

-- ---- values

module _ (words : WordsAreSpelled) where
  -- a value that takes the rest of a line
  rest_is : (front : List Bytes) (line rest : Bytes) (v : Value) → line ≡ join (front ++ rest ∷ []) → value_in (drop (behind 0 front) line) ≡ Some v → value_spelling v ≡ rest
  rest_is front line rest v is h = words.values _ v h ∙ ap (drop (behind 0 front)) is ∙ drop-join front rest

  set_is : (line first : Bytes) (ws : List Bytes) (c : Command) → codes "set" ≡ first → line ≡ join (first ∷ ws) → set_words line (placed 0 (first ∷ ws)) ≡ Ok c → join (command_words c) ≡ join (first ∷ ws)
  unfolding set_words set_of
  set_is line first [] c w is h = absurd (refused h)
  set_is line first (s ∷ []) c w is h = absurd (refused h)
  set_is line first (s ∷ n ∷ []) c w is h = absurd (refused h)
  set_is line first (s ∷ n ∷ a ∷ []) c w is h = absurd (refused h)
  set_is line first (s ∷ n ∷ a ∷ v ∷ more) c w is h =
      let x = bind_is _ _ c h in
      let y = bind_is _ _ c x.1.1 in
      let place : side_word x.0.0 ∷ x.0.1 ∷ x.0.2 ∷ [] ≡ s ∷ n ∷ a ∷ [] = place_is _ _ _ x.0 x.1.0 in
      let value : value_spelling y.0 ≡ join (v ∷ more) = rest_is (first ∷ s ∷ n ∷ a ∷ []) line (join (v ∷ more)) y.0 is (said_is _ _ y.0 y.1.0) in
      let told : Set x.0.0 x.0.1 x.0.2 y.0 ≡ c = ap (λ r. result_unwrap_or r c) y.1.1 in
      ap (λ k. join (command_words k)) (sym told)
      ∙ ap (λ b. join (b ∷ (side_word x.0.0 ∷ x.0.1 ∷ x.0.2 ∷ []) ++ value_spelling y.0 ∷ [])) w
      ∙ ap (λ ws. join (first ∷ ws ++ value_spelling y.0 ∷ [])) place
      ∙ ap (λ b. join (first ∷ s ∷ n ∷ a ∷ b ∷ [])) value

  env_is : (line first : Bytes) (ws : List Bytes) (c : Command) → codes "env" ≡ first → line ≡ join (first ∷ ws) → env_words line (placed 0 (first ∷ ws)) ≡ Ok c → join (command_words c) ≡ join (first ∷ ws)
  unfolding env_words env_of
  env_is line first [] c w is h = absurd (refused h)
  env_is line first (n ∷ []) c w is h = absurd (refused h)
  env_is line first (n ∷ v ∷ more) c w is h =
      let x = bind_is _ _ c h in
      let y = bind_is _ _ c x.1.1 in
      let name : x.0 ≡ n = name_is n x.0 (said_is _ _ x.0 x.1.0) in
      let value : value_spelling y.0 ≡ join (v ∷ more) = rest_is (first ∷ n ∷ []) line (join (v ∷ more)) y.0 is (said_is _ _ y.0 y.1.0) in
      let told : Env x.0 y.0 ≡ c = ap (λ r. result_unwrap_or r c) y.1.1 in
      ap (λ k. join (command_words k)) (sym told)
      ∙ ap (λ b. join (b ∷ x.0 ∷ value_spelling y.0 ∷ [])) w
      ∙ ap (λ b. join (first ∷ b ∷ value_spelling y.0 ∷ [])) name
      ∙ ap (λ b. join (first ∷ n ∷ b ∷ [])) value

-- ---- lines

-- however the texts of policies are read
module _ (words : WordsAreSpelled) (reads : Bytes → Option PlainPolicy) where
  -- what a text is read as keeps the text
  amendment_from : (text : Bytes) (policy : Option PlainPolicy) (a : Amendment) → option_map (λ p. record { text = text; policy = p }) policy ≡ Some a → a.text ≡ text
  amendment_from text None a h = absurd (nothing h)
  amendment_from text (Some p) a h = ap (λ o. (unwrap_or o a).text) (sym h)

  one_line_from : (newline : Bool) (o : Option Amendment) (a : Amendment) → cond newline None o ≡ Some a → o ≡ Some a
  one_line_from true o a h = absurd (nothing h)
  one_line_from false o a h = h

  amendment_is : (text : Bytes) (a : Amendment) → amendment_in reads text ≡ Some a → a.text ≡ text
  amendment_is text a h = amendment_from text (reads text) a (one_line_from (has_newline text) _ a h)

  amend_is : (line first : Bytes) (ws : List Bytes) (c : Command) → codes "amend" ≡ first → line ≡ join (first ∷ ws) → amend_words reads line (placed 0 (first ∷ ws)) ≡ Ok c → join (command_words c) ≡ join (first ∷ ws)
  unfolding amend_words
  amend_is line first [] c w is h = absurd (refused h)
  amend_is line first (v ∷ more) c w is h =
      let x = made_is Amend _ c h in
      let text : x.0.text ≡ join (v ∷ more) = amendment_is _ x.0 (said_is _ _ x.0 x.1.0) ∙ ap (drop (behind 0 (first ∷ []))) is ∙ drop-join (first ∷ []) (join (v ∷ more)) in
      ap (λ k. join (command_words k)) (sym x.1.1) ∙ ap (λ b. join (b ∷ x.0.text ∷ [])) w ∙ ap (λ b. join (first ∷ b ∷ [])) text

  form_is : (line first : Bytes) (ws : List Bytes) (c : Command) → line ≡ join (first ∷ ws) → command_read reads line first (placed 0 (first ∷ ws)) ≡ Ok c → join (command_words c) ≡ join (first ∷ ws)
  unfolding command_read
  form_is line first ws c is h =
      let word : (w : Bytes) → bytes_eq first w ≡ true → w ≡ first = λ w e. sym (same_bytes first w e) in
      either _ _ _ c h (λ e r. from Subject (λ x. x ∷ []) (codes "subject") first ws _ c (λ x. refl) (word _ e) (one_is name_in (λ x. x) name_is first ws) r) (λ h1.
      either _ _ _ c h1 (λ e r. from Object (λ x. x ∷ []) (codes "object") first ws _ c (λ x. refl) (word _ e) (one_is name_in (λ x. x) name_is first ws) r) (λ h2.
      either _ _ _ c h2 (λ e r. set_is words line first ws c (word _ e) is r) (λ h3.
      either _ _ _ c h3 (λ e r. env_is words line first ws c (word _ e) is r) (λ h4.
      either _ _ _ c h4 (λ e r. from Tick (λ x. signed_decimal x ∷ []) (codes "tick") first ws _ c (λ x. refl) (word _ e) (one_is integer_in signed_decimal words.integers first ws) r) (λ h5.
      either _ _ _ c h5 (λ e r. from (λ t. Act t.0 t.1 t.2) (λ t. t.0 ∷ t.1 ∷ t.2 ∷ []) (codes "act") first ws _ c (λ x. refl) (word _ e) (three_is first ws) r) (λ h6.
      either _ _ _ c h6 (λ e r. from (λ t. Try t.0 t.1 t.2) (λ t. t.0 ∷ t.1 ∷ t.2 ∷ []) (codes "try") first ws _ c (λ x. refl) (word _ e) (three_is first ws) r) (λ h7.
      either _ _ _ c h7 (λ e r. from Again (λ x. decimal x ∷ []) (codes "again") first ws _ c (λ x. refl) (word _ e) (one_is number_in decimal words.numbers first ws) r) (λ h8.
      either _ _ _ c h8 (λ e r. from Beat (λ x. decimal x ∷ []) (codes "beat") first ws _ c (λ x. refl) (word _ e) (one_is number_in decimal words.numbers first ws) r) (λ h9.
      either _ _ _ c h9 (λ e r. from End (λ x. decimal x ∷ []) (codes "end") first ws _ c (λ x. refl) (word _ e) (one_is number_in decimal words.numbers first ws) r) (λ h10.
      either _ _ _ c h10 (λ e r. from Look (λ x. decimal x ∷ []) (codes "look") first ws _ c (λ x. refl) (word _ e) (one_is number_in decimal words.numbers first ws) r) (λ h11.
      either _ _ _ c h11 (λ e r. from (λ p. Value' p.0 p.1 p.2) (λ p. side_word p.0 ∷ p.1 ∷ p.2 ∷ []) (codes "value") first ws _ c (λ x. refl) (word _ e) (value_words_is first ws) r) (λ h12.
      either _ _ _ c h12 (λ e r. amend_is line first ws c (word _ e) is r) (λ h13.
      absurd (refused h13))))))))))))))

  words_is : (line : Bytes) (ws : List Bytes) (c : Command) → line ≡ join ws → words_read reads line (placed 0 ws) ≡ Ok c → join (command_words c) ≡ line
  words_is line [] c is h = absurd (refused h)
  words_is line (w ∷ ws) c is h = either (length w == 0) (Err no_word) _ c h (λ e r. absurd (refused r)) (λ r. form_is line w ws c is r ∙ sym is)

  pub command_is : (line : Bytes) (c : Command) → line_read reads line ≡ Ok c → command_spelling c ≡ line
  unfolding line_read command_spelling
  command_is line c h =
      either (nat_lt (most_bytes line) (length line)) (Err (line_too_long (length line))) _ c h (λ e r. absurd (refused r))
      (λ r. words_is line (split line) c (sym (join_with_byte-slice_split 32 line)) r)
