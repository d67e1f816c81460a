-- Words, numbers, texts, symbols and literals as they are printed.
use Rattle.std.proofs.Common.{◌≡◌, ℕ, ℤ, pos, negsuc, suc, ◌+◌, ◌<◌, ◌≤◌, Bool, true, false, cond, not, ◌&&◌, List, [], ◌∷◌, ◌++◌, length, get_or, Option, Some, None, option_map, is_none, decimal, refl, sym, ap, ◌∙◌, subst, arith, length-append, append_assoc}
use Rattle.std.specs.Prelude.{neg_ℤ, nat_le, nat_lt, position, codes, ⊤}
use Rattle.std.specs.List.{list_all, flat_map, position_or_len}
use Rattle.std.specs.Fmt.{signed_decimal}
use Rattle.std.proofs.lemmas.Grind.{common_steps}
use Rattle.std.proofs.lemmas.List.{take_all}
use Rattle.std.proofs.lemmas.List.Sums.{fails_before_first, list_all-from_AllPass}
use Rattle.std.proofs.lemmas.Bool.{and_parts, and_from, leb-true, ne_eqb}
use Rattle.std.proofs.lemmas.Int.{ints}
use Rattle.ucon_base.specs.NameBytes.{is_name, is_letter, is_word_byte, bad_place}
use Rattle.ucon_base.specs.TextBytes.{is_text, is_text_byte, bad_text_place}
use Rattle.ucon_base.specs.Numbers.{InRange}
use Rattle.ucon_base.specs.Value.{is_rising}
use Rattle.ucon_base.specs.Spelling.{quoted, IsValue}
use Rattle.ucon_base.specs.declared.value.Value.{Value}
use Rattle.ucon_base.specs.declared.value.Value.TheVariants as values
use Rattle.ucon_model.specs.Plain.{Bytes}
use Rattle.ucon_model.specs.Printing.{further_text, set_printing, literal_printing}
use Rattle.ucon_base.specs.Tokens.{a_word, a_number, a_text, a_symbol, Symbol, colon, semicolon, comma, dot, dots, minus_sign, open_round, close_round, open_square, close_square, open_curly, close_curly, next_token, begin_of, skip, token_from, token_at, symbol_token, single, begins_word}
use Rattle.ucon_model.specs.Forms.{word, number, text, symbol, item, Form, nothing, before, mapped, either_of, beyond, bare, IsClean}
use Rattle.ucon_model.specs.Grammar as grammar
use Rattle.ucon_print.proofs.Lexing.{Lexes, lexed, blank, new_line, symbol_byte, token_step, IsWord, IsText}
use Rattle.ucon_print.proofs.Lexing as lexing
use Rattle.ucon_print.proofs.Pieces.{Ends, Any, word_ends, number_ends, no_word, Puts, puts_none, puts_both, Printed, bare_append, clean_append, clean_one, not_beyond, nothing_printed, one_printed, before_printed, mapped_printed, left_printed, right_printed, same_printed, weaker}

-- ---- bytes that all pass a test

none_from : {A : Type 0} (o : Option A) → is_none o ≡ true → o ≡ None
none_from None e = refl
none_from (Some x) e = absurd cc

passes : (b : Bool) → not b ≡ false → b ≡ true
passes true e = refl
passes false e = absurd cc

-- where there is no place whose byte fails, each passes
all_pass : (p : ℕ → Bool) (bs : Bytes) → position (λ b. not (p b)) bs ≡ None → list_all p bs ≡ true
all_pass p bs none =
    let whole : length bs ≤ position_or_len (λ b. not (p b)) bs = grind (arith, common_steps) in
    list_all-from_AllPass p bs (λ k d lt. passes (p (get_or bs k d)) (fails_before_first (λ b. not (p b)) bs k d (omega (arith, lt, whole))))

-- ---- words

no_place : (letter : Bool) (place : Option ℕ) → is_none (cond letter (option_map (λ i. i + 1) place) (Some 0)) ≡ true → (letter ≡ true) × (place ≡ None)
no_place true None e = (refl, refl)
no_place true (Some i) e = absurd cc
no_place false place e = absurd cc

-- bytes from which a name's form is known
pub word_of_name : (name : Bytes) → is_name name ≡ true → IsWord name
word_of_name [] e = absurd cc
word_of_name (b ∷ bs) e =
    let parts = and_parts (nat_lt 0 (length (b ∷ bs)) && nat_le (length (b ∷ bs)) 32) (is_none (bad_place (b ∷ bs))) e in
    let sizes = and_parts (nat_lt 0 (length (b ∷ bs))) (nat_le (length (b ∷ bs)) 32) parts.0 in
    let place = no_place (is_letter b) (position (λ x. not (is_word_byte x)) bs) parts.1 in
    let first : is_word_byte b ≡ true = let letter = place.0 in rw letter refl in
    record {
      begins = place.0;
      bytes = and_from (is_word_byte b) (list_all is_word_byte bs) first (all_pass is_word_byte bs place.1);
      short = leb-true (length (b ∷ bs)) 32 sizes.1;
    }

pub word_puts : (w : Bytes) → IsWord w → Puts Ends w (a_word w ∷ [])
word_puts w is = record { lexes = λ rest more e l. lexing.word w rest more is (word_ends rest e) l }

pub name_puts : (name : Bytes) → is_name name ≡ true → Puts Ends name (a_word name ∷ [])
name_puts name is = word_puts name (word_of_name name is)

pub name_printed : (name : Bytes) → is_name name ≡ true → Printed Ends grammar.a_name name name
name_printed name is = one_printed Ends word (λ n. None) (λ n. ⊤) name name (name_puts name is) refl tt

-- ---- texts and numbers

pub text_puts : (t : Bytes) → is_text t ≡ true → Puts Any (quoted t) (a_text t ∷ [])
text_puts t is =
    let parts = and_parts (nat_le (length t) 64) (is_none (bad_text_place t)) is in
    let good : IsText t = record { bytes = all_pass is_text_byte t (none_from (bad_text_place t) parts.1); short = leb-true (length t) 64 parts.0 } in
    record { lexes = λ rest more e l. lexing.text t rest more good l }

pub number_puts : (n : ℕ) → n ≤ 1000000000000000 → Puts Ends (decimal n) (a_number (pos n) ∷ [])
number_puts n small = record { lexes = λ rest more e l. lexing.number n rest more small (number_ends rest e) (no_word rest e) l }

pub number_printed : (n : ℕ) → n ≤ 1000000000000000 → Printed Ends grammar.a_number (pos n) (decimal n)
number_printed n small = one_printed Ends number (λ n. None) (λ n. ⊤) (pos n) (decimal n) (number_puts n small) refl tt

-- ---- blanks and symbols

pub blank_puts : Puts Any (32 ∷ []) []
blank_puts = record { lexes = λ rest more e l. blank rest more l }

pub new_line_puts : Puts Any (10 ∷ []) []
new_line_puts = record { lexes = λ rest more e l. new_line rest more l }

pub symbol_puts : (b : ℕ) (s : Symbol) → ((rest : Bytes) → next_token false (b ∷ rest) ≡ lexed (a_symbol s) rest) → Puts Any (b ∷ []) (a_symbol s ∷ [])
symbol_puts b s is = record { lexes = λ rest more e l. symbol_byte b s rest more (is rest) l }

-- a symbol between blanks
pub framed_puts : (bs : Bytes) (s : Symbol) → 0 < length bs → ((rest : Bytes) → next_token false (bs ++ (32 ∷ rest)) ≡ lexed (a_symbol s) (32 ∷ rest)) → Puts Any (32 ∷ (bs ++ 32 ∷ [])) (a_symbol s ∷ [])
framed_puts bs s some is = record {
  lexes = λ rest more e l.
      let size = length-append bs (32 ∷ rest) in
      subst (λ z. Lexes (32 ∷ z) (a_symbol s ∷ more)) (sym (append_assoc bs (32 ∷ []) rest))
      (blank (bs ++ (32 ∷ rest)) (a_symbol s ∷ more)
      (token_step (a_symbol s) (bs ++ (32 ∷ rest)) (32 ∷ rest) more (λ more. refl) (is rest) (omega arith) (blank rest more l)));
}

pub dots_puts : Puts Any (46 ∷ 46 ∷ []) (a_symbol dots ∷ [])
unfolding next_token begin_of skip token_from token_at symbol_token single
dots_puts = record { lexes = λ rest more e l. token_step (a_symbol dots) (46 ∷ 46 ∷ rest) rest more (λ more. refl) refl (omega arith) l }

-- what may follow a dot
abbrev pub AtWord : Bytes → Type 0
AtWord bs = begins_word bs ≡ true

dot_alone : (rest : Bytes) → AtWord rest → next_token false (46 ∷ rest) ≡ lexed (a_symbol dot) rest
unfolding next_token begin_of skip token_from token_at symbol_token single
dot_alone [] e = absurd cc
dot_alone (b ∷ bs) e =
    let parts = and_parts (nat_le 97 b) (nat_le b 122) e in
    let low = leb-true 97 b parts.0 in
    rw (ne_eqb b 46 (λ e. omega arith)) refl

pub dot_puts : Puts AtWord (46 ∷ []) (a_symbol dot ∷ [])
dot_puts = record { lexes = λ rest more e l. symbol_byte 46 dot rest more (dot_alone rest e) l }

pub name_begins : (name rest : Bytes) → is_name name ≡ true → AtWord (name ++ rest)
name_begins [] rest e = absurd cc
name_begins (b ∷ bs) rest e = (word_of_name (b ∷ bs) e).begins

module _ where
  pub colon_puts : Puts Any (58 ∷ []) (a_symbol colon ∷ [])
  unfolding next_token begin_of skip token_from token_at symbol_token single
  colon_puts = symbol_puts 58 colon (λ rest. refl)

  pub semicolon_puts : Puts Any (59 ∷ []) (a_symbol semicolon ∷ [])
  unfolding next_token begin_of skip token_from token_at symbol_token single
  semicolon_puts = symbol_puts 59 semicolon (λ rest. refl)

  pub comma_puts : Puts Any (44 ∷ []) (a_symbol comma ∷ [])
  unfolding next_token begin_of skip token_from token_at symbol_token single
  comma_puts = symbol_puts 44 comma (λ rest. refl)

  pub minus_puts : Puts Any (45 ∷ []) (a_symbol minus_sign ∷ [])
  unfolding next_token begin_of skip token_from token_at symbol_token single
  minus_puts = symbol_puts 45 minus_sign (λ rest. refl)

  pub open_round_puts : Puts Any (40 ∷ []) (a_symbol open_round ∷ [])
  unfolding next_token begin_of skip token_from token_at symbol_token single
  open_round_puts = symbol_puts 40 open_round (λ rest. refl)

  pub close_round_puts : Puts Any (41 ∷ []) (a_symbol close_round ∷ [])
  unfolding next_token begin_of skip token_from token_at symbol_token single
  close_round_puts = symbol_puts 41 close_round (λ rest. refl)

  pub open_square_puts : Puts Any (91 ∷ []) (a_symbol open_square ∷ [])
  unfolding next_token begin_of skip token_from token_at symbol_token single
  open_square_puts = symbol_puts 91 open_square (λ rest. refl)

  pub close_square_puts : Puts Any (93 ∷ []) (a_symbol close_square ∷ [])
  unfolding next_token begin_of skip token_from token_at symbol_token single
  close_square_puts = symbol_puts 93 close_square (λ rest. refl)

  pub open_curly_puts : Puts Any (123 ∷ []) (a_symbol open_curly ∷ [])
  unfolding next_token begin_of skip token_from token_at symbol_token single
  open_curly_puts = symbol_puts 123 open_curly (λ rest. refl)

  pub close_curly_puts : Puts Any (125 ∷ []) (a_symbol close_curly ∷ [])
  unfolding next_token begin_of skip token_from token_at symbol_token single
  close_curly_puts = symbol_puts 125 close_curly (λ rest. refl)

-- ---- literals

abbrev negative : Form ℤ
negative = before (grammar.sign minus_sign) (mapped neg_ℤ grammar.a_number)

pub int_printed : (n : ℤ) → InRange n → Printed Ends grammar.an_int n (signed_decimal n)
int_printed (pos n) range =
    right_printed Ends negative grammar.a_number (pos n) (decimal n) (number_printed n (omega (arith, ints, range.high)))
int_printed (negsuc n) range =
    let small : suc n ≤ 1000000000000000 = omega (arith, ints, range.low) in
    left_printed Ends negative grammar.a_number (negsuc n) (45 ∷ decimal (suc n))
    (before_printed Ends Any (symbol minus_sign) None (mapped neg_ℤ grammar.a_number) (negsuc n) (45 ∷ []) (decimal (suc n)) refl minus_puts
    (mapped_printed Ends neg_ℤ grammar.a_number (pos (suc n)) (decimal (suc n)) (number_printed (suc n) small)) (λ rest e. tt))

further_puts : (n : ℕ) (ts : List Bytes) → list_all is_text ts ≡ true → Puts Any (flat_map further_text ts) (bare (grammar.more_texts n ts))
further_puts n [] all = puts_none Any
further_puts n (t ∷ ts) all =
    let parts = and_parts (is_text t) (list_all is_text ts) all in
    puts_both Any Any (further_text t) (flat_map further_text ts) (a_symbol comma ∷ a_text t ∷ []) (bare (grammar.more_texts (suc n) ts))
    (puts_both Any Any (44 ∷ []) (32 ∷ quoted t) (a_symbol comma ∷ []) (a_text t ∷ []) comma_puts
    (puts_both Any Any (32 ∷ []) (quoted t) [] (a_text t ∷ []) blank_puts (text_puts t parts.0) (λ rest e. tt)) (λ rest e. tt))
    (further_puts (suc n) ts parts.1) (λ rest e. tt)

further_clean : (n : ℕ) (ts : List Bytes) → n + length ts ≤ 64 → IsClean (grammar.more_texts n ts)
further_clean n [] room = tt
further_clean n (t ∷ ts) room = clean_one (text t) (beyond item 64 n) (grammar.more_texts (suc n) ts) (not_beyond item 64 n (omega arith)) (further_clean (suc n) ts (omega arith))

pub texts_printed : (t : Bytes) (ts : List Bytes) → length (t ∷ ts) ≤ 64 → is_rising (t ∷ ts) ≡ true → list_all is_text (t ∷ ts) ≡ true → Printed Any grammar.some_texts (t ∷ ts) (quoted t ++ (flat_map further_text ts ++ codes "}"))
texts_printed t ts short rising all =
    let parts = and_parts (is_text t) (list_all is_text ts) all in
    record {
      written = (t, ts);
      tree = refl;
      proper = ap is_rising (take_all 64 (t ∷ ts) short) ∙ rising;
      clean = clean_append (grammar.more_texts 1 ts) (grammar.sign close_curly ∷ []) (further_clean 1 ts (omega arith)) tt;
      puts = puts_both Any Any (quoted t) (flat_map further_text ts ++ codes "}") (a_text t ∷ []) (bare (grammar.more_texts 1 ts ++ grammar.sign close_curly ∷ [])) (text_puts t parts.0)
          (subst (λ z. Puts Any (flat_map further_text ts ++ codes "}") z) (sym (bare_append (grammar.more_texts 1 ts) (grammar.sign close_curly ∷ [])))
          (puts_both Any Any (flat_map further_text ts) (codes "}") (bare (grammar.more_texts 1 ts)) (a_symbol close_curly ∷ []) (further_puts 1 ts parts.1) close_curly_puts (λ rest e. tt))) (λ rest e. tt);
    }

abbrev no_texts : Form (List Bytes)
no_texts = before (grammar.sign close_curly) (nothing [])

pub set_printed : (ts : List Bytes) → IsValue (values.Set ts) → Printed Any grammar.a_set ts (set_printing ts)
set_printed [] is =
    before_printed Any Any (symbol open_curly) None (either_of no_texts grammar.some_texts) [] (123 ∷ []) (125 ∷ []) refl open_curly_puts
    (left_printed Any no_texts grammar.some_texts [] (125 ∷ [])
    (before_printed Any Any (symbol close_curly) None (nothing []) [] (125 ∷ []) [] refl close_curly_puts (nothing_printed Any []) (λ rest e. tt))) (λ rest e. tt)
set_printed (t ∷ ts) is =
    let parts = and_parts (nat_le (length (t ∷ ts)) 64) (is_rising (t ∷ ts)) is.0 in
    let bs = quoted t ++ (flat_map further_text ts ++ codes "}") in
    same_printed Any grammar.a_set (t ∷ ts) (123 ∷ bs) (set_printing (t ∷ ts)) (simp append_assoc refl)
    (before_printed Any Any (symbol open_curly) None (either_of no_texts grammar.some_texts) (t ∷ ts) (123 ∷ []) bs refl open_curly_puts
    (right_printed Any no_texts grammar.some_texts (t ∷ ts) bs (texts_printed t ts (leb-true (length (t ∷ ts)) 64 parts.0) parts.1 is.1)) (λ rest e. tt))

abbrev ints_form : Form Value
ints_form = mapped (λ n. values.Int n) grammar.an_int

abbrev texts_form : Form Value
texts_form = mapped (λ t. values.Text t) grammar.a_text

abbrev sets_form : Form Value
sets_form = mapped (λ ts. values.Set ts) grammar.a_set

pub literal_printed : (v : Value) → IsValue v → Printed Ends grammar.a_literal v (literal_printing v)
literal_printed (values.Int n) is =
    left_printed Ends ints_form (either_of texts_form sets_form) (values.Int n) (signed_decimal n)
    (mapped_printed Ends (λ n. values.Int n) grammar.an_int n (signed_decimal n) (int_printed n is))
literal_printed (values.Text t) is =
    right_printed Ends ints_form (either_of texts_form sets_form) (values.Text t) (quoted t)
    (left_printed Ends texts_form sets_form (values.Text t) (quoted t)
    (mapped_printed Ends (λ t. values.Text t) grammar.a_text t (quoted t)
    (weaker Any Ends grammar.a_text t (quoted t) (one_printed Any text (λ t. None) (λ t. ⊤) t (quoted t) (text_puts t is) refl tt) (λ rest e. tt))))
literal_printed (values.Set ts) is =
    right_printed Ends ints_form (either_of texts_form sets_form) (values.Set ts) (set_printing ts)
    (right_printed Ends texts_form sets_form (values.Set ts) (set_printing ts)
    (mapped_printed Ends (λ ts. values.Set ts) grammar.a_set ts (set_printing ts)
    (weaker Any Ends grammar.a_set ts (set_printing ts) (set_printed ts is) (λ rest e. tt))))
