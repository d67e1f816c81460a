-- Declarations are read as they are printed.
use Rattle.std.proofs.Common.{ℕ, ◌<◌, [], ◌∷◌, ◌++◌, None, refl, subst, arith, append_assoc}
use Rattle.std.specs.Prelude.{codes, ⊤}
use Rattle.std.specs.Fmt.{signed_decimal}
use Rattle.std.proofs.lemmas.List.{append-nil}
use Rattle.ucon_base.specs.Spelling.{IsValue, side_word}
use Rattle.ucon_base.specs.declared.value.Side.{Side}
use Rattle.ucon_base.specs.declared.value.Side.TheVariants as sides
use Rattle.ucon_base.specs.declared.value.Kind.{Kind}
use Rattle.ucon_base.specs.declared.value.Kind.TheVariants as kinds
use Rattle.ucon_base.specs.declared.value.Value.{Value}
use Rattle.ucon_model.specs.declared.policy.AttrDecl.{AttrDecl}
use Rattle.ucon_model.specs.declared.policy.EnvDecl.{EnvDecl}
use Rattle.ucon_model.specs.Plain.{Bytes}
use Rattle.ucon_model.specs.Printing.{literal_printing, kind_printing, declared_printing, attr_printing, env_printing}
use Rattle.ucon_base.specs.Tokens.{a_word, a_symbol, Symbol, colon, semicolon, dots, equal_sign, next_token, begin_of, skip, token_from, token_at, symbol_token, single}
use Rattle.ucon_model.specs.Forms.{as_token, word, symbol, item, beyond, Form, nothing, one_of, before, and_then, mapped, either_of, bare}
use Rattle.ucon_model.specs.Grammar.{SideCount, of_side, count_side, side_token, PhaseCount, of_phase, count_phase, phase_token, WhenCount, of_when, count_when, when_token, expr_of_depth}
use Rattle.ucon_model.specs.Grammar as grammar
use Rattle.ucon_print.specs.Printable.{IsKind, IsAttr, IsEnv}
use Rattle.ucon_print.proofs.Lexing.{IsWord}
use Rattle.ucon_print.proofs.Pieces.{Ends, Any, Puts, puts_both, Printed, not_beyond, nothing_printed, one_printed, before_printed, and_then_printed, mapped_printed, left_printed, right_printed, same_printed, blank_printed, in_row_5}
use Rattle.ucon_print.proofs.Literals.{word_puts, name_printed, int_printed, literal_printed, blank_puts, new_line_puts, framed_puts, semicolon_puts, dots_puts}
use Rattle.ucon_print.proofs.Formulas.{framed_word}

-- ---- words and ends of lines

-- a word and a blank
pub word_blank : (w : Bytes) → IsWord w → Puts Any (w ++ 32 ∷ []) (a_word w ∷ [])
word_blank w is = puts_both Ends Any w (32 ∷ []) (a_word w ∷ []) [] (word_puts w is) blank_puts (λ rest e. refl)

pub indented : (w : Bytes) → IsWord w → Puts Any (32 ∷ 32 ∷ (w ++ 32 ∷ [])) (a_word w ∷ [])
indented w is = puts_both Any Any (32 ∷ []) (32 ∷ (w ++ 32 ∷ [])) [] (a_word w ∷ []) blank_puts (framed_word w is) (λ rest e. tt)

module _ {A : Type 0} where
  pub blank_behind : (X : Form A) (x : A) (bs : Bytes) → Printed Ends X x bs → Printed Any X x (bs ++ 32 ∷ [])
  blank_behind X x bs p = record {
    written = p.written;
    tree = p.tree;
    proper = p.proper;
    clean = p.clean;
    puts = subst (λ z. Puts Any (bs ++ 32 ∷ []) z) (append-nil (bare (X.tokens p.written))) (puts_both Ends Any bs (32 ∷ []) (bare (X.tokens p.written)) [] p.puts blank_puts (λ rest e. refl));
  }

  pub closing : (s : Symbol) (b : ℕ) → Puts Any (b ∷ []) (a_symbol s ∷ []) → (x : A) → Printed Any (before (grammar.sign s) (nothing x)) x (b ∷ 10 ∷ [])
  closing s b puts x =
      before_printed Any Any (symbol s) None (nothing x) x (b ∷ []) (10 ∷ []) refl puts
      (blank_printed Any (nothing x) x [] (10 ∷ []) new_line_puts (nothing_printed Any x)) (λ rest e. tt)

pub int_word : IsWord (codes "int")
int_word = record { begins = refl; bytes = refl; short = omega arith }

pub text_word : IsWord (codes "text")
text_word = record { begins = refl; bytes = refl; short = omega arith }

pub set_word : IsWord (codes "set")
set_word = record { begins = refl; bytes = refl; short = omega arith }

pub attr_word : IsWord (codes "attr")
attr_word = record { begins = refl; bytes = refl; short = omega arith }

pub env_word : IsWord (codes "env")
env_word = record { begins = refl; bytes = refl; short = omega arith }

pub right_word : IsWord (codes "right")
right_word = record { begins = refl; bytes = refl; short = omega arith }

pub s_word : IsWord (codes "s")
s_word = record { begins = refl; bytes = refl; short = omega arith }

pub o_word : IsWord (codes "o")
o_word = record { begins = refl; bytes = refl; short = omega arith }

pub word_a : IsWord (codes "a")
word_a = record { begins = refl; bytes = refl; short = omega arith }

pub word_b : IsWord (codes "b")
word_b = record { begins = refl; bytes = refl; short = omega arith }

pub word_c : IsWord (codes "c")
word_c = record { begins = refl; bytes = refl; short = omega arith }

pub by_word : IsWord (codes "by")
by_word = record { begins = refl; bytes = refl; short = omega arith }

pub on_word : IsWord (codes "on")
on_word = record { begins = refl; bytes = refl; short = omega arith }

pub pre_word : IsWord (codes "pre")
pre_word = record { begins = refl; bytes = refl; short = omega arith }

pub done_word : IsWord (codes "done")
done_word = record { begins = refl; bytes = refl; short = omega arith }

pub within_word : IsWord (codes "within")
within_word = record { begins = refl; bytes = refl; short = omega arith }

pub every_word : IsWord (codes "every")
every_word = record { begins = refl; bytes = refl; short = omega arith }

pub before_word : IsWord (codes "before")
before_word = record { begins = refl; bytes = refl; short = omega arith }

pub during_word : IsWord (codes "during")
during_word = record { begins = refl; bytes = refl; short = omega arith }

pub after_end_word : IsWord (codes "after_end")
after_end_word = record { begins = refl; bytes = refl; short = omega arith }

pub after_revoke_word : IsWord (codes "after_revoke")
after_revoke_word = record { begins = refl; bytes = refl; short = omega arith }

-- ---- kinds and declarations

abbrev int_kinds : Form Kind
int_kinds = before (grammar.keyword (codes "int")) (and_then grammar.an_int (λ low. before (grammar.sign dots) (mapped (λ high. kinds.Int low high) grammar.an_int)))

abbrev text_kinds : Form Kind
text_kinds = before (grammar.keyword (codes "text")) (nothing kinds.Text)

abbrev set_kinds : Form Kind
set_kinds = before (grammar.keyword (codes "set")) (nothing kinds.Set)

kind_printed : (k : Kind) → IsKind k → Printed Ends grammar.a_kind k (kind_printing k)
kind_printed (kinds.Int low high) is =
    let k = kinds.Int low high in
    let bs = codes "int " ++ (signed_decimal low ++ (codes ".." ++ signed_decimal high)) in
    same_printed Ends grammar.a_kind k bs (kind_printing k) (simp append_assoc refl)
    (left_printed Ends int_kinds (either_of text_kinds set_kinds) k bs
    (before_printed Ends Any (word (codes "int")) None (and_then grammar.an_int (λ low. before (grammar.sign dots) (mapped (λ high. kinds.Int low high) grammar.an_int))) k (codes "int ") (signed_decimal low ++ (codes ".." ++ signed_decimal high)) refl (word_blank (codes "int") int_word)
    (and_then_printed Ends Ends grammar.an_int (λ low. before (grammar.sign dots) (mapped (λ high. kinds.Int low high) grammar.an_int)) low k (signed_decimal low) (codes ".." ++ signed_decimal high) (int_printed low is.0)
    (before_printed Ends Any (symbol dots) None (mapped (λ high. kinds.Int low high) grammar.an_int) k (codes "..") (signed_decimal high) refl dots_puts
    (mapped_printed Ends (λ high. kinds.Int low high) grammar.an_int high (signed_decimal high) (int_printed high is.1)) (λ rest e. tt))
    (λ rest e. refl))
    (λ rest e. tt)))
kind_printed kinds.Text is =
    right_printed Ends int_kinds (either_of text_kinds set_kinds) kinds.Text (codes "text")
    (left_printed Ends text_kinds set_kinds kinds.Text (codes "text")
    (before_printed Ends Ends (word (codes "text")) None (nothing kinds.Text) kinds.Text (codes "text") [] refl (word_puts (codes "text") text_word) (nothing_printed Ends kinds.Text) (λ rest e. e)))
kind_printed kinds.Set is =
    right_printed Ends int_kinds (either_of text_kinds set_kinds) kinds.Set (codes "set")
    (right_printed Ends text_kinds set_kinds kinds.Set (codes "set")
    (before_printed Ends Ends (word (codes "set")) None (nothing kinds.Set) kinds.Set (codes "set") [] refl (word_puts (codes "set") set_word) (nothing_printed Ends kinds.Set) (λ rest e. e)))

pub framed_equal : Puts Any (codes " = ") (a_symbol equal_sign ∷ [])
unfolding next_token begin_of skip token_from token_at symbol_token single
framed_equal = framed_puts (codes "=") equal_sign (omega arith) (λ rest. refl)

framed_colon : Puts Any (codes " : ") (a_symbol colon ∷ [])
unfolding next_token begin_of skip token_from token_at symbol_token single
framed_colon = framed_puts (codes ":") colon (omega arith) (λ rest. refl)

module _ {A : Type 0} (make : Kind → Value → A) where
  abbrev behind_start : Kind → Value → Form A
  behind_start kind start = before (grammar.sign semicolon) (nothing (make kind start))

  abbrev behind_kind : Kind → Form A
  behind_kind kind = before (grammar.sign equal_sign) (and_then grammar.a_literal (behind_start kind))

  abbrev declared : Form A
  declared = before (grammar.sign colon) (and_then grammar.a_kind behind_kind)

  declared_printed : (kind : Kind) (start : Value) → IsKind kind → IsValue start → Printed Any declared (make kind start) (declared_printing kind start)
  declared_printed kind start is-kind is-start =
      let x = make kind start in
      let tail = codes " = " ++ (literal_printing start ++ (59 ∷ 10 ∷ [])) in
      same_printed Any declared x (codes " : " ++ (kind_printing kind ++ tail)) (declared_printing kind start) (simp append_assoc refl)
      (before_printed Any Any (symbol colon) None (and_then grammar.a_kind behind_kind) x (codes " : ") (kind_printing kind ++ tail) refl framed_colon
      (and_then_printed Any Ends grammar.a_kind behind_kind kind x (kind_printing kind) tail (kind_printed kind is-kind)
      (before_printed Any Any (symbol equal_sign) None (and_then grammar.a_literal (behind_start kind)) x (codes " = ") (literal_printing start ++ (59 ∷ 10 ∷ [])) refl framed_equal
      (and_then_printed Any Ends grammar.a_literal (behind_start kind) start x (literal_printing start) (59 ∷ 10 ∷ []) (literal_printed start is-start) (closing semicolon 59 semicolon_puts x) (λ rest e. refl))
      (λ rest e. tt))
      (λ rest e. refl))
      (λ rest e. tt))

pub side_puts : (s : Side) → Puts Ends (side_word s) (as_token (side_token s) ∷ [])
side_puts sides.Subject = word_puts (codes "s") s_word
side_puts sides.Object = word_puts (codes "o") o_word

module _ (n : SideCount) where
  abbrev sided : Form Side
  sided = one_of side_token (λ side. beyond item 16 (of_side n side)) (λ side. ⊤)

  abbrev named_attr : Side → Bytes → Form AttrDecl
  named_attr side name = declared (λ kind start. record { side = side; name = name; kind = kind; start = start })

  pub attr_printed : (a : AttrDecl) → of_side n a.side < 16 → IsAttr a → Printed Any (grammar.an_attr n) a (attr_printing a)
  attr_printed a less is =
      let bs = declared_printing a.kind a.start in
      same_printed Any (grammar.an_attr n) a (codes "attr " ++ (side_word a.side ++ (32 ∷ (a.name ++ bs)))) (attr_printing a) (in_row_5 (codes "attr ") (side_word a.side) (codes " ") a.name bs)
      (before_printed Any Any (word (codes "attr")) None (and_then sided (λ side. and_then grammar.a_name (named_attr side))) a (codes "attr ") (side_word a.side ++ (32 ∷ (a.name ++ bs))) refl (word_blank (codes "attr") attr_word)
      (and_then_printed Any Ends sided (λ side. and_then grammar.a_name (named_attr side)) a.side a (side_word a.side) (32 ∷ (a.name ++ bs))
      (one_printed Ends side_token (λ side. beyond item 16 (of_side n side)) (λ side. ⊤) a.side (side_word a.side) (side_puts a.side) (not_beyond item 16 (of_side n a.side) less) tt)
      (blank_printed Any (and_then grammar.a_name (named_attr a.side)) a (a.name ++ bs) (32 ∷ []) blank_puts
      (and_then_printed Any Ends grammar.a_name (named_attr a.side) a.name a a.name bs (name_printed a.name is.name)
      (declared_printed (λ kind start. record { side = a.side; name = a.name; kind = kind; start = start }) a.kind a.start is.kind is.start)
      (λ rest e. refl)))
      (λ rest e. refl))
      (λ rest e. tt))

abbrev named_env : Bytes → Form EnvDecl
named_env name = declared (λ kind start. record { name = name; kind = kind; start = start })

pub env_printed : (n : ℕ) (v : EnvDecl) → n < 32 → IsEnv v → Printed Any (grammar.an_env n) v (env_printing v)
env_printed n v less is =
    let bs = declared_printing v.kind v.start in
    same_printed Any (grammar.an_env n) v (codes "env " ++ (v.name ++ bs)) (env_printing v) (simp append_assoc refl)
    (before_printed Any Any (word (codes "env")) (beyond item 32 n) (and_then grammar.a_name named_env) v (codes "env ") (v.name ++ bs) (not_beyond item 32 n less) (word_blank (codes "env") env_word)
    (and_then_printed Any Ends grammar.a_name named_env v.name v v.name bs (name_printed v.name is.name)
    (declared_printed (λ kind start. record { name = v.name; kind = kind; start = start }) v.kind v.start is.kind is.start)
    (λ rest e. refl))
    (λ rest e. tt))
