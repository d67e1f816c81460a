-- Pieces of printed text against the forms of the grammar: what a piece is read as, whatever follows it.
use Rattle.std.specs.Prelude.{⊤}
use Rattle.std.proofs.Common.{◌≡◌, ℕ, zero, suc, ◌<◌, Bool, true, false, ◌||◌, eqb, ltb, List, [], ◌∷◌, ◌++◌, Option, Some, None, refl, sym, ap, ◌∙◌, subst, append_assoc, inl, inr}
use Rattle.std.proofs.lemmas.Bool.{lt-ltb}
use Rattle.std.specs.List.{prefix_len, flat_map}
use Rattle.ucon_base.specs.NameBytes.{is_letter, is_word_byte}
use Rattle.ucon_model.specs.Plain.{Bytes}
use Rattle.ucon_base.specs.Reading.{is_digit}
use Rattle.ucon_base.specs.Tokens.{Token, begins_word}
use Rattle.ucon_model.specs.Forms.{Terminal, as_token, Limit, Marked, beyond, Form, nothing, one_of, before, and_then, mapped, either_of, listed, at_any_depth, bare, IsClean}
use Rattle.ucon_print.proofs.Lexing.{Lexes}

-- what may follow a word or a number
abbrev pub Ends : Bytes → Type 0
Ends [] = ⊤
Ends (b ∷ bs) = is_word_byte b ≡ false

-- what may follow a symbol or a text
abbrev pub Any : Bytes → Type 0
Any bs = ⊤

ends_word : (rest : Bytes) → Ends rest → prefix_len is_word_byte rest ≡ 0
ends_word [] e = refl
ends_word (b ∷ bs) e = rw e refl

or_parts : (p q r : Bool) → (p || q || r) ≡ false → (p ≡ false) × (q ≡ false)
or_parts true q r e = absurd cc
or_parts false true r e = absurd cc
or_parts false false r e = (refl, refl)

pub word_ends : (rest : Bytes) → Ends rest → prefix_len is_word_byte rest ≡ 0
word_ends rest e = ends_word rest e

pub number_ends : (rest : Bytes) → Ends rest → prefix_len is_digit rest ≡ 0
number_ends [] e = refl
number_ends (b ∷ bs) e = let no : is_digit b ≡ false = (or_parts (is_letter b) (is_digit b) (eqb b 95) e).1 in rw no refl

pub no_word : (rest : Bytes) → Ends rest → begins_word rest ≡ false
no_word [] e = refl
no_word (b ∷ bs) e = (or_parts (is_letter b) (is_digit b) (eqb b 95) e).0

-- before what E allows, the bytes are read as these tokens
pub record Puts (E : Bytes → Type 0) (bs : Bytes) (ts : List Token) : Type 0 where
  pub lexes : (rest : Bytes) (more : List Token) → E rest → Lexes rest more → Lexes (bs ++ rest) (ts ++ more)

pub puts_none : (E : Bytes → Type 0) → Puts E [] []
puts_none E = record { lexes = λ rest more e l. l }

pub puts_both : (F E : Bytes → Type 0) (bs cs : Bytes) (ts us : List Token) → Puts F bs ts → Puts E cs us → ((rest : Bytes) → E rest → F (cs ++ rest)) → Puts E (bs ++ cs) (ts ++ us)
puts_both F E bs cs ts us p q seam = record {
  lexes = λ rest more e l.
      subst (λ z. Lexes z ((ts ++ us) ++ more)) (sym (append_assoc bs cs rest))
      (subst (λ z. Lexes (bs ++ (cs ++ rest)) z) (sym (append_assoc ts us more))
      (p.lexes (cs ++ rest) (us ++ more) (seam rest e) (q.lexes rest more e l)));
}

-- a written form of it, within the limits, whose tokens are what the bytes are read as
pub record Printed {A : Type 0} (E : Bytes → Type 0) (X : Form A) (x : A) (bs : Bytes) : Type 0 where
  pub written : X.Written
  pub tree : X.tree written ≡ x
  pub proper : X.IsProper written
  pub clean : IsClean (X.tokens written)
  pub puts : Puts E bs (bare (X.tokens written))

pub bare_append : (a b : List Marked) → bare (a ++ b) ≡ bare a ++ bare b
bare_append [] b = refl
bare_append (m ∷ a) b = ap (λ z. as_token m.0 ∷ z) (bare_append a b)

pub clean_append : (a b : List Marked) → IsClean a → IsClean b → IsClean (a ++ b)
clean_append [] b p q = q
clean_append ((t, None) ∷ a) b p q = clean_append a b p q
clean_append ((t, Some l) ∷ a) b p q = absurd p

pub clean_one : (t : Terminal) (o : Option Limit) (a : List Marked) → o ≡ None → IsClean a → IsClean ((t, o) ∷ a)
clean_one t None a e c = c
clean_one t (Some l) a e c = absurd cc

pub not_beyond : (l : Limit) (most n : ℕ) → n < most → beyond l most n ≡ None
not_beyond l most n less = let h : ltb n most ≡ true = lt-ltb n most less in rw h refl

module _ {A : Type 0} (E : Bytes → Type 0) where
  pub nothing_printed : (x : A) → Printed E (nothing x) x []
  nothing_printed x = record { written = tt; tree = refl; proper = tt; clean = tt; puts = puts_none E }

  pub one_printed : (token : A → Terminal) (passes : A → Option Limit) (IsAllowed : A → Type 0) (x : A) (bs : Bytes) → Puts E bs (as_token (token x) ∷ []) → passes x ≡ None → IsAllowed x → Printed E (one_of token passes IsAllowed) x bs
  one_printed token passes IsAllowed x bs puts none allowed = record {
    written = x;
    tree = refl;
    proper = allowed;
    clean = clean_one (token x) (passes x) [] none tt;
    puts = puts;
  }

  pub before_printed : (F : Bytes → Type 0) (t : Terminal) (o : Option Limit) (X : Form A) (x : A) (ws bs : Bytes) → o ≡ None → Puts F ws (as_token t ∷ []) → Printed E X x bs → ((rest : Bytes) → E rest → F (bs ++ rest)) → Printed E (before (t, o) X) x (ws ++ bs)
  before_printed F t o X x ws bs none puts p seam = record {
    written = p.written;
    tree = p.tree;
    proper = p.proper;
    clean = clean_one t o (X.tokens p.written) none p.clean;
    puts = puts_both F E ws bs (as_token t ∷ []) (bare (X.tokens p.written)) puts p.puts seam;
  }

  pub and_then_printed : {B : Type 0} (F : Bytes → Type 0) (X : Form B) (Y : B → Form A) (x : B) (y : A) (bs cs : Bytes) → Printed F X x bs → Printed E (Y x) y cs → ((rest : Bytes) → E rest → F (cs ++ rest)) → Printed E (and_then X Y) y (bs ++ cs)
  and_then_printed F X Y x y bs cs p q seam =
      let r : Printed E (Y (X.tree p.written)) y cs = subst (λ z. Printed E (Y z) y cs) (sym p.tree) q in
      record {
        written = (p.written, r.written);
        tree = r.tree;
        proper = (p.proper, r.proper);
        clean = clean_append (X.tokens p.written) ((Y (X.tree p.written)).tokens r.written) p.clean r.clean;
        puts = subst (λ z. Puts E (bs ++ cs) z) (sym (bare_append (X.tokens p.written) ((Y (X.tree p.written)).tokens r.written)))
            (puts_both F E bs cs (bare (X.tokens p.written)) (bare ((Y (X.tree p.written)).tokens r.written)) p.puts r.puts seam);
      }

  pub mapped_printed : {B : Type 0} (f : B → A) (X : Form B) (x : B) (bs : Bytes) → Printed E X x bs → Printed E (mapped f X) (f x) bs
  mapped_printed f X x bs p = record { written = p.written; tree = ap f p.tree; proper = p.proper; clean = p.clean; puts = p.puts }

  pub left_printed : (X Y : Form A) (x : A) (bs : Bytes) → Printed E X x bs → Printed E (either_of X Y) x bs
  left_printed X Y x bs p = record { written = inl p.written; tree = p.tree; proper = p.proper; clean = p.clean; puts = p.puts }

  pub right_printed : (X Y : Form A) (x : A) (bs : Bytes) → Printed E Y x bs → Printed E (either_of X Y) x bs
  right_printed X Y x bs p = record { written = inr p.written; tree = p.tree; proper = p.proper; clean = p.clean; puts = p.puts }

  pub depth_printed : (X : ℕ → Form A) (depth : ℕ) (x : A) (bs : Bytes) → Printed E (X depth) x bs → Printed E (at_any_depth X) x bs
  depth_printed X depth x bs p = record { written = (depth, p.written); tree = p.tree; proper = p.proper; clean = p.clean; puts = p.puts }

  -- the same bytes, put together otherwise
  pub same_printed : (X : Form A) (x : A) (bs cs : Bytes) → bs ≡ cs → Printed E X x bs → Printed E X x cs
  same_printed X x bs cs e p = subst (λ z. Printed E X x z) e p

  -- blanks in front
  pub blank_printed : (X : Form A) (x : A) (bs ws : Bytes) → Puts Any ws [] → Printed E X x bs → Printed E X x (ws ++ bs)
  blank_printed X x bs ws blank p = record {
    written = p.written;
    tree = p.tree;
    proper = p.proper;
    clean = p.clean;
    puts = puts_both Any E ws bs [] (bare (X.tokens p.written)) blank p.puts (λ rest e. tt);
  }

-- what may be followed by all may be followed by some
pub weaker : {A : Type 0} (E F : Bytes → Type 0) (X : Form A) (x : A) (bs : Bytes) → Printed E X x bs → ((rest : Bytes) → F rest → E rest) → Printed F X x bs
weaker E F X x bs p less = record { written = p.written; tree = p.tree; proper = p.proper; clean = p.clean; puts = record { lexes = λ rest more e l. p.puts.lexes rest more (less rest e) l } }

-- items one behind the other, where what is counted before leaves room for the rest
module _ {N A : Type 0} (each : N → Form A) (count : N → A → N) (HasRoom : N → List A → Type 0) (print : A → Bytes) (step : (n : N) (a : A) (xs : List A) → HasRoom n (a ∷ xs) → Printed Any (each n) a (print a) × HasRoom (count n a) xs) where
  pub list_printed : (n : N) (xs : List A) → HasRoom n xs → Printed Any (listed each count n) xs (flat_map print xs)
  list_printed n [] room = record { written = (zero, tt); tree = refl; proper = tt; clean = tt; puts = puts_none Any }
  list_printed n (a ∷ xs) room =
      let found = step n a xs room in
      let p = found.0 in
      let m = count n ((each n).tree p.written) in
      let r : Printed Any (listed each count m) xs (flat_map print xs) = subst (λ z. Printed Any (listed each count (count n z)) xs (flat_map print xs)) (sym p.tree) (list_printed (count n a) xs found.1) in
      record {
        written = (suc r.written.0, (p.written, r.written.1));
        tree = ap (λ z. z ∷ (listed each count m).tree r.written) p.tree ∙ ap (λ z. a ∷ z) r.tree;
        proper = (p.proper, r.proper);
        clean = clean_append ((each n).tokens p.written) ((listed each count m).tokens r.written) p.clean r.clean;
        puts = subst (λ z. Puts Any (print a ++ flat_map print xs) z) (sym (bare_append ((each n).tokens p.written) ((listed each count m).tokens r.written)))
            (puts_both Any Any (print a) (flat_map print xs) (bare ((each n).tokens p.written)) (bare ((listed each count m).tokens r.written)) p.puts r.puts (λ rest e. tt));
      }

-- bytes in a row, put together from either end
pub in_row_3 : (a b c : Bytes) → a ++ (b ++ c) ≡ a ++ b ++ c
in_row_3 a b c = sym (append_assoc a b c)

pub in_row_4 : (a b c d : Bytes) → a ++ (b ++ (c ++ d)) ≡ a ++ b ++ c ++ d
in_row_4 a b c d = sym (append_assoc a b (c ++ d)) ∙ in_row_3 (a ++ b) c d

pub in_row_5 : (a b c d e : Bytes) → a ++ (b ++ (c ++ (d ++ e))) ≡ a ++ b ++ c ++ d ++ e
in_row_5 a b c d e = sym (append_assoc a b (c ++ (d ++ e))) ∙ in_row_4 (a ++ b) c d e

pub in_row_6 : (a b c d e f : Bytes) → a ++ (b ++ (c ++ (d ++ (e ++ f)))) ≡ a ++ b ++ c ++ d ++ e ++ f
in_row_6 a b c d e f = sym (append_assoc a b (c ++ (d ++ (e ++ f)))) ∙ in_row_5 (a ++ b) c d e f

pub in_row_7 : (a b c d e f g : Bytes) → a ++ (b ++ (c ++ (d ++ (e ++ (f ++ g))))) ≡ a ++ b ++ c ++ d ++ e ++ f ++ g
in_row_7 a b c d e f g = sym (append_assoc a b (c ++ (d ++ (e ++ (f ++ g))))) ∙ in_row_6 (a ++ b) c d e f g

pub in_row_8 : (a b c d e f g h : Bytes) → a ++ (b ++ (c ++ (d ++ (e ++ (f ++ (g ++ h)))))) ≡ a ++ b ++ c ++ d ++ e ++ f ++ g ++ h
in_row_8 a b c d e f g h = sym (append_assoc a b (c ++ (d ++ (e ++ (f ++ (g ++ h)))))) ∙ in_row_7 (a ++ b) c d e f g h
