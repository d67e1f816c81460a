-- Expressions keep to their form.
use Rattle.std.specs.Prelude.{⊤}
use Rattle.std.proofs.Common.{◌≡◌, ℕ, zero, suc, ◌<◌, Bool, true, false, cond, inl, inr, List, [], ◌∷◌, drop, Option, Some, None, Result, Ok, Err, pos, codes, refl, sym, ap, ◌∙◌, subst, arith}
use Rattle.std.specs.Str.{bytes_eq}
use Rattle.std.proofs.lemmas.Slice.Eq.{bytes_eq-Decides}
use Rattle.ucon_model.specs.declared.formula.Ref.{Ref}
use Rattle.ucon_model.specs.declared.formula.Ref.TheVariants as refs
use Rattle.ucon_model.specs.Plain.{Bytes, PlainExpr, lit, read, size}
use Rattle.ucon_base.specs.Tokens.{Token, a_word, a_number, a_text, a_symbol, joined_word, flawed, the_end, Symbol, dot, minus_sign, open_round, close_round, open_curly}
use Rattle.ucon_model.specs.Forms.{Terminal, word, symbol, as_token, level, Marked, opening, Form, no_form, before, mapped, either_of}
use Rattle.ucon_model.specs.Grammar.{sign, a_literal, a_place, closed, factor_with, expr_with, expr_of_depth, an_expr}
use Rattle.ucon_model.specs.Spells.{Stands}
use Rattle.ucon_token.specs.declared.stop.Cause.TheVariants.{Unexpected, TooDeep}
use Rattle.ucon_token.specs.Tokens.{first, is_symbol}
use Rattle.ucon_token.specs.Reading.{Halt, Reads, ◌>>=◌, expect}
use Rattle.ucon_syntax.specs.declared.starts.FactorStart.{FactorStart}
use Rattle.ucon_syntax.specs.declared.starts.FactorStart.TheVariants as factors
use Rattle.ucon_syntax.specs.Starts.{sum_sign, symbol_factor, word_factor, factor_start}
use Rattle.ucon_token.specs.Literals.{literal_at}
use Rattle.ucon_syntax.specs.Expressions.{place_at, round_with, factor_from, level as below, factor_at, term_at, expr_at}
use Rattle.ucon_syntax.proofs.Steps.{chosen}
use Rattle.ucon_syntax.proofs.Keeping.{Meets, Example}
use Rattle.ucon_syntax.proofs.Local.{taking}
use Rattle.ucon_syntax.proofs.Sound.{Sound, Anything, Tests, sound_same, sound_nothing, sound_mapped, sound_meeting, sound_before, sound_barred, sound_either, sound_at_any_depth, sound_no_form, sound_under}
use Rattle.ucon_syntax.proofs.Chained.{sound_chain}
use Rattle.ucon_syntax.proofs.Words.{symbol_tests, sound_name}
use Rattle.ucon_syntax.proofs.Values.{sound_literal}
use Rattle.ucon_syntax.proofs.Operators.{products_chain, sums_chain, expr_ends}

-- ---- what a factor begins with

start_terminal : FactorStart → Terminal
start_terminal factors.Subject = word (codes "s")
start_terminal factors.Object = word (codes "o")
start_terminal factors.Env = word (codes "env")
start_terminal factors.Size = word (codes "size")
start_terminal factors.Round = symbol open_round
start_terminal factors.Literal = symbol minus_sign

Starts : FactorStart → List Token → Type 0
Starts factors.Literal ts = ⊤
Starts k ts = ts ≡ as_token (start_terminal k) ∷ drop 1 ts

word_is : (n : Bytes) (k : FactorStart) (ts : List Token) → word_factor n ≡ Some k → Starts k (a_word n ∷ ts)
unfolding Starts start_terminal
word_is n k ts e =
    elim (chosen (bytes_eq n (codes "s")) (Some factors.Subject) (cond (bytes_eq n (codes "o")) (Some factors.Object) (cond (bytes_eq n (codes "env")) (Some factors.Env) (cond (bytes_eq n (codes "size")) (Some factors.Size) None))) (Some k) e) [
      | inl (t, is) ↦ let h : factors.Subject ≡ k = cc in rw (← h) (ap (λ (m : Bytes). a_word m ∷ ts) ((bytes_eq-Decides n (codes "s")).0 t))
      | inr (f, e) ↦ elim (chosen (bytes_eq n (codes "o")) (Some factors.Object) (cond (bytes_eq n (codes "env")) (Some factors.Env) (cond (bytes_eq n (codes "size")) (Some factors.Size) None)) (Some k) e) [
        | inl (t, is) ↦ let h : factors.Object ≡ k = cc in rw (← h) (ap (λ (m : Bytes). a_word m ∷ ts) ((bytes_eq-Decides n (codes "o")).0 t))
        | inr (f, e) ↦ elim (chosen (bytes_eq n (codes "env")) (Some factors.Env) (cond (bytes_eq n (codes "size")) (Some factors.Size) None) (Some k) e) [
          | inl (t, is) ↦ let h : factors.Env ≡ k = cc in rw (← h) (ap (λ (m : Bytes). a_word m ∷ ts) ((bytes_eq-Decides n (codes "env")).0 t))
          | inr (f, e) ↦ elim (chosen (bytes_eq n (codes "size")) (Some factors.Size) None (Some k) e) [
            | inl (t, is) ↦ let h : factors.Size ≡ k = cc in rw (← h) (ap (λ (m : Bytes). a_word m ∷ ts) ((bytes_eq-Decides n (codes "size")).0 t))
            | inr (f, e) ↦ absurd cc
          ]
        ]
      ]
    ]

symbol_is : (u : Symbol) (k : FactorStart) (ts : List Token) → symbol_factor u ≡ Some k → Starts k (a_symbol u ∷ ts)
unfolding Starts start_terminal
symbol_is minus_sign k ts e = let h : factors.Literal ≡ k = cc in rw (← h) tt
symbol_is open_curly k ts e = let h : factors.Literal ≡ k = cc in rw (← h) tt
symbol_is open_round k ts e = let h : factors.Round ≡ k = cc in rw (← h) refl
symbol_is u k ts e = absurd cc

start_is : (ts : List Token) (k : FactorStart) → factor_start (first ts) ≡ Some k → Starts k ts
unfolding factor_start Starts
start_is (a_number n ∷ ts) k e = let h : factors.Literal ≡ k = cc in rw (← h) tt
start_is (a_text n ∷ ts) k e = let h : factors.Literal ≡ k = cc in rw (← h) tt
start_is (a_symbol u ∷ ts) k e = symbol_is u k ts e
start_is (a_word n ∷ ts) k e = word_is n k ts e
start_is (joined_word n ∷ ts) k e = absurd cc
start_is (flawed f ∷ ts) k e = absurd cc
start_is (the_end ∷ ts) k e = absurd cc
start_is [] k e = absurd cc

is_literal : Option FactorStart → Bool
is_literal (Some factors.Literal) = true
is_literal o = false

is_subject : Option FactorStart → Bool
is_subject (Some factors.Subject) = true
is_subject o = false

is_object : Option FactorStart → Bool
is_object (Some factors.Object) = true
is_object o = false

is_env : Option FactorStart → Bool
is_env (Some factors.Env) = true
is_env o = false

is_size : Option FactorStart → Bool
is_size (Some factors.Size) = true
is_size o = false

is_round : Option FactorStart → Bool
is_round (Some factors.Round) = true
is_round o = false

subject_start : (o : Option FactorStart) → is_subject o ≡ true → o ≡ Some factors.Subject
unfolding is_subject
subject_start (Some factors.Subject) e = refl
subject_start o e = absurd cc

object_start : (o : Option FactorStart) → is_object o ≡ true → o ≡ Some factors.Object
unfolding is_object
object_start (Some factors.Object) e = refl
object_start o e = absurd cc

env_start : (o : Option FactorStart) → is_env o ≡ true → o ≡ Some factors.Env
unfolding is_env
env_start (Some factors.Env) e = refl
env_start o e = absurd cc

size_start : (o : Option FactorStart) → is_size o ≡ true → o ≡ Some factors.Size
unfolding is_size
size_start (Some factors.Size) e = refl
size_start o e = absurd cc

round_start : (o : Option FactorStart) → is_round o ≡ true → o ≡ Some factors.Round
unfolding is_round
round_start (Some factors.Round) e = refl
round_start o e = absurd cc

subject_tests : Tests (word (codes "s")) (λ t. is_subject (factor_start t))
unfolding Starts start_terminal factor_start is_subject
subject_tests = record { is = λ ts e. start_is ts factors.Subject (subject_start (factor_start (first ts)) e); again = refl }

object_tests : Tests (word (codes "o")) (λ t. is_object (factor_start t))
unfolding Starts start_terminal factor_start is_object
object_tests = record { is = λ ts e. start_is ts factors.Object (object_start (factor_start (first ts)) e); again = refl }

env_tests : Tests (word (codes "env")) (λ t. is_env (factor_start t))
unfolding Starts start_terminal factor_start is_env
env_tests = record { is = λ ts e. start_is ts factors.Env (env_start (factor_start (first ts)) e); again = refl }

size_tests : Tests (word (codes "size")) (λ t. is_size (factor_start t))
unfolding Starts start_terminal factor_start is_size
size_tests = record { is = λ ts e. start_is ts factors.Size (size_start (factor_start (first ts)) e); again = refl }

round_tests : Tests (symbol open_round) (λ t. is_round (factor_start t))
unfolding Starts start_terminal factor_start is_round
round_tests = record { is = λ ts e. start_is ts factors.Round (round_start (factor_start (first ts)) e); again = refl }

-- ---- the reader, by tests of the first token

abbrev took : Bool → List Token → Result (List Token) Halt
took b ts = cond b (Ok (drop 1 ts)) (Err (Unexpected, ts))

abbrev bars : Bool → Reads PlainExpr
bars b ts = cond b (Err (TooDeep, ts)) (Err (Unexpected, ts))

abbrev inside : Reads PlainExpr → List Token → Result (PlainExpr × List Token) Halt
inside inner opened = inner opened >>= λ e. expect close_round e.1 >>= λ closed. Ok (e.0, closed)

abbrev by_start : Option FactorStart → Reads PlainExpr → Reads PlainExpr → Reads PlainExpr
by_start o sized rounded ts =
    cond (is_literal o) (literal_at ts >>= λ v. Ok (lit v.0, v.1))
    (cond (is_subject o) (took (is_subject o) ts >>= λ a. place_at a >>= λ n. Ok (read (refs.Subject n.0), n.1))
    (cond (is_object o) (took (is_object o) ts >>= λ a. place_at a >>= λ n. Ok (read (refs.Object n.0), n.1))
    (cond (is_env o) (took (is_env o) ts >>= λ a. place_at a >>= λ n. Ok (read (refs.Env n.0), n.1))
    (cond (is_size o) (sized ts) (rounded ts)))))

split_last : (o : Option FactorStart) (ts : List Token) → factor_from None o ts ≡ by_start o (bars (is_size o)) (bars (is_round o)) ts
unfolding is_literal is_subject is_object is_env is_size is_round
split_last None ts = refl
split_last (Some factors.Literal) ts = refl
split_last (Some factors.Subject) ts = refl
split_last (Some factors.Object) ts = refl
split_last (Some factors.Env) ts = refl
split_last (Some factors.Size) ts = refl
split_last (Some factors.Round) ts = refl

split : (inner : Reads PlainExpr) (o : Option FactorStart) (ts : List Token) → (o ≡ Some factors.Round → is_symbol (first ts) open_round ≡ true)
    → factor_from (Some inner) o ts ≡ by_start o (λ ts. took (is_size o) ts >>= λ a. round_with inner a >>= λ e. Ok (size e.0, e.1)) (λ ts. took (is_round o) ts >>= λ opened. inside inner opened) ts
unfolding is_literal is_subject is_object is_env is_size is_round
split inner None ts h = refl
split inner (Some factors.Literal) ts h = refl
split inner (Some factors.Subject) ts h = refl
split inner (Some factors.Object) ts h = refl
split inner (Some factors.Env) ts h = refl
split inner (Some factors.Size) ts h = refl
split inner (Some factors.Round) ts h = let b = h refl in rw b refl

round_symbol : (ts : List Token) → factor_start (first ts) ≡ Some factors.Round → is_symbol (first ts) open_round ≡ true
unfolding Starts start_terminal
round_symbol ts e = let is : ts ≡ a_symbol open_round ∷ drop 1 ts = start_is ts factors.Round e in ap (λ l. is_symbol (first l) open_round) is ∙ (symbol_tests open_round).again

-- ---- factors

level_stands : (t : Terminal) (u : Token) → Stands level t u → u ≡ as_token t
level_stands t u (inl e) = e
level_stands t u (inr e) = absurd e

pub meets_opening : (E F : Token → Type 0) (room : ℕ) (t : Terminal) (ms : List Marked) → E (as_token t) → Meets E (opening room t ∷ ms) F
meets_opening E F zero t ms x = λ u s. subst E (sym (level_stands t u s)) x
meets_opening E F (suc room) t ms x = x

abbrev sized_form : ℕ → Form PlainExpr → Form PlainExpr
sized_form room inner = before (opening room (word (codes "size"))) (mapped (λ e. size e) (before (sign open_round) (closed close_round inner)))

abbrev round_form : ℕ → Form PlainExpr → Form PlainExpr
round_form room inner = before (opening room (symbol open_round)) (closed close_round inner)

abbrev from_size : ℕ → Form PlainExpr → Form PlainExpr
from_size room inner = either_of (sized_form room inner) (round_form room inner)

abbrev from_env : ℕ → Form PlainExpr → Form PlainExpr
from_env room inner = either_of (a_place (codes "env") (λ n. refs.Env n)) (from_size room inner)

abbrev from_object : ℕ → Form PlainExpr → Form PlainExpr
from_object room inner = either_of (a_place (codes "o") (λ n. refs.Object n)) (from_env room inner)

abbrev from_subject : ℕ → Form PlainExpr → Form PlainExpr
from_subject room inner = either_of (a_place (codes "s") (λ n. refs.Subject n)) (from_object room inner)

literal_first : (s : a_literal.Written) → Meets (λ t. is_literal (factor_start t) ≡ true) (a_literal.tokens s) Anything
unfolding is_literal factor_start
literal_first (inl (inl n)) = refl
literal_first (inl (inr n)) = refl
literal_first (inr (inl t)) = refl
literal_first (inr (inr ts)) = refl

size_first : (E F : Token → Type 0) (room : ℕ) (inner : Form PlainExpr) (s : (from_size room inner).Written) → E (a_word (codes "size")) → E (a_symbol open_round) → Meets E ((from_size room inner).tokens s) F
size_first E F room inner (inl s) x y = meets_opening E F room (word (codes "size")) ((before (sign open_round) (closed close_round inner)).tokens s) x
size_first E F room inner (inr s) x y = meets_opening E F room (symbol open_round) ((closed close_round inner).tokens s) y

env_first : (E F : Token → Type 0) (room : ℕ) (inner : Form PlainExpr) (s : (from_env room inner).Written) → E (a_word (codes "env")) → E (a_word (codes "size")) → E (a_symbol open_round) → Meets E ((from_env room inner).tokens s) F
env_first E F room inner (inl s) e x y = e
env_first E F room inner (inr s) e x y = size_first E F room inner s x y

object_first : (E F : Token → Type 0) (room : ℕ) (inner : Form PlainExpr) (s : (from_object room inner).Written) → E (a_word (codes "o")) → E (a_word (codes "env")) → E (a_word (codes "size")) → E (a_symbol open_round) → Meets E ((from_object room inner).tokens s) F
object_first E F room inner (inl s) o e x y = o
object_first E F room inner (inr s) o e x y = env_first E F room inner s e x y

subject_first : (E F : Token → Type 0) (room : ℕ) (inner : Form PlainExpr) (s : (from_subject room inner).Written) → E (a_word (codes "s")) → E (a_word (codes "o")) → E (a_word (codes "env")) → E (a_word (codes "size")) → E (a_symbol open_round) → Meets E ((from_subject room inner).tokens s) F
subject_first E F room inner (inl s) u o e x y = u
subject_first E F room inner (inr s) u o e x y = object_first E F room inner s o e x y

sound_place : {P : Type 0} (w : Bytes) (ref : Bytes → Ref) {test : Token → Bool} → Tests (word w) test → Sound P (a_place w ref) Anything (λ ts. taking test ts >>= λ a. place_at a >>= λ n. Ok (read (ref n.0), n.1))
unfolding place_at
sound_place w ref k = sound_before k (sound_mapped (λ n. read (ref n)) (sound_before (symbol_tests dot) sound_name))

pub round_ends : expr_ends (a_symbol close_round)
unfolding is_symbol sum_sign
round_ends = ((tt, refl, refl), refl, refl)

pub sound_closed : {A P : Type 0} {X : Form A} {E : Token → Type 0} {p : Reads A} (s : Symbol) → E (a_symbol s) → Sound P X E p → Sound P (closed s X) Anything (λ ts. p ts >>= λ x. expect s x.1 >>= λ after. Ok (x.0, after))
sound_closed s ends x = sound_meeting x (λ y. sound_before (symbol_tests s) (sound_nothing y)) (λ y t proper. ends)

sound_factor : {P : Type 0} (room : ℕ) (inner : Form PlainExpr) {sized rounded : Reads PlainExpr} → Sound P (sized_form room inner) Anything sized → Sound P (round_form room inner) Anything rounded
    → Sound P (factor_with room inner) Anything (λ ts.
    cond (is_literal (factor_start (first ts))) (literal_at ts >>= λ v. Ok (lit v.0, v.1))
    (cond (is_subject (factor_start (first ts))) (took (is_subject (factor_start (first ts))) ts >>= λ a. place_at a >>= λ n. Ok (read (refs.Subject n.0), n.1))
    (cond (is_object (factor_start (first ts))) (took (is_object (factor_start (first ts))) ts >>= λ a. place_at a >>= λ n. Ok (read (refs.Object n.0), n.1))
    (cond (is_env (factor_start (first ts))) (took (is_env (factor_start (first ts))) ts >>= λ a. place_at a >>= λ n. Ok (read (refs.Env n.0), n.1))
    (cond (is_size (factor_start (first ts))) (sized ts) (rounded ts))))))
unfolding factor_start is_literal is_subject is_object is_env is_size
sound_factor room inner x y =
    sound_either (λ t. is_literal (factor_start t)) (λ s proper. literal_first s) (λ s proper. subject_first (λ t. is_literal (factor_start t) ≡ false) Anything room inner s refl refl refl refl refl) (sound_mapped (λ v. lit v) sound_literal)
    (sound_either (λ t. is_subject (factor_start t)) (λ s proper. refl) (λ s proper. object_first (λ t. is_subject (factor_start t) ≡ false) Anything room inner s refl refl refl refl) (sound_place (codes "s") (λ n. refs.Subject n) subject_tests)
    (sound_either (λ t. is_object (factor_start t)) (λ s proper. refl) (λ s proper. env_first (λ t. is_object (factor_start t) ≡ false) Anything room inner s refl refl refl) (sound_place (codes "o") (λ n. refs.Object n) object_tests)
    (sound_either (λ t. is_env (factor_start t)) (λ s proper. refl) (λ s proper. size_first (λ t. is_env (factor_start t) ≡ false) Anything room inner s refl refl) (sound_place (codes "env") (λ n. refs.Env n) env_tests)
    (sound_either (λ t. is_size (factor_start t)) (λ s proper. meets_opening (λ t. is_size (factor_start t) ≡ true) Anything room (word (codes "size")) ((before (sign open_round) (closed close_round inner)).tokens s) refl) (λ s proper. meets_opening (λ t. is_size (factor_start t) ≡ false) Anything room (symbol open_round) ((closed close_round inner).tokens s) refl) x y))))

-- ---- levels

an_example : (depth room : ℕ) → Example (expr_of_depth depth room)
an_example zero room = record { written = ((inl (inl (inr (pos 0))), []), []); proper = ((tt, tt), tt) }
an_example (suc depth) room = record { written = ((inl (inl (inr (pos 0))), []), []); proper = ((tt, tt), tt) }

size_bars : (u : Token) → Stands level (word (codes "size")) u → is_size (factor_start u) ≡ true
unfolding factor_start is_size
size_bars u s = ap (λ t. is_size (factor_start t)) (level_stands (word (codes "size")) u s)

round_bars : (u : Token) → Stands level (symbol open_round) u → is_round (factor_start u) ≡ true
unfolding factor_start is_round
round_bars u s = ap (λ t. is_round (factor_start t)) (level_stands (symbol open_round) u s)

-- at the last level
sound_last : {P : Type 0} (inner : Form PlainExpr) → (P → Example inner) → Sound P (expr_with (factor_with 0 inner)) expr_ends (expr_at 0)
unfolding expr_at term_at factor_at below
sound_last inner example =
    sound_chain sums_chain (sound_chain products_chain (sound_same (factor_at 0) (λ ts. split_last (factor_start (first ts)) ts)
    (sound_factor 0 inner
    (sound_barred level size_tests size_bars (λ holds. let e = example holds in record { written = (e.written, tt); proper = (e.proper, tt) }))
    (sound_barred level round_tests round_bars (λ holds. let e = example holds in record { written = (e.written, tt); proper = (e.proper, tt) })))))

-- above the last
sound_above : {P : Type 0} (room : ℕ) (inner : Form PlainExpr) → Sound P inner expr_ends (expr_at room) → Sound P (expr_with (factor_with (suc room) inner)) expr_ends (expr_at (suc room))
unfolding expr_at term_at factor_at below
sound_above room inner x =
    sound_chain sums_chain (sound_chain products_chain (sound_same (factor_at (suc room)) (λ ts. split (expr_at room) (factor_start (first ts)) ts (round_symbol ts))
    (sound_factor (suc room) inner
    (sound_before size_tests (sound_mapped (λ e. size e) (sound_before (symbol_tests open_round) (sound_closed close_round round_ends x))))
    (sound_before round_tests (sound_closed close_round round_ends x)))))

pub sound_level : (room depth : ℕ) → Sound (room < depth) (expr_of_depth depth room) expr_ends (expr_at room)
sound_level zero zero = sound_last no_form (λ lt. absurd (omega arith))
sound_level zero (suc depth) = sound_last (expr_of_depth depth 0) (λ lt. an_example depth 0)
sound_level (suc room) zero = sound_above room no_form (sound_no_form (λ lt. absurd (omega arith)) (sound_level room 0).runs)
sound_level (suc room) (suc depth) = sound_above room (expr_of_depth depth room) (sound_under (λ lt. omega arith) (sound_level room depth))

pub sound_expr : {P : Type 0} → Sound P an_expr expr_ends (expr_at 32)
sound_expr = sound_at_any_depth 33 (omega arith) (λ depth. sound_level 32 depth)
