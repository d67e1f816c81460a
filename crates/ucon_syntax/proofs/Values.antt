-- Integers and literals keep to their forms.
use Rattle.std.proofs.Common.{◌≡◌, Bool, true, false, cond, inl, inr, List, [], ◌∷◌, drop, Option, Some, None, Result, Ok, Err, neg_ℤ, refl, ap}
use Rattle.ucon_base.specs.declared.value.Value.TheVariants as values
use Rattle.ucon_base.specs.Tokens.{Token, a_word, a_number, a_text, a_symbol, joined_word, flawed, the_end, Symbol, minus_sign, open_curly}
use Rattle.ucon_model.specs.Forms.{symbol, mapped, either_of}
use Rattle.ucon_model.specs.Grammar as grammar
use Rattle.ucon_token.specs.declared.stop.Cause.TheVariants.{Unexpected}
use Rattle.ucon_token.specs.Tokens.{first, is_symbol}
use Rattle.ucon_token.specs.Reading.{Halt, Reads, ◌>>=◌, number_at, text_at}
use Rattle.ucon_token.specs.declared.literal.LiteralStart.{LiteralStart}
use Rattle.ucon_token.specs.declared.literal.LiteralStart.TheVariants as literals
use Rattle.ucon_token.specs.Literals.{symbol_literal, literal_start, negative_at, int_at, set_at, literal_from, literal_at}
use Rattle.ucon_syntax.proofs.Keeping.{Meets}
use Rattle.ucon_syntax.proofs.Sound.{Sound, Anything, Tests, sound_same, sound_mapped, sound_before, sound_either}
use Rattle.ucon_syntax.proofs.Words.{symbol_tests, sound_number, sound_text}
use Rattle.ucon_syntax.proofs.SetTexts.{sound_set_body}

-- a test that was asked already
pub when_taken : {A : Type 0} (b : Bool) (ts : List Token) (next : Reads A) (other : Result (A × List Token) Halt) → cond b (next (drop 1 ts)) other ≡ cond b ((let r : Result (List Token) Halt = cond b (Ok (drop 1 ts)) (Err (Unexpected, ts)) in r) >>= next) other
when_taken true ts next other = refl
when_taken false ts next other = refl

pub sound_int : {P : Type 0} → Sound P grammar.an_int Anything int_at
unfolding int_at negative_at is_symbol
sound_int = sound_same int_at (λ ts. when_taken (is_symbol (first ts) minus_sign) ts negative_at (number_at ts)) (sound_either (λ t. is_symbol t minus_sign) (λ s proper. refl) (λ s proper. refl) (sound_before (symbol_tests minus_sign) (sound_mapped neg_ℤ sound_number)) sound_number)

is_int : Option LiteralStart → Bool
is_int (Some literals.Int) = true
is_int o = false

is_lone_text : Option LiteralStart → Bool
is_lone_text (Some literals.Text) = true
is_lone_text o = false

is_curly : Option LiteralStart → Bool
is_curly (Some literals.Set) = true
is_curly o = false

symbol_is_curly : (s : Symbol) → is_curly (symbol_literal s) ≡ true → s ≡ open_curly
unfolding is_curly
symbol_is_curly open_curly e = refl
symbol_is_curly s e = absurd cc

curly_is : (ts : List Token) → is_curly (literal_start (first ts)) ≡ true → ts ≡ a_symbol open_curly ∷ drop 1 ts
unfolding is_curly literal_start
curly_is (a_symbol s ∷ ts) e = ap (λ (t : Symbol). a_symbol t ∷ ts) (symbol_is_curly s e)
curly_is (a_word n ∷ ts) e = absurd cc
curly_is (a_number n ∷ ts) e = absurd cc
curly_is (a_text n ∷ ts) e = absurd cc
curly_is (joined_word n ∷ ts) e = absurd cc
curly_is (flawed f ∷ ts) e = absurd cc
curly_is (the_end ∷ ts) e = absurd cc
curly_is [] e = absurd cc

curly_tests : Tests (symbol open_curly) (λ t. is_curly (literal_start t))
unfolding is_curly literal_start
curly_tests = record { is = curly_is; again = refl }

split : (o : Option LiteralStart) (ts : List Token) → literal_from o ts ≡ cond (is_int o) (int_at ts >>= λ n. Ok (values.Int n.0, n.1)) (cond (is_lone_text o) (text_at ts >>= λ t. Ok (values.Text t.0, t.1)) (((let r : Result (List Token) Halt = cond (is_curly o) (Ok (drop 1 ts)) (Err (Unexpected, ts)) in r) >>= set_at) >>= λ s. Ok (values.Set s.0, s.1)))
unfolding is_int is_lone_text is_curly
split None ts = refl
split (Some literals.Int) ts = refl
split (Some literals.Text) ts = refl
split (Some literals.Set) ts = refl

int_first : (s : (grammar.an_int).Written) → Meets (λ t. is_int (literal_start t) ≡ true) ((grammar.an_int).tokens s) Anything
unfolding is_int literal_start
int_first (inl n) = refl
int_first (inr n) = refl

others_first : (s : (either_of (mapped (λ t. values.Text t) grammar.a_text) (mapped (λ ts. values.Set ts) grammar.a_set)).Written) → Meets (λ t. is_int (literal_start t) ≡ false) ((either_of (mapped (λ t. values.Text t) grammar.a_text) (mapped (λ ts. values.Set ts) grammar.a_set)).tokens s) Anything
unfolding is_int literal_start
others_first (inl t) = refl
others_first (inr ts) = refl

pub sound_literal : {P : Type 0} → Sound P grammar.a_literal Anything literal_at
unfolding literal_at literal_start is_lone_text
sound_literal = sound_same literal_at (λ ts. split (literal_start (first ts)) ts)
    (sound_either (λ t. is_int (literal_start t)) (λ s proper. int_first s) (λ s proper. others_first s) (sound_mapped (λ n. values.Int n) sound_int)
    (sound_either (λ t. is_lone_text (literal_start t)) (λ s proper. refl) (λ s proper. refl) (sound_mapped (λ t. values.Text t) sound_text)
    (sound_mapped (λ ts. values.Set ts) (sound_before curly_tests sound_set_body))))
