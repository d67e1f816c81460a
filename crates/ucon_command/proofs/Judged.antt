-- The cuts of a line give what is read of it.
use Rattle.std.proofs.Common.{◌≡◌, ℕ, ◌+◌, ◌<◌, ◌≤◌, List, [], ◌∷◌, length, drop, Some, Ok, Err, refl, sym, ap, subst, rules, ◌∙◌}
use Rattle.std.specs.Prelude.{ℤ, Option, Result, IsOk, IsTrue, option_map}
use Rattle.std.specs.Result.{result_ok}
use Rattle.ucon_base.specs.declared.value.Side.{Side}
use Rattle.ucon_base.specs.declared.value.Value.{Value}
use Rattle.ucon_base.specs.NameBytes.{is_name}
use Rattle.ucon_command.specs.declared.cuts.Cuts.{Cuts}
use Rattle.ucon_command.specs.declared.cuts.Cuts.TheVariants as cuts
use Rattle.ucon_model.specs.declared.command.Command.{Command}
use Rattle.ucon_model.specs.declared.command.Command.TheVariants.{Set, Env}
use Rattle.ucon_model.specs.CommandLine.{LineRefusal, made, ◌>>=◌, Word, placed, words_of, name_in, value_in, integer_in, said, bad_word, one_word, place_of, set_of, set_words, env_of, env_words}
use Rattle.ucon_model.specs.Plain.{Bytes}
use Rattle.ucon_command.specs.declared.line_fault.LineFault.{LineFault}
use Rattle.ucon_command.specs.Faults.{IsSure}
use Rattle.ucon_command.proofs.Refusals.{made_sure}
use Rattle.ucon_command.specs.Cuts.{AreCuts, command_cut, has_name, HasWords}
use Rattle.ucon_reply.specs.Words.{between, words_at}
use Rattle.ucon_reply.specs.Joined.{split_some}
use Rattle.ucon_command.proofs.SpelledLines.{said_is}

pub cuts_give : (k : Cuts) (line : Bytes) (read : Result Command LineRefusal) (c : Command) → read ≡ Ok c → command_cut k line ≡ Some c → HasWords k line → AreCuts k line read
cuts_give k line read c r given words = record { spelled = rw r refl; cut = ap result_ok r ∙ sym given; words = words }

-- the words from a place on begin at it
pub first_at : (line : Bytes) (at : ℕ) → (v : Bytes) × ((more : List Word) × (words_at at line ≡ record { at = at; text = v } ∷ more))
first_at line at =
    let s = split_some (drop at line) in
    (s.0, (placed (at + length s.0 + 1) s.1.0, ap (placed at) s.1.1))

env_read : (line : Bytes) (w : Word) (a b : ℕ) (v : Value) → said name_in (record { at = a; text = between a b line }) ≡ Ok (between a b line)
    → said value_in (record { at = b; text = drop b line }) ≡ Ok v
    → env_words line (w ∷ record { at = a; text = between a b line } ∷ words_at b line) ≡ Ok (Env (between a b line) v)
unfolding env_words env_of
env_read line w a b v name value =
    let f = first_at line b in
    rw (f.1.1, name, value) refl

pub env_cut : (line : Bytes) (w : Word) (behind : List Word) (a b : ℕ) (v : Value) → words_of line ≡ w ∷ behind → behind ≡ record { at = a; text = between a b line } ∷ words_at b line
    → said name_in (record { at = a; text = between a b line }) ≡ Ok (between a b line) → said value_in (record { at = b; text = drop b line }) ≡ Ok v
    → HasWords (cuts.Env a b) line → AreCuts (cuts.Env a b) line (env_words line (words_of line))
env_cut line w behind a b v is are name value words =
    cuts_give (cuts.Env a b) line _ (Env (between a b line) v) (ap (env_words line) (is ∙ ap (λ ws. w ∷ ws) are) ∙ env_read line w a b v name value)
    (ap (option_map (Env (between a b line))) (said_is (value_in (drop b line)) (bad_word b) v value)) words

set_read : (line : Bytes) (w : Word) (a b c d : ℕ) (side : Side) (v : Value)
    → place_of (record { at = a; text = between a b line }) (record { at = b; text = between b c line }) (record { at = c; text = between c d line }) ≡ Ok (side, between b c line, between c d line)
    → said value_in (record { at = d; text = drop d line }) ≡ Ok v
    → set_words line (w ∷ record { at = a; text = between a b line } ∷ record { at = b; text = between b c line } ∷ record { at = c; text = between c d line } ∷ words_at d line)
    ≡ Ok (Set side (between b c line) (between c d line) v)
unfolding set_words set_of
set_read line w a b c d side v place value =
    let f = first_at line d in
    rw (f.1.1, place, value) refl

pub set_cut : (line : Bytes) (w : Word) (behind : List Word) (a b c d : ℕ) (side : Side) (v : Value) → words_of line ≡ w ∷ behind
    → behind ≡ record { at = a; text = between a b line } ∷ record { at = b; text = between b c line } ∷ record { at = c; text = between c d line } ∷ words_at d line
    → place_of (record { at = a; text = between a b line }) (record { at = b; text = between b c line }) (record { at = c; text = between c d line }) ≡ Ok (side, between b c line, between c d line)
    → said value_in (record { at = d; text = drop d line }) ≡ Ok v
    → HasWords (cuts.Set side b c d) line → AreCuts (cuts.Set side b c d) line (set_words line (words_of line))
set_cut line w behind a b c d side v is are place value words =
    cuts_give (cuts.Set side b c d) line _ (Set side (between b c line) (between c d line) v) (ap (set_words line) (is ∙ ap (λ ws. w ∷ ws) are) ∙ set_read line w a b c d side v place value)
    (ap (option_map (Set side (between b c line) (between c d line))) (said_is (value_in (drop d line)) (bad_word d) v value)) words

-- ---- the same where the value is refused

env_is : (line : Bytes) (w : Word) (a b : ℕ) → said name_in (record { at = a; text = between a b line }) ≡ Ok (between a b line)
    → env_words line (w ∷ record { at = a; text = between a b line } ∷ words_at b line) ≡ made (Env (between a b line)) (said value_in (record { at = b; text = drop b line }))
unfolding env_words env_of
env_is line w a b name =
    let f = first_at line b in
    rw (f.1.1, name) (bound (said value_in (record { at = b; text = drop b line })))
  where
    bound : (r : Result Value LineRefusal) → (r >>= (λ v. Ok (Env (between a b line) v))) ≡ made (Env (between a b line)) r
    bound (Ok v) = refl
    bound (Err refusal) = refl

set_is : (line : Bytes) (w : Word) (a b c d : ℕ) (side : Side)
    → place_of (record { at = a; text = between a b line }) (record { at = b; text = between b c line }) (record { at = c; text = between c d line }) ≡ Ok (side, between b c line, between c d line)
    → set_words line (w ∷ record { at = a; text = between a b line } ∷ record { at = b; text = between b c line } ∷ record { at = c; text = between c d line } ∷ words_at d line)
    ≡ made (Set side (between b c line) (between c d line)) (said value_in (record { at = d; text = drop d line }))
unfolding set_words set_of
set_is line w a b c d side place =
    let f = first_at line d in
    rw (f.1.1, place) (bound (said value_in (record { at = d; text = drop d line })))
  where
    bound : (r : Result Value LineRefusal) → (r >>= (λ v. Ok (Set side (between b c line) (between c d line) v))) ≡ made (Set side (between b c line) (between c d line)) r
    bound (Ok v) = refl
    bound (Err refusal) = refl

pub env_sure : (line : Bytes) (w : Word) (behind : List Word) (a b : ℕ) (f : LineFault) → words_of line ≡ w ∷ behind → behind ≡ record { at = a; text = between a b line } ∷ words_at b line
    → said name_in (record { at = a; text = between a b line }) ≡ Ok (between a b line) → IsSure (said value_in (record { at = b; text = drop b line })) f
    → IsSure (env_words line (words_of line)) f
env_sure line w behind a b f is are name h =
    let all = ap (env_words line) (is ∙ ap (λ ws. w ∷ ws) are) ∙ env_is line w a b name in
    let Sure : Result Command LineRefusal → Type 0 = λ r. IsSure r f in
    subst Sure (sym all) (made_sure (Env (between a b line)) _ f h)

pub set_sure : (line : Bytes) (w : Word) (behind : List Word) (a b c d : ℕ) (side : Side) (f : LineFault) → words_of line ≡ w ∷ behind
    → behind ≡ record { at = a; text = between a b line } ∷ record { at = b; text = between b c line } ∷ record { at = c; text = between c d line } ∷ words_at d line
    → place_of (record { at = a; text = between a b line }) (record { at = b; text = between b c line }) (record { at = c; text = between c d line }) ≡ Ok (side, between b c line, between c d line)
    → IsSure (said value_in (record { at = d; text = drop d line })) f → IsSure (set_words line (words_of line)) f
set_sure line w behind a b c d side f is are place h =
    let all = ap (set_words line) (is ∙ ap (λ ws. w ∷ ws) are) ∙ set_is line w a b c d side place in
    let Sure : Result Command LineRefusal → Type 0 = λ r. IsSure r f in
    subst Sure (sym all) (made_sure (Set side (between b c line) (between c d line)) _ f h)

pub sure_said : (v w : Word) (f : LineFault) → v ≡ w → IsSure (said value_in v) f → IsSure (said value_in w) f
sure_said v w f e h = let P : Word → Type 0 = λ y. IsSure (said value_in y) f in subst P e h

integer_read : (line : Bytes) (w : Word) (t : ℕ) (n : ℤ) → said integer_in (record { at = t; text = drop t line }) ≡ Ok n
    → one_word integer_in (w ∷ record { at = t; text = drop t line } ∷ []) ≡ Ok n
unfolding one_word
integer_read line w t n said = said

pub integer_cut : (line : Bytes) (w : Word) (behind : List Word) (t : ℕ) (n : ℤ) → words_of line ≡ w ∷ behind → behind ≡ record { at = t; text = drop t line } ∷ []
    → said integer_in (record { at = t; text = drop t line }) ≡ Ok n → t ≤ length line
    → IsOk (one_word integer_in (words_of line)) × (result_ok (one_word integer_in (words_of line)) ≡ integer_in (drop t line)) × (t ≤ length line)
integer_cut line w behind t n is are said inside =
    let read : one_word integer_in (words_of line) ≡ Ok n = ap (one_word integer_in) (is ∙ ap (λ ws. w ∷ ws) are) ∙ integer_read line w t n said in
    (rw read refl, ap result_ok read ∙ sym (said_is (integer_in (drop t line)) (bad_word t) n said), inside)

-- ---- the same of words as the code has them

pub known_name : (line : Bytes) (a b : ℕ) → a < b → b ≤ length line → IsTrue (is_name (between a b line)) → IsTrue (has_name a b line)
known_name line a b order inside name = search rules

pub name_said : (v w : Word) → v ≡ w → said name_in v ≡ Ok v.text → said name_in w ≡ Ok w.text
name_said v w e h = let P : Word → Type 0 = λ x. said name_in x ≡ Ok x.text in subst P e h

pub named : (v w : Word) → v ≡ w → IsTrue (is_name v.text) → IsTrue (is_name w.text)
named v w e h = let P : Word → Type 0 = λ x. IsTrue (is_name x.text) in subst P e h

pub kind_said : {A : Type 0} (kind : Bytes → Option A) (x : A) (v w : Word) → v ≡ w → said kind v ≡ Ok x → said kind w ≡ Ok x
kind_said kind x v w e h = let P : Word → Type 0 = λ y. said kind y ≡ Ok x in subst P e h

pub place_said : (side : Side) (s s' n n' a a' : Word) → s ≡ s' → n ≡ n' → a ≡ a' → place_of s n a ≡ Ok (side, n.text, a.text) → place_of s' n' a' ≡ Ok (side, n'.text, a'.text)
place_said side s s' n n' a a' e f g h =
    let P : Word → Word → Word → Type 0 = λ x y z. place_of x y z ≡ Ok (side, y.text, z.text) in
    let P1 : Word → Type 0 = λ x. P x n a in
    let P2 : Word → Type 0 = λ y. P s' y a in
    let P3 : Word → Type 0 = λ z. P s' n' z in
    subst P3 g (subst P2 f (subst P1 e h))
