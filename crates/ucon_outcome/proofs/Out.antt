-- Words that go out one after the other.
use Rattle.std.proofs.Common.{◌≡◌, ℕ, ◌+◌, ◌++◌, length, take, refl, sym, subst, ◌∙◌, ap, arith}
use Rattle.std.specs.Prelude.{Option, Result, Ok, Err}
use Rattle.std.specs.Result.{IsErr}
use Rattle.std.specs.Io.KnownBytes.{Appends}
use Rattle.std.proofs.KnownBytes.{Appends-trans}
use Rattle.std.proofs.lemmas.List.{length-append, take-append-le}
use Rattle.std.proofs.Math.Seq.{take-append-add}
use Rattle.ucon_flow.specs.Causes.{raised}
use Rattle.ucon_flow.specs.Writing.{AppendsPrefix}
use Rattle.ucon_model.specs.Plain.{Bytes}
use Rattle.ucon_outcome.specs.declared.outcome.Outcome.{Outcome}
use Rattle.ucon_outcome.specs.declared.outcome.Outcome.TheVariants.{Done}
use Rattle.ucon_outcome.specs.FaultWords.{cause_words, fault_line, fault_words}
use Rattle.ucon_outcome.specs.Out.{GoesOut}

-- a front of the first words is one of all words
pub cut_first : (a b : Option Bytes) (xs ys : Bytes) → AppendsPrefix a b xs → AppendsPrefix a b (xs ++ ys)
cut_first a b xs ys cut =
    (cut.0, omega (arith, cut.1, length-append xs ys), subst (Appends a b) (sym (take-append-le cut.0 xs ys cut.1)) cut.2)

-- and so are the first words with a front of those behind
pub cut_behind : (a b c : Option Bytes) (xs ys : Bytes) → Appends a b xs → AppendsPrefix b c ys → AppendsPrefix a c (xs ++ ys)
cut_behind a b c xs ys first cut = (
  length xs + cut.0,
  omega (arith, cut.1, length-append xs ys),
  subst (Appends a c) (sym (take-append-add xs ys cut.0)) (Appends-trans a b c xs (take cut.0 ys) first cut.2),
)

-- where the first words went out, all go as those behind do
pub goes_behind : {T U E F : Type 0} (a b c : Option Bytes) (f g h : ℕ) (u : U) (r : Result T E) (xs ys : Bytes) → GoesOut {T = U} {E = F} a b f g (Ok u) xs → GoesOut b c g h r ys
    → GoesOut a c f h r (xs ++ ys)
goes_behind a b c f g h u (Ok x) xs ys first then = record { went = (Appends-trans a b c xs ys first.went.0 then.went.0, then.went.1 ∙ first.went.1) }
goes_behind a b c f g h u (Err e) xs ys first then = record { went = (cut_behind a b c xs ys first.went.0 then.went.0, then.went.1 ∙ ap raised first.went.1) }

-- and where they were cut, so are all
pub goes_cut : {T U E F : Type 0} (a b : Option Bytes) (f g : ℕ) (e : F) (r : Result T E) (xs ys : Bytes) → IsErr r → GoesOut {T = U} {E = F} a b f g (Err e) xs → GoesOut a b f g r (xs ++ ys)
goes_cut a b f g e (Ok x) xs ys err first = absurd (cc err)
goes_cut a b f g e (Err x) xs ys err first = record { went = (cut_first a b xs ys first.went.0, first.went.1) }

-- what is printed is a line, but of what is done
pub its_line : (o : Outcome) → (o ≡ Done → ⊥) → fault_words o ≡ fault_line (cause_words o)
its_line Done done = absurd (done refl)
its_line outcome done = refl
