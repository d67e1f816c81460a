-- What a text is read as, and what it spells.
use Rattle.std.proofs.Common.{◌≡◌, ◌<◌, ◌≤◌, ℕ, true, false, ◌⊎◌, inl, inr, length, Option, Some, None, Result, Ok, Err, refl, sym, ap, ◌∙◌, subst, arith, nat_lt}
use Rattle.std.proofs.lemmas.Bool.Decides.{nat_tests}
use Rattle.std.specs.Prelude.{IfOk, IfErr}
use Rattle.ucon_model.specs.declared.policy.Policy.{Policy}
use Rattle.ucon_model.specs.Limits.{IsWithin}
use Rattle.ucon_model.specs.Plain.{Bytes, PlainPolicy}
use Rattle.ucon_base.specs.Tokens.{Token, a_word, a_number, a_text, a_symbol, joined_word, flawed, the_end, Flaw, unknown, too_long, misplaced, tokens_of, place_of}
use Rattle.ucon_model.specs.Spells.{Spells, TextFault, unknown_byte, overlong, too_many, too_deep, unexpected, flaw_in, IsTextFault}
use Rattle.ucon_model.specs.Views.{policy_of}
use Rattle.ucon_token.specs.declared.stop.Cause.{Cause}
use Rattle.ucon_token.specs.declared.stop.Cause.TheVariants.{Unexpected, TooMany, TooDeep}
use Rattle.ucon_token.specs.Tokens.{first, flaw_at}
use Rattle.ucon_token.specs.Reading.{Halt}
use Rattle.ucon_syntax.specs.declared.read.SyntaxFault.{SyntaxFault}
use Rattle.ucon_syntax.specs.declared.read.SyntaxFault.TheVariants as faults
use Rattle.ucon_syntax.specs.Policies.{whole_at, fault_of, placed, reading_of, Reading}
use Rattle.ucon_syntax.specs.Refusals.{IsSyntaxFault, ReadsAs, RefusedFor, IsReason}
use Rattle.ucon_syntax.proofs.Counts.{spelled_within}
use Rattle.ucon_syntax.proofs.Steps.{chosen}
use Rattle.ucon_syntax.proofs.Exact.{fault_name, all_found, all_again, all_fault}
use Rattle.ucon_syntax.proofs.Only.{fault_again}

-- ---- faults by their names

as_fault : TextFault → ℕ → SyntaxFault
as_fault unknown_byte place = faults.UnknownByte place
as_fault overlong place = faults.TooLong place
as_fault too_many place = faults.TooMany place
as_fault too_deep place = faults.TooDeep place
as_fault unexpected place = faults.Unexpected place

flaw_same : (t : Token) → flaw_at t ≡ flaw_in t
unfolding flaw_at
flaw_same (flawed f) = refl
flaw_same (a_word n) = refl
flaw_same (a_number n) = refl
flaw_same (a_text n) = refl
flaw_same (a_symbol n) = refl
flaw_same (joined_word n) = refl
flaw_same the_end = refl

named : (o : Option Flaw) (c : Cause) (place : ℕ) → fault_of o c place ≡ as_fault (fault_name o c) place
unfolding as_fault
named (Some unknown) c place = refl
named (Some too_long) c place = refl
named (Some misplaced) c place = refl
named None Unexpected place = refl
named None TooMany place = refl
named None TooDeep place = refl

as_syntax : (text : Bytes) (fault : TextFault) (place : ℕ) → IsTextFault text fault place → IsSyntaxFault text (as_fault fault place)
unfolding as_fault
as_syntax text unknown_byte place f = f
as_syntax text overlong place f = f
as_syntax text too_many place f = f
as_syntax text too_deep place f = f
as_syntax text unexpected place f = f

record Named (text : Bytes) (f : SyntaxFault) : Type 0 where
  pub fault : TextFault
  pub place : ℕ
  pub same : as_fault fault place ≡ f
  pub first : IsTextFault text fault place

by_name : (text : Bytes) (f : SyntaxFault) → IsSyntaxFault text f → Named text f
unfolding as_fault
by_name text (faults.UnknownByte p) f = record { fault = unknown_byte; place = p; same = refl; first = f }
by_name text (faults.TooLong p) f = record { fault = overlong; place = p; same = refl; first = f }
by_name text (faults.TooMany p) f = record { fault = too_many; place = p; same = refl; first = f }
by_name text (faults.TooDeep p) f = record { fault = too_deep; place = p; same = refl; first = f }
by_name text (faults.Unexpected p) f = record { fault = unexpected; place = p; same = refl; first = f }
by_name text (faults.NoMemory e) f = absurd f

-- ---- long texts

is_long : (n : ℕ) → nat_lt 65536 n ≡ true → 65536 < n
is_long n e = grind (arith, nat_tests)

is_short : (n : ℕ) → nat_lt 65536 n ≡ false → n ≤ 65536
is_short n e = grind (arith, nat_tests)

long_is : (n : ℕ) → 65536 < n → nat_lt 65536 n ≡ true
long_is n lt = grind (arith, nat_tests)

short_is : (n : ℕ) → n ≤ 65536 → nat_lt 65536 n ≡ false
short_is n le = grind (arith, nat_tests)

abbrev Outcome : Type 0
Outcome = Result PlainPolicy SyntaxFault

placed_ok : (text : Bytes) (x : Result PlainPolicy Halt) (p : PlainPolicy) → placed text x ≡ Ok p → x ≡ Ok p
placed_ok text (Ok q) p e = let h : q ≡ p = cc in ap (λ (z : PlainPolicy). Ok z) h
placed_ok text (Err h) p e = absurd cc

abbrev failed : SyntaxFault → Outcome
failed f = Err f

abbrev accepted : PlainPolicy → Outcome
accepted p = Ok p

failed_is : (f g : SyntaxFault) → failed f ≡ failed g → f ≡ g
failed_is f g e = cc

-- ---- what is read is spelled, and back

pub reading_spells : (text : Bytes) (p : PlainPolicy) → reading_of text ≡ Ok p → Spells text p
unfolding reading_of
reading_spells text p e =
    elim (chosen (nat_lt 65536 (length text)) (Err (faults.TooLong 65536)) (placed text (whole_at (tokens_of text))) (Ok p) e) [
      | inl (b, z) ↦ absurd cc
      | inr (b, z) ↦ record { short = is_short (length text) b; spelled = all_found (tokens_of text) p (placed_ok text (whole_at (tokens_of text)) p z) }
    ]

pub spells_reading : (text : Bytes) (p : PlainPolicy) → Spells text p → reading_of text ≡ Ok p
unfolding reading_of
spells_reading text p s =
    let b = short_is (length text) s.short in
    let e = all_again (tokens_of text) p s.spelled in
    rw (b, e) refl

fault_at : (text : Bytes) (f : SyntaxFault) (x : Result PlainPolicy Halt) → length text ≤ 65536 → whole_at (tokens_of text) ≡ x → placed text x ≡ Err f → IsSyntaxFault text f
fault_at text f (Ok q) short is e = absurd cc
fault_at text f (Err h) short is e =
    let place = place_of text (length h.1) in
    let fault = fault_name (flaw_in (first h.1)) h.0 in
    let same : as_fault fault place ≡ f = sym (ap (λ o. fault_of o h.0 place) (flaw_same (first h.1)) ∙ named (flaw_in (first h.1)) h.0 place) ∙ failed_is (fault_of (flaw_at (first h.1)) h.0 place) f e in
    let P : SyntaxFault → Type 0 = λ g. IsSyntaxFault text g in
    subst P same (as_syntax text fault place (inr (record { rest = h.1; short = short; first = all_fault (tokens_of text) h is; placed = refl })))

pub reading_fault : (text : Bytes) (f : SyntaxFault) → reading_of text ≡ Err f → IsSyntaxFault text f
unfolding reading_of
reading_fault text f e =
    elim (chosen (nat_lt 65536 (length text)) (Err (faults.TooLong 65536)) (placed text (whole_at (tokens_of text))) (failed f) e) [
      | inl (b, z) ↦ (let P : SyntaxFault → Type 0 = λ g. IsSyntaxFault text g in subst P (failed_is (faults.TooLong 65536) f z) (inl (record { long = is_long (length text) b; cause = refl; placed = refl })))
      | inr (b, z) ↦ fault_at text f (whole_at (tokens_of text)) (is_short (length text) b) refl z
    ]

fault_reads : (text : Bytes) (fault : TextFault) (place : ℕ) → IsTextFault text fault place → reading_of text ≡ Err (as_fault fault place)
unfolding reading_of as_fault
fault_reads text fault place (inl f) =
    let b = long_is (length text) f.long in
    rw (b, f.cause, f.placed) refl
fault_reads text fault place (inr f) =
    let b = short_is (length text) f.short in
    let r = fault_again fault (tokens_of text) f.rest f.first in
    let e = r.stopped in
    let at = place_of text (length f.rest) in
    let same : fault_of (flaw_at (first f.rest)) r.cause at ≡ as_fault fault place = ap (λ o. fault_of o r.cause at) (flaw_same (first f.rest)) ∙ named (flaw_in (first f.rest)) r.cause at ∙ ap (λ g. as_fault g at) r.named ∙ ap (as_fault fault) (sym f.placed) in
    rw (b, e) (ap failed same)

pub syntax_reads : (text : Bytes) (f : SyntaxFault) → IsSyntaxFault text f → reading_of text ≡ Err f
syntax_reads text f is = let n = by_name text f is in fault_reads text n.fault n.place n.first ∙ ap failed n.same

-- ---- laws

pub one_policy : (text : Bytes) (p q : PlainPolicy) → Spells text p → Spells text q → p ≡ q
one_policy text p q s t = same (sym (spells_reading text p s) ∙ spells_reading text q t)
  where
    same : accepted p ≡ accepted q → p ≡ q
    same e = cc

name_back : SyntaxFault → TextFault
name_back (faults.UnknownByte p) = unknown_byte
name_back (faults.TooLong p) = overlong
name_back (faults.TooMany p) = too_many
name_back (faults.TooDeep p) = too_deep
name_back (faults.Unexpected p) = unexpected
name_back (faults.NoMemory e) = unexpected

place_back : SyntaxFault → ℕ
place_back (faults.UnknownByte p) = p
place_back (faults.TooLong p) = p
place_back (faults.TooMany p) = p
place_back (faults.TooDeep p) = p
place_back (faults.Unexpected p) = p
place_back (faults.NoMemory e) = 0

name_of_fault : (fault : TextFault) (place : ℕ) → (name_back (as_fault fault place) ≡ fault) × (place_back (as_fault fault place) ≡ place)
unfolding as_fault name_back place_back
name_of_fault unknown_byte place = (refl, refl)
name_of_fault overlong place = (refl, refl)
name_of_fault too_many place = (refl, refl)
name_of_fault too_deep place = (refl, refl)
name_of_fault unexpected place = (refl, refl)

pub one_fault : (text : Bytes) (f g : TextFault) (m n : ℕ) → IsTextFault text f m → IsTextFault text g n → (f ≡ g) × (m ≡ n)
one_fault text f g m n x y =
    let same : as_fault f m ≡ as_fault g n = failed_is (as_fault f m) (as_fault g n) (sym (fault_reads text f m x) ∙ fault_reads text g n y) in
    let a = name_of_fault f m in
    let b = name_of_fault g n in
    (sym a.0 ∙ ap name_back same ∙ b.0, sym a.1 ∙ ap place_back same ∙ b.1)

pub refused_spells_nothing : (text : Bytes) (f : TextFault) (n : ℕ) (p : PlainPolicy) → IsTextFault text f n → Spells text p → ⊥
refused_spells_nothing text f n p x s = apart (sym (spells_reading text p s) ∙ fault_reads text f n x)
  where
    apart : accepted p ≡ failed (as_fault f n) → ⊥
    apart e = cc

pub each_text : (text : Bytes) → ((p : PlainPolicy) × Spells text p) ⊎ ((f : TextFault) × (n : ℕ) × IsTextFault text f n)
each_text text = go (reading_of text) refl
  where
    go : (x : Outcome) → reading_of text ≡ x → ((p : PlainPolicy) × Spells text p) ⊎ ((f : TextFault) × (n : ℕ) × IsTextFault text f n)
    go (Ok p) e = inl (p, reading_spells text p e)
    go (Err f) e = let n = by_name text f (reading_fault text f e) in inr (n.fault, n.place, n.first)

-- ---- what the reader returns

pub reading_found : (r : Result Policy SyntaxFault) (text : Bytes) → Reading r text → IfOk r (λ p. Spells text (policy_of p))
reading_found (Ok p) text e = reading_spells text (policy_of p) e
reading_found (Err f) text e = tt

pub reading_within : (r : Result Policy SyntaxFault) (text : Bytes) → Reading r text → IfOk r (λ p. IsWithin (policy_of p))
reading_within (Ok p) text e = spelled_within text (policy_of p) (reading_spells text (policy_of p) e)
reading_within (Err f) text e = tt

pub reading_only : (r : Result Policy SyntaxFault) (text : Bytes) → Reading r text → (q : PlainPolicy) → Spells text q → ReadsAs r q
reading_only (Ok p) text e q s = one_policy text (policy_of p) q (reading_spells text (policy_of p) e) s
reading_only (Err (faults.NoMemory m)) text e q s = refl
reading_only (Err f) text e q s = absurd (contradiction (sym (spells_reading text q s) ∙ e))
  where
    contradiction : {g : SyntaxFault} → accepted q ≡ failed g → ⊥
    contradiction e = cc

pub reading_reason : (r : Result Policy SyntaxFault) (text : Bytes) → Reading r text → IfErr r (λ f. IsReason text f)
reading_reason (Ok p) text e = tt
reading_reason (Err (faults.NoMemory m)) text e = inl refl
reading_reason (Err f) text e = inr (reading_fault text f e)

pub reading_refuses : (r : Result Policy SyntaxFault) (text : Bytes) → Reading r text → (f : SyntaxFault) → IsSyntaxFault text f → RefusedFor r f
reading_refuses (Ok p) text e f is = contradiction (sym e ∙ syntax_reads text f is)
  where
    contradiction : accepted (policy_of p) ≡ failed f → ⊥
    contradiction e = cc
reading_refuses (Err (faults.NoMemory m)) text e f is = inr refl
reading_refuses (Err g) text e f is = inl (failed_is g f (sym e ∙ syntax_reads text f is))
