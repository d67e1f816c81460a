-- Reading sees no more than the token at which it stops.
use Rattle.std.proofs.Common.{◌≡◌, ◌≤◌, Bool, true, false, cond, List, [], ◌∷◌, ◌++◌, length, drop, Result, Ok, Err, refl, sym, ap, ◌∙◌, arith}
use Rattle.std.proofs.lemmas.List.{length-append}
use Rattle.ucon_base.specs.Tokens.{Token}
use Rattle.ucon_token.specs.declared.stop.Cause.{Cause}
use Rattle.ucon_token.specs.declared.stop.Cause.TheVariants.{Unexpected}
use Rattle.ucon_token.specs.Tokens.{first}
use Rattle.ucon_token.specs.Reading.{Halt, Reads, ◌>>=◌}

-- a reader that looks at one token at a time
pub data Program (A : Type 0) : Type 0 where
  done : (x : A) → Program A
  halt : (c : Cause) → Program A
  look : (next : Token → Program A) → Program A
  skip : (next : Program A) → Program A

pub run : {A : Type 0} → Program A → Reads A
run (done x) ts = Ok (x, ts)
run (halt c) ts = Err (c, ts)
run (look next) ts = run (next (first ts)) ts
run (skip next) ts = run next (drop 1 ts)

-- the tokens that are left, and the same outcome with others left
abbrev pub left : {A : Type 0} → Result (A × List Token) Halt → List Token
left (Ok x) = x.1
left (Err h) = h.1

abbrev pub moved : {A : Type 0} → Result (A × List Token) Halt → List Token → Result (A × List Token) Halt
moved (Ok x) ts = Ok (x.0, ts)
moved (Err h) ts = Err (h.0, ts)

drop_le : (ts : List Token) → length (drop 1 ts) ≤ length ts
drop_le [] = omega arith
drop_le (t ∷ ts) = omega arith

left_le : {A : Type 0} (p : Program A) (ts : List Token) → length (left (run p ts)) ≤ length ts
unfolding run
left_le (done x) ts = omega arith
left_le (halt c) ts = omega arith
left_le (look next) ts = left_le (next (first ts)) ts
left_le (skip next) ts = omega (arith, left_le next (drop 1 ts), drop_le ts)

nothing_used : (used : List Token) (t : Token) (r : List Token) → used ++ t ∷ r ≡ t ∷ r → used ≡ []
nothing_used [] t r e = refl
nothing_used (u ∷ used) t r e = absurd (omega (arith, ap length e, length-append used (t ∷ r)))

first_same : (used : List Token) (t : Token) (r s : List Token) → first (used ++ t ∷ r) ≡ first (used ++ t ∷ s)
first_same [] t r s = refl
first_same (u ∷ used) t r s = refl

run_local : {A : Type 0} (p : Program A) (used : List Token) (t : Token) (r s : List Token) → left (run p (used ++ t ∷ r)) ≡ t ∷ r → run p (used ++ t ∷ s) ≡ moved (run p (used ++ t ∷ r)) (t ∷ s)
unfolding run
run_local (done x) used t r s e = let n = nothing_used used t r e in rw n refl
run_local (halt c) used t r s e = let n = nothing_used used t r e in rw n refl
run_local (look next) used t r s e = rw (first_same used t s r) (run_local (next (first (used ++ t ∷ r))) used t r s e)
run_local (skip next) [] t r s e = absurd (omega (arith, left_le next r, ap length e))
run_local (skip next) (u ∷ used) t r s e = run_local next used t r s e

-- what is left is the end of what was there
pub record Tail (ts rest : List Token) : Type 0 where
  pub used : List Token
  pub same : ts ≡ used ++ rest

longer : (ts rest : List Token) → Tail (drop 1 ts) rest → Tail ts rest
longer [] rest x = x
longer (t ∷ ts) rest x = record { used = t ∷ x.used; same = ap (λ (r : List Token). t ∷ r) x.same }

run_tail : {A : Type 0} (p : Program A) (ts : List Token) → Tail ts (left (run p ts))
unfolding run
run_tail (done x) ts = record { used = []; same = refl }
run_tail (halt c) ts = record { used = []; same = refl }
run_tail (look next) ts = run_tail (next (first ts)) ts
run_tail (skip next) ts = longer ts (left (run next (drop 1 ts))) (run_tail next (drop 1 ts))

bind : {A B : Type 0} → Program A → (A → Program B) → Program B
bind (done x) k = k x
bind (halt c) k = halt c
bind (look next) k = look (λ t. bind (next t) k)
bind (skip next) k = skip (bind next k)

run_bind : {A B : Type 0} (p : Program A) (k : A → Program B) (ts : List Token) → run (bind p k) ts ≡ (run p ts >>= λ x. run (k x.0) x.1)
unfolding run bind
run_bind (done x) k ts = refl
run_bind (halt c) k ts = refl
run_bind (look next) k ts = run_bind (next (first ts)) k ts
run_bind (skip next) k ts = run_bind next k (drop 1 ts)

-- a function on tokens that is the run of such a reader
pub record Runs {A : Type 0} (reads : Reads A) : Type 0 where
  pub program : Program A
  pub same : (ts : List Token) → reads ts ≡ run program ts

pub is_local : {A : Type 0} (reads : Reads A) → Runs reads → (used : List Token) (t : Token) (r s : List Token) → left (reads (used ++ t ∷ r)) ≡ t ∷ r → reads (used ++ t ∷ s) ≡ moved (reads (used ++ t ∷ r)) (t ∷ s)
is_local reads x used t r s e = rw (x.same (used ++ t ∷ r), x.same (used ++ t ∷ s)) (run_local x.program used t r s (ap left (sym (x.same (used ++ t ∷ r))) ∙ e))

pub leaves_tail : {A : Type 0} (reads : Reads A) → Runs reads → (ts : List Token) → Tail ts (left (reads ts))
leaves_tail reads x ts = rw (x.same ts) (run_tail x.program ts)

-- ---- the steps of a reader

pub gives : {A : Type 0} (x : A) → Runs (λ ts. Ok (x, ts))
unfolding run
gives x = record { program = done x; same = λ ts. refl }

pub halts : {A : Type 0} (c : Cause) → Runs {A = A} (λ ts. Err (c, ts))
unfolding run
halts c = record { program = halt c; same = λ ts. refl }

-- past the first token
pub past : {A : Type 0} {reads : Reads A} → Runs reads → Runs (λ ts. reads (drop 1 ts))
unfolding run
past x = record { program = skip x.program; same = λ ts. x.same (drop 1 ts) }

-- by the first token
pub by_first : {A B : Type 0} (of : Token → B) (reads : B → Reads A) → ((b : B) → Runs (reads b)) → Runs (λ ts. reads (of (first ts)) ts)
unfolding run
by_first of reads each = record { program = look (λ t. (each (of t)).program); same = λ ts. (each (of (first ts))).same ts }

pub andthen : {A B : Type 0} {reads : Reads A} {next : A → Reads B} → Runs reads → ((x : A) → Runs (next x)) → Runs (λ ts. reads ts >>= λ x. next x.0 x.1)
andthen {A} {B} {reads} {next} first_part second_part = record {
  program = bind first_part.program (λ x. (second_part x).program);
  same = λ ts. rw (first_part.same ts) (go (run first_part.program ts) ∙ sym (run_bind first_part.program (λ x. (second_part x).program) ts));
}
  where
    go : (r : Result (A × List Token) Halt) → (r >>= λ x. next x.0 x.1) ≡ (r >>= λ x. run (second_part x.0).program x.1)
    go (Ok x) = (second_part x.0).same x.1
    go (Err h) = refl

-- by a test of the first token
pub either_way : {A : Type 0} (there here : Reads A) → Runs there → Runs here → (b : Bool) → Runs (λ ts. cond b (there ts) (here ts))
either_way there here y n true = record { program = y.program; same = y.same }
either_way there here y n false = record { program = n.program; same = n.same }

-- past a first token that meets the test
abbrev pub taking : (Token → Bool) → List Token → Result (List Token) Halt
taking test ts = cond (test (first ts)) (Ok (drop 1 ts)) (Err (Unexpected, ts))

pub takes : {A : Type 0} (test : Token → Bool) {next : Reads A} → Runs next → Runs (λ ts. taking test ts >>= λ after. next after)
takes {A} test {next} x = record { program = found.program; same = λ ts. cases (test (first ts)) ts ∙ found.same ts }
  where
    each : (b : Bool) → Runs (λ ts. cond b (next (drop 1 ts)) (Err (Unexpected, ts)))
    each b = either_way (λ ts. next (drop 1 ts)) (λ ts. Err (Unexpected, ts)) (past x) (halts Unexpected) b

    found : Runs (λ ts. cond (test (first ts)) (next (drop 1 ts)) (Err (Unexpected, ts)))
    found = by_first test (λ b ts. cond b (next (drop 1 ts)) (Err (Unexpected, ts))) each

    expected : Bool → List Token → Result (List Token) Halt
    expected b ts = cond b (Ok (drop 1 ts)) (Err (Unexpected, ts))

    cases : (b : Bool) (ts : List Token) → (expected b ts >>= λ after. next after) ≡ cond b (next (drop 1 ts)) (Err (Unexpected, ts))
    cases true ts = refl
    cases false ts = refl

-- a reader that is another one
pub runs_same : {A : Type 0} {reads other : Reads A} → ((ts : List Token) → reads ts ≡ other ts) → Runs other → Runs reads
runs_same same x = record { program = x.program; same = λ ts. same ts ∙ x.same ts }
