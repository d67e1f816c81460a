-- What is drawn: commands, short ones, of clients that there are.
use Rattle.std.proofs.Common.{⊎_elim, ◌≡◌, ℕ, zero, suc, ◌+◌, ◌-◌, ◌*◌, ◌/◌, ◌%◌, ◌^◌, ◌<◌, ◌≤◌, Bool, true, false, cond, List, [], ◌∷◌, ◌++◌, length, refl, sym, ap, subst, ◌∙◌, arith, length-append}
use Rattle.std.specs.Prelude.{pos, codes, nat_lt, ◌==◌, ◌&&◌}
use Rattle.std.specs.Fmt.{decimal, digits}
use Rattle.std.proofs.Math.Nat.{mod-lt}
use Rattle.std.proofs.lemmas.Bool.{and_parts, cases_lt}
use Rattle.std.proofs.lemmas.Fmt.{decimal_digit, length-decimal-le}
use Rattle.std.proofs.lemmas.Int.{ints}
use Rattle.ucon_base.specs.NameBytes.{is_name}
use Rattle.ucon_base.specs.Numbers.{InRange}
use Rattle.ucon_model.specs.declared.command.Command.{Command}
use Rattle.ucon_model.specs.declared.command.Command.TheVariants.{Subject, Object, Look, Beat, End, Try, Tick}
use Rattle.ucon_model.specs.declared.command.Entry.{Entry}
use Rattle.ucon_model.specs.CommandLine.{IsCommand, command_spelling}
use Rattle.ucon_model.specs.Generated.{Generator, Drawn, next_x, below, user, video, credit_set, by, first, opening, stepped, drawn_try, drawn_at_session, drawn_tick, drawn_credit, drawn_by, drawn, all_drawn}
use Rattle.ucon_base.specs.Elements.{Each}

-- ---- small numbers

length-number : (n : ℕ) → n < 2 ^ 32 → length (decimal n) ≤ 10
length-number n lt = omega (arith, length-decimal-le 10 n (omega arith) (omega (arith, lt)) (omega (arith, lt)))

-- a test of all numbers below n
abbrev all_below : (ℕ → Bool) → ℕ → Bool
all_below p zero = true
all_below p (suc n) = all_below p n && p n

tested : (p : ℕ → Bool) (n k : ℕ) → all_below p n ≡ true → k < n → p k ≡ true
tested p zero k all lt = absurd (omega (arith, lt))
tested p (suc n) k all lt =
    let parts = and_parts (all_below p n) (p n) all in
    ⊎_elim (λ under. tested p n k parts.0 under) (λ over. (let e : k ≡ n = omega (arith, lt, over) in rw e parts.1)) (cases_lt k n)

below_is : (k x : ℕ) → 0 < k → below k x < k
unfolding below
below_is k x some = mod-lt (x / 2 ^ 33) some

pub user_named : (n : ℕ) → n < 10 → is_name (user n) ≡ true
unfolding digits
user_named n lt = tested (λ n. is_name (user n)) 10 n refl lt

pub video_named : (n : ℕ) → n < 10 → is_name (video n) ≡ true
unfolding digits
video_named n lt = tested (λ n. is_name (video n)) 10 n refl lt

pub in_range : (n : ℕ) → n ≤ 1000000000000000 → InRange (pos n)
in_range n le = record { low = omega (arith, ints); high = omega (arith, ints) }

-- ---- short lines

short_try : (a b : ℕ) → a < 10 → b < 10 → length (command_spelling (Try (user a) (codes "use") (video b))) ≤ 31
unfolding command_spelling
short_try a b x y = rw (decimal_digit a x, decimal_digit b y) (omega arith)

short_credit : (a v : ℕ) → a < 10 → v < 2 ^ 32 → length (command_spelling (credit_set a v)) ≤ 31
unfolding command_spelling
short_credit a v x y = rw (decimal_digit a x) (omega (arith, length-number v y))

short_beat : (n : ℕ) → n < 2 ^ 32 → length (command_spelling (Beat n)) ≤ 31
unfolding command_spelling
short_beat n lt = omega (arith, length-number n lt)

short_end : (n : ℕ) → n < 2 ^ 32 → length (command_spelling (End n)) ≤ 31
unfolding command_spelling
short_end n lt = omega (arith, length-number n lt)

short_look : length (command_spelling (Look 1)) ≤ 31
unfolding command_spelling digits
short_look = omega arith

short_tick : (n : ℕ) → n < 2 ^ 32 → length (command_spelling (Tick (pos n))) ≤ 31
unfolding command_spelling
short_tick n lt = omega (arith, length-number n lt)

short_named : (n : ℕ) → n < 10 → (length (command_spelling (Subject (user n))) ≤ 31) × (length (command_spelling (Object (video n))) ≤ 31)
unfolding command_spelling
short_named n lt = rw (decimal_digit n lt) (omega arith, omega arith)

-- ---- what is drawn

-- after so many entries
pub record IsWithin (n : ℕ) (g : Generator) : Type 0 where
  pub tries : g.tries ≤ n
  pub tick : g.tick ≤ 9 * n

pub record IsShort (e : Entry) : Type 0 where
  pub client : e.caller.0 < 10
  pub command : IsCommand e.command
  pub short : length (command_spelling e.command) ≤ 31

pub record IsDrawn (n : ℕ) (d : Drawn) : Type 0 where
  pub entry : IsShort d.entry
  pub after : IsWithin (n + 1) d.after

either : {A : Type 0} (P : A → Type 0) (b : Bool) (x y : A) → P x → P y → P (cond b x y)
either P true x y p q = p
either P false x y p q = q

try_drawn : (n : ℕ) (g : Generator) → IsWithin n g → IsDrawn n (drawn_try g)
try_drawn n g within =
    let c = next_x g.x in
    let a = next_x c in
    let b = next_x a in
    let subject : below 10 a < 10 = below_is 10 a (omega arith) in
    let object : below 5 b < 10 = omega (arith, below_is 5 b (omega arith)) in
    record {
      entry = record {
        client = omega (arith, below_is 4 c (omega arith));
        command = (user_named (below 10 a) subject, refl, video_named (below 5 b) object);
        short = short_try (below 10 a) (below 5 b) subject object;
      };
      after = record { tries = omega (arith, within.tries); tick = omega (arith, within.tick) };
    }

some_tries : (t : ℕ) → (t == 0) ≡ false → 0 < t
some_tries zero e = cc
some_tries (suc t) e = omega arith

by_tries : (command : ℕ → Command) → ((n : ℕ) → n < 2 ^ 32 → IsCommand (command n)) → ((n : ℕ) → n < 2 ^ 32 → length (command_spelling (command n)) ≤ 31)
    → (n : ℕ) (g : Generator) → n < 100000 → IsWithin n g → (none : Bool) → (g.tries == 0) ≡ none
    → IsDrawn n (cond none (record { entry = by (1 + below 4 (next_x g.x)) (Look 1); after = stepped g })
    (record { entry = by (1 + below 4 (next_x g.x)) (command (1 + below g.tries (next_x (next_x g.x)))); after = stepped (stepped g) }))
by_tries command is short n g few within true e = record {
  entry = record { client = omega (arith, below_is 4 (next_x g.x) (omega arith)); command = omega arith; short = short_look };
  after = record { tries = omega (arith, within.tries); tick = omega (arith, within.tick) };
}
by_tries command is short n g few within false e =
    let session = 1 + below g.tries (next_x (next_x g.x)) in
    let small : session < 2 ^ 32 = omega (arith, below_is g.tries (next_x (next_x g.x)) (some_tries g.tries e), within.tries, few) in
    record {
      entry = record { client = omega (arith, below_is 4 (next_x g.x) (omega arith)); command = is session small; short = short session small };
      after = record { tries = omega (arith, within.tries); tick = omega (arith, within.tick) };
    }

tick_drawn : (n : ℕ) (g : Generator) → n < 100000 → IsWithin n g → IsDrawn n (drawn_tick g)
tick_drawn n g few within =
    let rise = below 10 (next_x g.x) in
    let small : rise < 10 = below_is 10 (next_x g.x) (omega arith) in
    let tick : g.tick + rise ≤ 9 * (n + 1) = omega (arith, within.tick, small) in
    record {
      entry = record { client = omega arith; command = in_range (g.tick + rise) (omega (arith, tick, few)); short = short_tick (g.tick + rise) (omega (arith, tick, few)) };
      after = record { tries = omega (arith, within.tries); tick = tick };
    }

credit_drawn : (n : ℕ) (g : Generator) → IsWithin n g → IsDrawn n (drawn_credit g)
credit_drawn n g within =
    let a = next_x g.x in
    let v = next_x a in
    let subject : below 10 a < 10 = below_is 10 a (omega arith) in
    let credit : below 200 v < 200 = below_is 200 v (omega arith) in
    record {
      entry = record {
        client = omega arith;
        command = (user_named (below 10 a) subject, refl, in_range (below 200 v) (omega (arith, credit)));
        short = short_credit (below 10 a) (below 200 v) subject (omega (arith, credit));
      };
      after = record { tries = omega (arith, within.tries); tick = omega (arith, within.tick) };
    }

pub drawn_is : (n : ℕ) (g : Generator) → n < 100000 → IsWithin n g → IsDrawn n (drawn g)
unfolding drawn
drawn_is n g few within =
    let d = below 8 (next_x g.x) in
    let from : IsWithin n (stepped g) = record { tries = within.tries; tick = within.tick } in
    either (IsDrawn n) (nat_lt d 4) _ _ (try_drawn n (stepped g) from)
    (either (IsDrawn n) (d == 4) _ _ (by_tries Beat (λ n lt. lt) short_beat n (stepped g) few from _ refl)
    (either (IsDrawn n) (d == 5) _ _ (by_tries End (λ n lt. lt) short_end n (stepped g) few from _ refl)
    (either (IsDrawn n) (d == 6) _ _ (tick_drawn n (stepped g) few from) (credit_drawn n (stepped g) from))))

-- all that are drawn
pub all_short : (k n : ℕ) (g : Generator) → k + n ≤ 100000 → IsWithin n g → Each IsShort (all_drawn k g)
all_short zero n g few within = tt
all_short (suc k) n g few within =
    let one = drawn_is n g (omega (arith, few)) within in
    (one.entry, all_short k (n + 1) (drawn g).after (omega (arith, few)) one.after)

pub length-all_drawn : (k : ℕ) (g : Generator) → length (all_drawn k g) ≡ k
length-all_drawn zero g = refl
length-all_drawn (suc k) g = ap suc (length-all_drawn k (drawn g).after)
