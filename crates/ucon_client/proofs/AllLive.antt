-- All clients of a live run, one by one.
use Rattle.std.proofs.Common.{◌≡◌, ℕ, zero, suc, ◌+◌, ◌<◌, ◌≤◌, List, [], ◌∷◌, ◌++◌, Option, None, Some, map, length, get_or, drop, arith, refl, sym, ap, subst, ◌∙◌}
use Rattle.std.specs.Prelude.{Box}
use Rattle.std.specs.Option.{option_or}
use Rattle.ucon_base.specs.Elements.{Each}
use Rattle.ucon_base.specs.declared.no_memory.NoMemory.{NoMemory}
use Rattle.ucon_script.specs.declared.document.Line.{Line}
use Rattle.ucon_turn.specs.Lists.{Has}
use Rattle.ucon_client.specs.declared.part.Part.{Part}
use Rattle.ucon_client.specs.Answers.{number}
use Rattle.ucon_client.specs.Clients.{AreRising}
use Rattle.ucon_client.specs.Live.{AreFrom, HasTaken}
use Rattle.ucon_client.proofs.Counting.{same_by_place}
use Rattle.ucon_client.proofs.Parts.{all_back, seat_number}

-- the next number behind those from one on
pub from_push : (n : ℕ) (ms : List ℕ) (m : ℕ) → AreFrom n ms → m ≡ n + length ms → AreFrom n (ms ++ m ∷ [])
from_push n [] m h is = (omega (arith, is), tt)
from_push n (k ∷ ms) m h is = (h.0, from_push (n + 1) ms m h.1 (omega (arith, is)))

-- where there was room for both there is no want of memory
pub or_none : (a b : Option NoMemory) → option_or a b ≡ None → (a ≡ None) × (b ≡ None)
or_none None b none = (refl, none)
or_none (Some e) b none = absurd (cc none)

pub less_short : {Z : Type 0} (p : Part) (taken : List (Box Line Z)) (short now : Option NoMemory) → (now ≡ None → short ≡ None) → HasTaken p taken short → HasTaken p taken now
less_short p taken short now less h = record { left_out = h.left_out; lines_are = h.lines_are; whole = λ none. h.whole (less none) }

-- the first of those that have these inboxes
pub first_of : {X Y : Type 0} (inbox : X → Y) (xs : List X) (b : Y) (bs : List Y) (x : X) → map inbox xs ≡ b ∷ bs → x ≡ get_or xs 0 x → xs ≡ x ∷ drop 1 xs
first_of {X} inbox [] b bs x inboxes is = absurd (cc inboxes)
first_of {X} inbox (y ∷ xs) b bs x inboxes is = ap (λ (z : X). z ∷ xs) (sym is)

pub none_of_none : {X Y : Type 0} (inbox : X → Y) (xs : List X) → map inbox xs ≡ [] → xs ≡ []
none_of_none inbox [] none = refl
none_of_none inbox (x ∷ xs) none = absurd (cc none)

pub none_of_short : {X : Type 0} (xs : List X) → length xs ≡ 0 → xs ≡ []
none_of_short [] short = refl
none_of_short (x ∷ xs) short = absurd (omega (arith, short))

-- what holds of each by its place holds of all, and the other way round
pub each_of_all : {C : Type 0} (Q : C → Type 0) (xs : List C) → ((k : ℕ) (d : C) → k < length xs → Q (get_or xs k d)) → Each Q xs
each_of_all Q [] h = tt
each_of_all Q (x ∷ xs) h = (h 0 x (omega arith), each_of_all Q xs (λ k d lt. h (suc k) d (omega (arith, lt))))

pub all_of_each : {C : Type 0} (Q : C → Type 0) (xs : List C) → Each Q xs → (k : ℕ) (d : C) → k < length xs → Q (get_or xs k d)
all_of_each Q [] h k d lt = absurd (omega (arith, lt))
all_of_each Q (x ∷ xs) h zero d lt = h.0
all_of_each Q (x ∷ xs) h (suc k) d lt = all_of_each Q xs h.1 k d (omega (arith, lt))

above : (n m : ℕ) (ms : List ℕ) → n ≤ m → AreFrom (m + 1) ms → Each (λ k. n < k) ms
above n m [] le h = tt
above n m (k ∷ ms) le h = (omega (arith, h.0, le), above n (m + 1) ms (omega (arith, le)) h.1)

pub from_rising : (n : ℕ) (ms : List ℕ) → AreFrom n ms → AreRising ms
from_rising n [] h = tt
from_rising n (m ∷ ms) h = (above m n ms (omega (arith, h.0)) h.1, from_rising (n + 1) ms h.1)

pub map_twice : {X Y Z : Type 0} (f : Y → Z) (g : X → Y) (xs : List X) → map f (map g xs) ≡ map (λ x. f (g x)) xs
map_twice f g [] = refl
map_twice f g (x ∷ xs) = ap (λ l. f (g x) ∷ l) (map_twice f g xs)

pub each_mapped : {X Y : Type 0} (Q : Y → Type 0) (f : X → Y) (xs : List X) → Each (λ x. Q (f x)) xs → Each Q (map f xs)
each_mapped Q f [] h = tt
each_mapped Q f (x ∷ xs) h = (h.0, each_mapped Q f xs h.1)

-- the parts of finished clients have the numbers of the clients that were seated
pub seated_numbers : {L C : Type 0} (live : L → ℕ) (part_of : C → Part) (old now : List L) (clients : List C) → length now ≡ length old
    → ((k : ℕ) (d : L) → k < length old → live (get_or now k d) ≡ live (get_or old k d)) → map (λ c. (part_of c).number) clients ≡ map live now
    → map number (map part_of clients) ≡ map live old
seated_numbers live part_of old now clients long same are = map_twice number part_of clients ∙ (are ∙ same_by_place live old now long same)

-- so all seats that were given to them are back
pub seats_back : {L : Type 0} (live : L → ℕ) (old : List L) (parts : List Part) (given taken : List ℕ) → map number parts ≡ map live old
    → Each (Has (map (λ d. live d + 1) old)) given → Each (λ p. Has taken (p.number + 1)) parts → Each (Has taken) given
seats_back live old parts given taken same has back =
    let next : ℕ → ℕ = λ n. n + 1 in
    let seats : map (λ d. live d + 1) old ≡ map seat_number parts = sym (map_twice next live old) ∙ (ap (map next) (sym same) ∙ map_twice next number parts) in
    all_back parts given taken (subst (λ l. Each (Has l) given) seats has) back
