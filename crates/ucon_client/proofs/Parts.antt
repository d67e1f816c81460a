-- The parts whose seats are split and taken back, one by one.
use Rattle.std.proofs.Common.{ℕ, ◌+◌, ◌<◌, List, [], ◌∷◌, ◌++◌, map, arith, sym, subst}
use Rattle.std.proofs.lemmas.List.{map-append}
use Rattle.ucon_base.specs.Elements.{Each, each_map}
use Rattle.ucon_turn.specs.Lists.{Has}
use Rattle.ucon_client.specs.declared.part.Part.{Part}
use Rattle.ucon_client.specs.Answers.{number, served_of}
use Rattle.ucon_client.specs.Clients.{AreRising}
use Rattle.ucon_client.proofs.Joining.{rising_below}
use Rattle.ucon_client.proofs.Seats.{has_each, has_front, has_last}

-- the number of a part's seat
abbrev pub seat_number : Part → ℕ
seat_number p = p.number + 1

pub below_numbers : (n : ℕ) (parts : List Part) → Each (λ m. m < n) (map number parts) → Each (λ k. k < n + 1) (map seat_number parts)
below_numbers n [] h = tt
below_numbers n (p ∷ parts) h = (let lt : p.number < n = h.0 in omega (arith, lt), below_numbers n parts h.1)

-- the parts before one have lower numbers
pub rising_parts : (done : List Part) (p : Part) (rest : List Part) → AreRising (map number (done ++ p ∷ rest)) → Each (λ m. m < p.number) (map number done)
rising_parts done p rest up = rising_below (map number done) p.number (map number rest) (subst AreRising (map-append number done (p ∷ rest)) up)

pub below_served : (n : ℕ) (parts : List Part) → Each (λ m. m < n) (map number parts) → Each (λ d. d.number < n) (map served_of parts)
below_served n [] h = tt
below_served n (p ∷ parts) h = (h.0, below_served n parts h.1)

-- the numbers that were given so far are below the next one
pub below_next : (done : List Part) (p : Part) (rest : List Part) (given : List ℕ) → AreRising (map number (done ++ p ∷ rest))
    → Each (Has (map seat_number done)) given → Each (λ k. k < p.number + 1) given
below_next done p rest given up h = each_map (Has (map seat_number done)) (λ k. k < p.number + 1)
    (λ k has. has_each (λ j. j < p.number + 1) k (map seat_number done) (below_numbers p.number done (rising_parts done p rest up)) has) given h

pub given_more : (done : List Part) (p : Part) (given : List ℕ) → Each (Has (map seat_number done)) given
    → Each (Has (map seat_number (done ++ p ∷ []))) ((p.number + 1) ∷ given)
given_more done p given h =
    subst (λ l. Each (Has l) ((p.number + 1) ∷ given)) (sym (map-append seat_number done (p ∷ []))) (
      has_last (map seat_number done) (p.number + 1),
      each_map (Has (map seat_number done)) (Has (map seat_number done ++ (p.number + 1) ∷ []))
          (λ k has. has_front (map seat_number done) ((p.number + 1) ∷ []) k has) given h,
    )

each_number : (Q : ℕ → Type 0) (parts : List Part) → Each (λ p. Q (p.number + 1)) parts → Each Q (map seat_number parts)
each_number Q [] h = tt
each_number Q (p ∷ parts) h = (h.0, each_number Q parts h.1)

-- all that was given is back
pub all_back : (parts : List Part) (given taken : List ℕ) → Each (Has (map seat_number parts)) given → Each (λ p. Has taken (p.number + 1)) parts → Each (Has taken) given
all_back parts given taken g back =
    each_map (Has (map seat_number parts)) (Has taken) (λ k has. has_each (Has taken) k (map seat_number parts) (each_number (Has taken) parts back) has) given g
