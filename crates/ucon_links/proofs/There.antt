-- A session stands at a place where it has an item.
use Rattle.std.proofs.Common.{◌≡◌, ℕ, zero, suc, ◌<◌, ◌≤◌, List, [], ◌∷◌, refl, false, length, Some, None, Option, is_some, true, sym, subst, arith}
use Rattle.ucon_links.specs.Lists.{Lists, first_or, list_at}
use Rattle.ucon_links.specs.Dependents.{Place, has_session, is_there}
use Rattle.ucon_links.specs.Tables.{places_from, IsPaired}
use Rattle.ucon_links.proofs.Weights.{Spot}
use Rattle.ucon_links.proofs.Rows.{places-at}
use Rattle.ucon_links.proofs.Standing.{has_session-there}
use Rattle.ucon_links.proofs.Stack.{gone-not_there, no_items-gone}
use Rattle.ucon_links.proofs.IndexHiding.{next_item, no_first}
use Rattle.ucon_links.proofs.Added.{there_at}

there_spot : (session node : ℕ) (places : Lists) → Spot places.lists node session → is_there session (places_from 0 places.lists places.hidden) ≡ true
there_spot session node places spot =
    there_at session (places_from 0 places.lists places.hidden) spot.place
    (subst (λ (p : Place). has_session session p.listed ≡ true) (sym (places-at 0 places.lists places.hidden spot.place spot.place (omega arith) spot.within))
    (subst (λ xs. has_session session xs ≡ true) (sym spot.there) (has_session-there session node spot.front spot.back)))

pub there_is : (session : ℕ) (places sessions : Lists) (first : Option ℕ) → IsPaired places sessions → session < length sessions.lists → first ≡ first_or None (list_at sessions.lists session) → is_some first ≡ is_there session (places_from 0 places.lists places.hidden)
there_is session places sessions None paired within is = sym (gone-not_there session (places_from 0 places.lists places.hidden) (no_items-gone session places sessions paired (no_first (list_at sessions.lists session) is)))
there_is session places sessions (Some item) paired within is =
    let next = next_item session item places sessions paired within is in
    sym (there_spot session next.node places next.spot)

beyond_all : (lists : List (List (ℕ × ℕ))) (session : ℕ) → length lists ≤ session → list_at lists session ≡ []
beyond_all [] session beyond = refl
beyond_all (xs ∷ rest) zero beyond = absurd (omega (arith, beyond))
beyond_all (xs ∷ rest) (suc session) beyond = beyond_all rest session (omega (arith, beyond))

-- nobody stands whose number is none of a session's
pub beyond_is_not : (session : ℕ) (places sessions : Lists) → IsPaired places sessions → length sessions.lists ≤ session → is_there session (places_from 0 places.lists places.hidden) ≡ false
beyond_is_not session places sessions paired beyond =
    gone-not_there session (places_from 0 places.lists places.hidden) (no_items-gone session places sessions paired (beyond_all sessions.lists session beyond))
