-- Who stands where once a session was added, and that to remove it undoes that.
use Rattle.std.proofs.Common.{◌≡◌, ◌≢◌, ℕ, zero, suc, ◌+◌, ◌-◌, ◌<◌, ◌≤◌, List, [], ◌∷◌, map, length, get_or, Bool, true, false, eqb, ◌||◌, All, refl, sym, ap, ◌∙◌, subst, arith, length-set}
use Rattle.std.proofs.lemmas.Bool.{eq-eqb}
use Rattle.std.proofs.lemmas.List.{get_or-set_same, get_or-set_other}
use Rattle.std.proofs.Math.Seq.{map-set_same}
use Rattle.ucon_links.specs.Lists.{IsAbsent, IsDistinct}
use Rattle.ucon_links.specs.Dependents.{Place, Dependents, empty_place, place_at, stands_in, has_session, is_there, one_if, at_front, IsAdded, remove_at, remove}
use Rattle.ucon_links.specs.Dependents as model
use Rattle.ucon_links.proofs.Sums.{sum_set}
use Rattle.ucon_links.proofs.Standing.{sessions_in, without-absent, has_session-absent}
use Rattle.ucon_links.proofs.Stack.{not_there-gone}
use Rattle.ucon_links.proofs.Rows.{each_at}
use Rattle.ucon_links.proofs.Removing.{remove-gone, no_nodes}

other_place : (places : List ℕ) (k d place : ℕ) → k < length places → IsAbsent place places → get_or places k d ≢ place
other_place [] k d place within absent = absurd (omega arith)
other_place (first ∷ rest) zero d place within absent = absent.0
other_place (first ∷ rest) (suc k) d place within absent = other_place rest k d place (omega arith) absent.1

module _ (v : Dependents) (session place node : ℕ) where
  front_other : (other : ℕ) → other ≢ place → stands_in (at_front v place node session) other ≡ stands_in v other
  front_other other differs = ap (λ (p : Place). sessions_in p.listed) (get_or-set_other v.places place other _ empty_place differs)

  front_same : place < length v.places → stands_in (at_front v place node session) place ≡ session ∷ stands_in v place
  front_same within = ap (λ (p : Place). sessions_in p.listed) (get_or-set_same v.places place _ empty_place within)

  front_length : length (at_front v place node session).places ≡ length v.places
  front_length = length-set v.places place _

pub added_elsewhere : (v : Dependents) (session : ℕ) (places : List ℕ) (new : Dependents) (place : ℕ) → IsAdded v session places new → IsAbsent place places → stands_in new place ≡ stands_in v place
added_elsewhere v session [] new place is absent = ap (λ (w : Dependents). stands_in w place) is
added_elsewhere v session (first ∷ rest) new place is absent =
    added_elsewhere (at_front v first is.0 session) session rest new place is.1 absent.1
    ∙ front_other v session first is.0 place (λ e. absent.0 (sym e))

pub added_at : (v : Dependents) (session : ℕ) (places : List ℕ) (new : Dependents) (k d : ℕ) → IsAdded v session places new → IsDistinct places → All (λ place. place < length v.places) places → k < length places → stands_in new (get_or places k d) ≡ session ∷ stands_in v (get_or places k d)
added_at v session [] new k d is distinct exist within = absurd (omega arith)
added_at v session (first ∷ rest) new zero d is distinct exist within =
    added_elsewhere (at_front v first is.0 session) session rest new first is.1 distinct.0 ∙ front_same v session first is.0 (exist 0 d (omega arith))
added_at v session (first ∷ rest) new (suc k) d is distinct exist within =
    let short : k < length rest = omega arith in
    added_at (at_front v first is.0 session) session rest new k d is.1 distinct.1
    (λ i e less. subst (λ n. get_or rest i e < n) (sym (front_length v session first is.0)) (exist (suc i) e (omega arith))) short
    ∙ ap (λ xs. session ∷ xs) (front_other v session first is.0 (get_or rest k d) (other_place rest k d first short distinct.0))

-- what was added, as it is taken away again
record IsUndone (v : Dependents) (session : ℕ) (places : List ℕ) (new : Dependents) : Type 0 where
  pub lists : map (remove_at session) new.places ≡ map (remove_at session) v.places
  pub count : model.nodes_of session new.places ≡ model.nodes_of session v.places + length places
  pub room : new.spare ≡ v.spare - length places
  pub hidden : new.hidden ≡ v.hidden
  pub sessions : new.sessions ≡ v.sessions

module _ (v : Dependents) (session place node : ℕ) (within : place < length v.places) (absent : IsAbsent session (stands_in v place)) where
  abbrev now : Place
  now = place_at v.places place

  front_removed : map (remove_at session) (at_front v place node session).places ≡ map (remove_at session) v.places
  front_removed =
      let gone = without-absent session now.listed absent in
      map-set_same (remove_at session) v.places place _ empty_place (rw (eq-eqb session session refl, gone) refl)

  front_counted : model.nodes_of session (at_front v place node session).places ≡ model.nodes_of session v.places + 1
  front_counted =
      let pair : ℕ × ℕ = (node, session) in
      let whole = sum_set (λ (p : Place). one_if (has_session session p.listed)) v.places place (record { listed = pair ∷ now.listed; hidden = now.hidden }) within in
      let none : one_if (has_session session now.listed) ≡ 0 = ap one_if (has_session-absent session now.listed absent) in
      let one : one_if (eqb session session || has_session session now.listed) ≡ 1 = rw (eq-eqb session session refl) refl in
      omega (arith, whole, none, one)

is_undone : (v : Dependents) (session : ℕ) (places : List ℕ) (new : Dependents) → IsAdded v session places new → IsDistinct places → All (λ place. place < length v.places) places → All (λ place. IsAbsent session (stands_in v place)) places → IsUndone v session places new
is_undone v session [] new is distinct exist absent = subst (IsUndone v session []) (sym is) (record { lists = refl; count = omega arith; room = omega arith; hidden = refl; sessions = refl })
is_undone v session (first ∷ rest) new is distinct exist absent =
    let node = is.0 in
    let mid = at_front v first node session in
    let within = exist 0 0 (omega arith) in
    let here = absent 0 0 (omega arith) in
    let later =
    is_undone (at_front v first node session) session rest new is.1 distinct.1
    (λ i e less. subst (λ n. get_or rest i e < n) (sym (front_length v session first node)) (exist (suc i) e (omega arith)))
    (λ i e less. subst (IsAbsent session) (sym (front_other v session first node (get_or rest i e) (other_place rest i e first less distinct.0))) (absent (suc i) e (omega arith))) in
    let count = later.count in
    let room = later.room in
    let one = front_counted v session first node within here in
    record {
      lists = later.lists ∙ front_removed v session first node within here;
      count = omega arith;
      room = omega arith;
      hidden = later.hidden;
      sessions = later.sessions;
    }

gone_at : (v : Dependents) (session place : ℕ) → is_there session v.places ≡ false → place < length v.places → IsAbsent session (stands_in v place)
gone_at v session place none within = each_at (λ (p : Place). IsAbsent session (sessions_in p.listed)) v.places place within (not_there-gone session v.places none)

pub remove-added : (v : Dependents) (session : ℕ) (places : List ℕ) (new : Dependents) → IsAdded v session places new → IsDistinct places → All (λ place. place < length v.places) places → is_there session v.places ≡ false → length places ≤ v.spare → remove new session ≡ v
remove-added v session places new is distinct exist none room =
    let back = is_undone v session places new is distinct exist (λ i e less. gone_at v session (get_or places i e) none (exist i e less)) in
    let gone = not_there-gone session v.places none in
    let lists = back.lists ∙ remove-gone session v.places gone in
    let count = back.count in
    let before = no_nodes session v.places gone in
    let left = back.room in
    let spare : new.spare + model.nodes_of session new.places ≡ v.spare = omega arith in
    let hidden = back.hidden in
    let sessions = back.sessions in
    rw (lists, hidden, sessions, spare) refl

-- where its list begins with it, the session is there
has_first : (session : ℕ) (xs : List (ℕ × ℕ)) (rest : List ℕ) → sessions_in xs ≡ session ∷ rest → has_session session xs ≡ true
has_first session [] rest is = let no : ⊥ = cc in absurd no
has_first session (x ∷ xs) rest is = let same : x.1 ≡ session = cc in rw (eq-eqb x.1 session same) refl

or_true : (a : Bool) {b : Bool} → b ≡ true → (a || b) ≡ true
or_true true e = refl
or_true false e = e

pub there_at : (session : ℕ) (places : List Place) (i : ℕ) → has_session session (place_at places i).listed ≡ true → is_there session places ≡ true
there_at session [] i has = has
there_at session (place ∷ rest) zero has = rw has refl
there_at session (place ∷ rest) (suc i) has = or_true (has_session session place.listed) (there_at session rest i has)

pub added_there : (v : Dependents) (session : ℕ) (places : List ℕ) (new : Dependents) → IsAdded v session places new → IsDistinct places → All (λ place. place < length v.places) places → 1 ≤ length places → is_there session new.places ≡ true
added_there v session places new is distinct exist some =
    let first = get_or places 0 0 in
    there_at session new.places (get_or places 0 0) (has_first session (place_at new.places (get_or places 0 0)).listed (stands_in v (get_or places 0 0)) (added_at v session places new 0 0 is distinct exist some))
