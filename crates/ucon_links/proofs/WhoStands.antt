-- Who stands at each place after a call.
use Rattle.std.proofs.Common.{◌≡◌, ◌≢◌, ℕ, zero, suc, List, [], ◌∷◌, ◌++◌, map, Some, None, Option, Bool, true, false, not, eqb, cond, Contains, ◌⊎◌, ◌↔◌, inl, inr, refl, sym, ap, ◌∙◌, subst, arith}
use Rattle.std.proofs.lemmas.Bool.{eqb-true, eqb-false, ne_eqb}
use Rattle.std.specs.List.{slice_get}
use Rattle.ucon_base.specs.Elements.{Each}
use Rattle.ucon_links.specs.Lists.{Lists, first_or, last_or, with_behind, IsAbsent, IsDistinct}
use Rattle.ucon_links.specs.Dependents.{Stood, Place, Dependents, empty_place, place_at, stands_in, others, without_session, stands_behind, with_stood, hide_at, hide, remove_at, remove, forget_at, forget_hidden, back_at, unhide_at, unhide, unhide_first, Fits, FitsAt, CanUnhide, CanUnhideFirst, IsNextBack}
use Rattle.ucon_links.specs.Tables.{places_from, seen, IsOnce, IsSound}
use Rattle.ucon_links.specs.OneList.{distinct_front}
use Rattle.ucon_links.proofs.Standing.{sessions_in, sessions_out}

others-absent : (session : ℕ) (xs : List (ℕ × ℕ)) → IsAbsent session (sessions_in xs) → others session (sessions_in xs) ≡ sessions_in xs
others-absent session [] absent = refl
others-absent session (x ∷ xs) absent = rw (ne_eqb x.1 session absent.0) (ap (λ ys. x.1 ∷ ys) (others-absent session xs absent.1))

others_first : (session : ℕ) (x : ℕ × ℕ) (xs : List (ℕ × ℕ)) (test : Bool) → eqb x.1 session ≡ test → IsDistinct (sessions_in (x ∷ xs)) → sessions_in (without_session session xs) ≡ others session (sessions_in xs) → sessions_in (cond test xs (x ∷ without_session session xs)) ≡ cond (not test) (x.1 ∷ others session (sessions_in xs)) (others session (sessions_in xs))
others_first session x xs true is once rest = sym (others-absent session xs (subst (λ n. IsAbsent n (sessions_in xs)) (eqb-true x.1 session is) once.0))
others_first session x xs false is once rest = ap (λ ys. x.1 ∷ ys) rest

-- where none stands twice, its first node is its only one
pub without-others : (session : ℕ) (xs : List (ℕ × ℕ)) → IsDistinct (sessions_in xs) → sessions_in (without_session session xs) ≡ others session (sessions_in xs)
without-others session [] once = refl
without-others session (x ∷ xs) once = others_first session x xs (eqb x.1 session) refl once (without-others session xs once.1)

absent_first : (session : ℕ) (before : Option ℕ) (x : ℕ × ℕ) (xs : List (ℕ × ℕ)) (test : Bool) → eqb x.1 session ≡ test → cond test (Some (record { node = x.0; session = x.1; before = before; after = first_or None xs })) (stands_behind session (Some x.0) xs) ≡ None → (stands_behind session (Some x.0) xs ≡ None → IsAbsent session (sessions_in xs)) → IsAbsent session (sessions_in (x ∷ xs))
absent_first session before x xs true is none rest = let no : ⊥ = cc in absurd no
absent_first session before x xs false is none rest = (eqb-false x.1 session is, rest none)

stands_none : (session : ℕ) (before : Option ℕ) (xs : List (ℕ × ℕ)) → stands_behind session before xs ≡ None → IsAbsent session (sessions_in xs)
stands_none session before [] none = tt
stands_none session before (x ∷ xs) none = absent_first session before x xs (eqb x.1 session) refl none (stands_none session (Some x.0) xs)

with_stood-others : (session : ℕ) (place : Place) (found : Option Stood) → stands_behind session None place.listed ≡ found → IsDistinct (sessions_in place.listed) → sessions_in (with_stood session place found).listed ≡ others session (sessions_in place.listed)
with_stood-others session place None is once = sym (others-absent session place.listed (stands_none session None place.listed is))
with_stood-others session place (Some stood) is once = without-others session place.listed once

hide_at-others : (session : ℕ) (place : Place) → IsDistinct (sessions_in place.listed) → sessions_in (hide_at session place).listed ≡ others session (sessions_in place.listed)
hide_at-others session place once = with_stood-others session place (stands_behind session None place.listed) refl once

-- a change of each place, seen at one
at_map : (change : Place → Place) (places : List Place) (i : ℕ) → change empty_place ≡ empty_place → place_at (map change places) i ≡ change (place_at places i)
at_map change [] i empty = sym empty
at_map change (place ∷ rest) zero empty = refl
at_map change (place ∷ rest) (suc i) empty = at_map change rest i empty

each_anywhere : (P : Place → Type 0) (places : List Place) (i : ℕ) → P empty_place → Each P places → P (place_at places i)
each_anywhere P [] i empty each = empty
each_anywhere P (place ∷ rest) zero empty each = each.0
each_anywhere P (place ∷ rest) (suc i) empty each = each_anywhere P rest i empty each.1

-- no session stands twice at one place
pub stands_once : (places sessions : Lists) (place : ℕ) → IsSound places sessions → IsDistinct (stands_in (seen places sessions) place)
stands_once places sessions place sound =
    let at = place_at (places_from 0 places.lists places.hidden) place in
    distinct_front (sessions_in at.listed) (sessions_out at.hidden) (each_anywhere IsOnce (places_from 0 places.lists places.hidden) place tt sound.paired.once)

module _ (v : Dependents) (place : ℕ) where
  pub hide-stands : (session : ℕ) → IsDistinct (stands_in v place) → stands_in (hide v session) place ≡ others session (stands_in v place)
  hide-stands session once = ap (λ (p : Place). sessions_in p.listed) (at_map (hide_at session) v.places place refl) ∙ hide_at-others session (place_at v.places place) once

  pub remove-stands : (session : ℕ) → IsDistinct (stands_in v place) → stands_in (remove v session) place ≡ others session (stands_in v place)
  remove-stands session once = ap (λ (p : Place). sessions_in p.listed) (at_map (remove_at session) v.places place refl) ∙ without-others session (place_at v.places place).listed once

  pub forget-stands : stands_in (forget_hidden v) place ≡ stands_in v place
  forget-stands = ap (λ (p : Place). sessions_in p.listed) (at_map forget_at v.places place refl)

-- a list with a pair put in somewhere
record IsPutIn (pair : ℕ × ℕ) (old new : List (ℕ × ℕ)) : Type 0 where
  pub front : List (ℕ × ℕ)
  pub back : List (ℕ × ℕ)
  pub old_is : old ≡ front ++ back
  pub new_is : new ≡ front ++ pair ∷ back

put_first : (pair x : ℕ × ℕ) (xs new : List (ℕ × ℕ)) → IsPutIn pair xs new → IsPutIn pair (x ∷ xs) (x ∷ new)
put_first pair x xs new put = record { front = x ∷ put.front; back = put.back; old_is = ap (λ ys. x ∷ ys) put.old_is; new_is = ap (λ ys. x ∷ ys) put.new_is }

put_here : (pair x : ℕ × ℕ) (xs : List (ℕ × ℕ)) (before : ℕ) (test : Bool) → (test ≡ false → IsPutIn pair xs (with_behind (Some before) pair xs)) → IsPutIn pair (x ∷ xs) (cond test (x ∷ pair ∷ xs) (x ∷ with_behind (Some before) pair xs))
put_here pair x xs before true later = record { front = x ∷ []; back = xs; old_is = refl; new_is = refl }
put_here pair x xs before false later = put_first pair x xs (with_behind (Some before) pair xs) (later refl)

put_behind : (pair : ℕ × ℕ) (front back : List (ℕ × ℕ)) (start before : ℕ) → last_or (Some start) front ≡ Some before → start ≢ before → IsPutIn pair (front ++ back) (with_behind (Some before) pair (front ++ back))
put_behind pair [] back start before ends differs = let same : start ≡ before = cc in absurd (differs same)
put_behind pair (x ∷ front) back start before ends differs =
    put_here pair x (front ++ back) before (eqb x.0 before) (λ is. put_behind pair front back x.0 before ends (eqb-false x.0 before is))

put_gap : (pair : ℕ × ℕ) (front back : List (ℕ × ℕ)) (before : Option ℕ) → last_or None front ≡ before → IsPutIn pair (front ++ back) (with_behind before pair (front ++ back))
put_gap pair front back None ends = record { front = []; back = front ++ back; old_is = refl; new_is = refl }
put_gap pair [] back (Some before) ends = let no : ⊥ = cc in absurd no
put_gap pair (x ∷ front) back (Some before) ends =
    put_here pair x (front ++ back) before (eqb x.0 before) (λ is. put_behind pair front back x.0 before ends (eqb-false x.0 before is))

-- it is there, with what was there
put_members : (pair : ℕ × ℕ) (old new : List (ℕ × ℕ)) (n : ℕ) → IsPutIn pair old new → Contains (sessions_in new) n ↔ (Contains (sessions_in old) n ⊎ (pair.1 ≡ n))
put_members pair old new n put =
    subst (λ xs. Contains (sessions_in xs) n ↔ (Contains (sessions_in old) n ⊎ (pair.1 ≡ n))) (sym put.new_is)
    (subst (λ xs. Contains (sessions_in (put.front ++ pair ∷ put.back)) n ↔ (Contains (sessions_in xs) n ⊎ (pair.1 ≡ n))) (sym put.old_is) (both put.front))
  where
    first_or_rest : (x : ℕ) (xs : List ℕ) → Contains (x ∷ xs) n → (x ≡ n) ⊎ Contains xs n
    first_or_rest x xs (zero, within, is) = inl is
    first_or_rest x xs (suc k, within, is) = inr (k, omega arith, is)

    rest : (x : ℕ) (xs : List ℕ) → Contains xs n → Contains (x ∷ xs) n
    rest x xs (k, within, is) = (suc k, omega arith, is)

    both : (front : List (ℕ × ℕ)) → Contains (sessions_in (front ++ pair ∷ put.back)) n ↔ (Contains (sessions_in (front ++ put.back)) n ⊎ (pair.1 ≡ n))
    both [] = (
      λ has. elim (first_or_rest pair.1 (sessions_in put.back) has) [ inl same ↦ inr same | inr old ↦ inl old ],
      λ either. elim either [ inl old ↦ rest pair.1 (sessions_in put.back) old | inr same ↦ (0, omega arith, same) ],
    )
    both (x ∷ front) =
        let more = both front in (
          λ has.
              elim (first_or_rest x.1 (sessions_in (front ++ pair ∷ put.back)) has) [
                | inl same ↦ inl (0, omega arith, same)
                | inr old ↦ elim (more.0 old) [ inl was ↦ inl (rest x.1 (sessions_in (front ++ put.back)) was) | inr same ↦ inr same ]
              ],
          λ either.
              elim either [
                | inl old ↦ elim (first_or_rest x.1 (sessions_in (front ++ put.back)) old) [ inl same ↦ (0, omega arith, same) | inr was ↦ rest x.1 (sessions_in (front ++ pair ∷ put.back)) (more.1 (inl was)) ]
                | inr same ↦ rest x.1 (sessions_in (front ++ pair ∷ put.back)) (more.1 (inr same))
              ],
        )

some_same : {a b : ℕ} → Some a ≡ Some b → a ≡ b
some_same e = cc

back_test : (session : ℕ) (place : Place) (stood : Stood) (rest : List Stood) (n : ℕ) (test : Bool) → eqb stood.session session ≡ test → FitsAt session place (stood ∷ rest) → Contains (sessions_in (cond test (record { listed = with_behind stood.before (stood.node, session) place.listed; hidden = rest }) place).listed) n ↔ (Contains (sessions_in place.listed) n ⊎ ((Some stood.session ≡ Some session) × (session ≡ n)))
back_test session place stood rest n true is fits =
    let same = eqb-true stood.session session is in
    let gap = fits same in
    let pair : ℕ × ℕ = (stood.node, session) in
    let put = subst (λ xs. IsPutIn pair xs (with_behind stood.before pair xs)) (sym gap.parts) (put_gap pair gap.front gap.back stood.before gap.front_ends) in
    let members = put_members pair place.listed (with_behind stood.before pair place.listed) n put in (
      λ has. elim (members.0 has) [ inl old ↦ inl old | inr back ↦ inr (ap Some same, back) ],
      λ either. members.1 (elim either [ inl old ↦ inl old | inr back ↦ inr back.1 ]),
    )
back_test session place stood rest n false is fits = (
  λ has. inl has,
  λ either. elim either [ inl old ↦ old | inr back ↦ absurd (eqb-false stood.session session is (some_same back.0)) ],
)

back_members : (session : ℕ) (place : Place) (hidden : List Stood) (n : ℕ) → FitsAt session place hidden → Contains (sessions_in (back_at session place hidden).listed) n ↔ (Contains (sessions_in place.listed) n ⊎ ((slice_get (sessions_out hidden) 0 ≡ Some session) × (session ≡ n)))
back_members session place [] n fits = (λ has. inl has, λ either. elim either [ inl old ↦ old | inr back ↦ let no : ⊥ = let e = back.0 in cc in absurd no ])
back_members session place (stood ∷ rest) n fits = back_test session place stood rest n (eqb stood.session session) refl fits

back_first : (v : Dependents) (hidden : List ℕ) (place n : ℕ) → v.hidden ≡ hidden → CanUnhideFirst v.places hidden → Contains (stands_in (unhide_first v hidden) place) n ↔ (Contains (stands_in v place) n ⊎ IsNextBack v place n)
back_first v [] place n is can = absurd can
back_first v (session ∷ rest) place n is can =
    let at = at_map (unhide_at session) v.places place refl in
    let now = place_at v.places place in
    let members = back_members session now now.hidden n (each_anywhere (Fits session) v.places place tt can) in
    let top = ap (λ (hs : List ℕ). slice_get hs 0) is in (
      λ has.
          elim (members.0 (subst (λ (p : Place). Contains (sessions_in p.listed) n) at has)) [
            | inl old ↦ inl old
            | inr back ↦ inr (record { hidden_last = top ∙ ap Some back.1; stood = back.0 ∙ ap Some back.1 })
          ],
      λ either.
          subst (λ (p : Place). Contains (sessions_in p.listed) n) (sym at)
          (members.1
          (elim either [
            | inl old ↦ inl old
            | inr next ↦ let same = some_same (sym top ∙ next.hidden_last) in inr (next.stood ∙ ap Some (sym same), same)
          ])),
    )

-- who comes back
pub unhide-stands : (v : Dependents) (place n : ℕ) → CanUnhide v → Contains (stands_in (unhide v) place) n ↔ (Contains (stands_in v place) n ⊎ IsNextBack v place n)
unhide-stands v place n can = back_first v v.hidden place n refl can
