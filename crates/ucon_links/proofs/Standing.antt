-- A session at one place: where it stands, and what is left when it goes.
use Rattle.std.proofs.Common.{◌≡◌, ℕ, List, [], ◌∷◌, ◌++◌, map, Some, None, Option, Bool, true, false, eqb, ◌||◌, refl, sym, ap, ◌∙◌, subst, append_assoc}
use Rattle.std.proofs.lemmas.Bool.{eqb-false, ne_eqb, eq-eqb}
use Rattle.std.proofs.lemmas.List.{map-append}
use Rattle.ucon_links.specs.Lists.{first_or, last_or, with_behind, IsAbsent, IsDistinct}
use Rattle.ucon_links.specs.Dependents.{Stood, Place, has_session, stands_behind, without_session, with_stood, hide_at, back_at, unhide_at, FitsAt}
use Rattle.ucon_links.specs.OneList.{absent_front, absent_back, distinct_pull, distinct_push, absent_join, ids, with_behind-last}

abbrev pub sessions_in : List (ℕ × ℕ) → List ℕ
sessions_in xs = map (λ x. x.1) xs

abbrev pub sessions_out : List Stood → List ℕ
sessions_out stood = map (λ one. one.session) stood

pub stands-there : (session node : ℕ) (before : Option ℕ) (front back : List (ℕ × ℕ)) → IsAbsent session (sessions_in front) → stands_behind session before (front ++ (node, session) ∷ back) ≡ Some (record { node = node; session = session; before = last_or before front; after = first_or None back })
stands-there session node before [] back absent = rw (eq-eqb session session refl)
stands-there session node before (x ∷ front) back absent = rw (ne_eqb x.1 session absent.0) (stands-there session node (Some x.0) front back absent.1)

pub stands-absent : (session : ℕ) (before : Option ℕ) (xs : List (ℕ × ℕ)) → IsAbsent session (sessions_in xs) → stands_behind session before xs ≡ None
stands-absent session before [] absent = refl
stands-absent session before (x ∷ xs) absent = rw (ne_eqb x.1 session absent.0) (stands-absent session (Some x.0) xs absent.1)

pub without-there : (session node : ℕ) (front back : List (ℕ × ℕ)) → IsAbsent session (sessions_in front) → without_session session (front ++ (node, session) ∷ back) ≡ front ++ back
without-there session node [] back absent = rw (eq-eqb session session refl)
without-there session node (x ∷ front) back absent = rw (ne_eqb x.1 session absent.0) (ap (λ xs. x ∷ xs) (without-there session node front back absent.1))

pub without-absent : (session : ℕ) (xs : List (ℕ × ℕ)) → IsAbsent session (sessions_in xs) → without_session session xs ≡ xs
without-absent session [] absent = refl
without-absent session (x ∷ xs) absent = rw (ne_eqb x.1 session absent.0) (ap (λ ys. x ∷ ys) (without-absent session xs absent.1))

pub has_session-there : (session node : ℕ) (front back : List (ℕ × ℕ)) → has_session session (front ++ (node, session) ∷ back) ≡ true
has_session-there session node [] back = rw (eq-eqb session session refl)
has_session-there session node (x ∷ front) back = or_true (eqb x.1 session) (has_session-there session node front back)
  where
    or_true : (a : Bool) {b : Bool} → b ≡ true → (a || b) ≡ true
    or_true true e = refl
    or_true false e = e

pub has_session-absent : (session : ℕ) (xs : List (ℕ × ℕ)) → IsAbsent session (sessions_in xs) → has_session session xs ≡ false
has_session-absent session [] absent = refl
has_session-absent session (x ∷ xs) absent = rw (ne_eqb x.1 session absent.0) (has_session-absent session xs absent.1)

absent_first : (session : ℕ) (x : ℕ × ℕ) (xs : List (ℕ × ℕ)) (test : Bool) → eqb x.1 session ≡ test → (test || has_session session xs) ≡ false → (has_session session xs ≡ false → IsAbsent session (sessions_in xs)) → IsAbsent session (sessions_in (x ∷ xs))
absent_first session x xs true is none later = let no : ⊥ = cc in absurd no
absent_first session x xs false is none later = (eqb-false x.1 session is, later none)

pub absent_of : (session : ℕ) (xs : List (ℕ × ℕ)) → has_session session xs ≡ false → IsAbsent session (sessions_in xs)
absent_of session [] none = tt
absent_of session (x ∷ xs) none = absent_first session x xs (eqb x.1 session) refl none (absent_of session xs)

-- a session that stands once at a place: not beside its node, and not hidden there
pub record Alone (session : ℕ) (front back : List (ℕ × ℕ)) (hidden : List Stood) : Type 0 where
  pub front_absent : IsAbsent session (sessions_in front)
  pub back_absent : IsAbsent session (sessions_in back)
  pub hidden_absent : IsAbsent session (sessions_out hidden)
  pub others : IsDistinct (sessions_in (front ++ back) ++ sessions_out hidden)

module _ (session node : ℕ) (front back : List (ℕ × ℕ)) (hidden : List Stood) where
  with_it : sessions_in (front ++ (node, session) ∷ back) ++ sessions_out hidden ≡ sessions_in front ++ session ∷ (sessions_in back ++ sessions_out hidden)
  with_it = ap (λ xs. xs ++ sessions_out hidden) (map-append (λ x. x.1) front ((node, session) ∷ back)) ∙ append_assoc (sessions_in front) (session ∷ sessions_in back) (sessions_out hidden)

  without_it : sessions_in (front ++ back) ++ sessions_out hidden ≡ sessions_in front ++ (sessions_in back ++ sessions_out hidden)
  without_it = ap (λ xs. xs ++ sessions_out hidden) (map-append (λ x. x.1) front back) ∙ append_assoc (sessions_in front) (sessions_in back) (sessions_out hidden)

  pub alone : IsDistinct (sessions_in (front ++ (node, session) ∷ back) ++ sessions_out hidden) → Alone session front back hidden
  alone once =
      let pulled = distinct_pull session (sessions_in front) (sessions_in back ++ sessions_out hidden) (subst IsDistinct with_it once) in
      let behind = absent_back session (sessions_in front) (sessions_in back ++ sessions_out hidden) pulled.absent in
      record {
        front_absent = absent_front session (sessions_in front) (sessions_in back ++ sessions_out hidden) pulled.absent;
        back_absent = absent_front session (sessions_in back) (sessions_out hidden) behind;
        hidden_absent = absent_back session (sessions_in back) (sessions_out hidden) behind;
        others = subst IsDistinct (sym without_it) pulled.distinct;
      }

  -- the session at the place
  pub once_listed : Alone session front back hidden → IsDistinct (sessions_in (front ++ (node, session) ∷ back) ++ sessions_out hidden)
  once_listed one =
      subst IsDistinct (sym with_it)
      (distinct_push session (sessions_in front) (sessions_in back ++ sessions_out hidden) (record {
        absent = absent_join session (sessions_in front) (sessions_in back ++ sessions_out hidden) one.front_absent (absent_join session (sessions_in back) (sessions_out hidden) one.back_absent one.hidden_absent);
        distinct = subst IsDistinct without_it one.others;
      }))

module _ (session : ℕ) (front back : List (ℕ × ℕ)) (hidden : List Stood) where
  absent_there : Alone session front back hidden → IsAbsent session (sessions_in (front ++ back) ++ sessions_out hidden)
  absent_there one =
      absent_join session (sessions_in (front ++ back)) (sessions_out hidden)
      (subst (IsAbsent session) (sym (map-append (λ x. x.1) front back)) (absent_join session (sessions_in front) (sessions_in back) one.front_absent one.back_absent))
      one.hidden_absent

  pub absent_left : Alone session front back hidden → IsAbsent session (sessions_in (front ++ back))
  absent_left one = absent_front session (sessions_in (front ++ back)) (sessions_out hidden) (absent_there one)

  -- the session hidden at the place
  pub once_hidden : Alone session front back hidden → IsDistinct (sessions_in (front ++ back) ++ session ∷ sessions_out hidden)
  once_hidden one = distinct_push session (sessions_in (front ++ back)) (sessions_out hidden) (record { absent = absent_there one; distinct = one.others })

  -- what is known of a session that is hidden at the place
  pub alone_hidden : IsDistinct (sessions_in (front ++ back) ++ session ∷ sessions_out hidden) → Alone session front back hidden
  alone_hidden once =
      let pulled = distinct_pull session (sessions_in (front ++ back)) (sessions_out hidden) once in
      let listed = subst (IsAbsent session) (map-append (λ x. x.1) front back) (absent_front session (sessions_in (front ++ back)) (sessions_out hidden) pulled.absent) in
      record {
        front_absent = absent_front session (sessions_in front) (sessions_in back) listed;
        back_absent = absent_back session (sessions_in front) (sessions_in back) listed;
        hidden_absent = absent_back session (sessions_in (front ++ back)) (sessions_out hidden) pulled.absent;
        others = pulled.distinct;
      }

pub hide_at-there : (session node : ℕ) (front back : List (ℕ × ℕ)) (hidden : List Stood) → IsAbsent session (sessions_in front) → hide_at session (record { listed = front ++ (node, session) ∷ back; hidden = hidden }) ≡ record { listed = front ++ back; hidden = record { node = node; session = session; before = last_or None front; after = first_or None back } ∷ hidden }
hide_at-there session node front back hidden absent =
    ap (with_stood session (record { listed = front ++ (node, session) ∷ back; hidden = hidden })) (stands-there session node None front back absent)
    ∙ ap (λ xs. record { listed = xs; hidden = record { node = node; session = session; before = last_or None front; after = first_or None back } ∷ hidden }) (without-there session node front back absent)

pub hide_at-absent : (session : ℕ) (place : Place) → IsAbsent session (sessions_in place.listed) → hide_at session place ≡ place
hide_at-absent session place absent = ap (with_stood session place) (stands-absent session None place.listed absent)

pub unhide_at-gap : (session node : ℕ) (before after : Option ℕ) (front back : List (ℕ × ℕ)) (hidden : List Stood) → last_or None front ≡ before → IsDistinct (ids front) → unhide_at session (record { listed = front ++ back; hidden = record { node = node; session = session; before = before; after = after } ∷ hidden }) ≡ record { listed = front ++ (node, session) ∷ back; hidden = hidden }
unhide_at-gap session node before after front back hidden ends distinct =
    let pair : ℕ × ℕ = (node, session) in
    rw (eq-eqb session session refl) (ap (λ xs. record { listed = xs; hidden = hidden }) (ap (λ at. with_behind at pair (front ++ back)) (sym ends) ∙ with_behind-last (node, session) front back distinct))

pub unhide_at-there : (session node : ℕ) (front back : List (ℕ × ℕ)) (hidden : List Stood) → IsDistinct (ids front) → unhide_at session (record { listed = front ++ back; hidden = record { node = node; session = session; before = last_or None front; after = first_or None back } ∷ hidden }) ≡ record { listed = front ++ (node, session) ∷ back; hidden = hidden }
unhide_at-there session node front back hidden distinct =
    rw (eq-eqb session session refl) (ap (λ xs. record { listed = xs; hidden = hidden }) (with_behind-last (node, session) front back distinct))

back_at-absent : (session : ℕ) (place : Place) (hidden : List Stood) → IsAbsent session (sessions_out hidden) → back_at session place hidden ≡ place
back_at-absent session place [] absent = refl
back_at-absent session place (stood ∷ rest) absent = rw (ne_eqb stood.session session absent.0)

pub unhide_at-absent : (session : ℕ) (place : Place) → IsAbsent session (sessions_out place.hidden) → unhide_at session place ≡ place
unhide_at-absent session place absent = back_at-absent session place place.hidden absent

pub fits_not : (session : ℕ) (place : Place) (hidden : List Stood) → IsAbsent session (sessions_out hidden) → FitsAt session place hidden
fits_not session place [] absent = tt
fits_not session place (stood ∷ rest) absent = λ same. absurd (absent.0 same)
