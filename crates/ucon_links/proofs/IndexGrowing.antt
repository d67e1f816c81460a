-- More places, more sessions, more room, and nobody hidden.
use Rattle.std.proofs.Common.{◌≡◌, ℕ, zero, suc, ◌+◌, ◌-◌, ◌<◌, ◌≤◌, List, [], ◌∷◌, ◌++◌, length, set, map, min, replicate, sum_by, None, refl, sym, ap, ◌∙◌, subst, arith, length-append}
use Rattle.std.proofs.lemmas.List.{append-nil}
use Rattle.std.specs.Prelude.{Result, Ok, Err, OnOk, OnErr}
use Rattle.ucon_base.specs.Elements.{Each}
use Rattle.ucon_links.specs.Layout.{InLists}
use Rattle.ucon_links.specs.Lists.{Item, Lists, first_or, list_at, IsAbsent, IsDistinct}
use Rattle.ucon_links.specs.Dependents.{Place, Dependents, empty_place, forget_at, forget_hidden}
use Rattle.ucon_links.specs.Tables.{stood_at, places_from, sessions_of, seen, weight_from, weight_of, CanReturn, IsSound, AreGone, IsOnce}
use Rattle.ucon_links.specs.OneList.{distinct_front}
use Rattle.ucon_links.proofs.Rows.{seen_at, stood_at-other, places-length}
use Rattle.ucon_links.proofs.Standing.{sessions_in, sessions_out}
use Rattle.ucon_links.proofs.Sums.{hidden_shared, hidden_length}

empties : (weigh : ℕ → List (ℕ × ℕ) → ℕ) (from n : ℕ) → ((i : ℕ) → weigh i [] ≡ 0) → weight_from weigh from (replicate n []) ≡ 0
empties weigh from zero none = refl
empties weigh from (suc n) none = let first = none from in let rest = empties weigh (suc from) n none in omega arith

weight-more : (weigh : ℕ → List (ℕ × ℕ) → ℕ) (from n : ℕ) (lists : List (List (ℕ × ℕ))) → ((i : ℕ) → weigh i [] ≡ 0) → weight_from weigh from (lists ++ replicate n []) ≡ weight_from weigh from lists
weight-more weigh from n [] none = empties weigh from n none
weight-more weigh from n (xs ∷ rest) none = ap (λ w. weigh from xs + w) (weight-more weigh (suc from) n rest none)

none_beyond : (place : ℕ) (hidden : List Item) (most : ℕ) → most ≤ place → InLists most hidden → stood_at place hidden ≡ []
none_beyond place [] most beyond all = refl
none_beyond place (item ∷ rest) most beyond all =
    let within = all.0 in
    stood_at-other item rest place (λ e. omega arith) ∙ none_beyond place rest most beyond all.1

empty_places : (from n : ℕ) (hidden : List Item) (most : ℕ) → most ≤ from → InLists most hidden → places_from from (replicate n []) hidden ≡ replicate n empty_place
empty_places from zero hidden most beyond all = refl
empty_places from (suc n) hidden most beyond all =
    ap (λ stood. record { listed = []; hidden = stood } ∷ places_from (suc from) (replicate n []) hidden) (none_beyond from hidden most beyond all)
    ∙ ap (λ ps. empty_place ∷ ps) (empty_places (suc from) n hidden most (omega arith) all)

places-more : (from n : ℕ) (lists : List (List (ℕ × ℕ))) (hidden : List Item) (most : ℕ) → most ≡ from + length lists → InLists most hidden → places_from from (lists ++ replicate n []) hidden ≡ places_from from lists hidden ++ replicate n empty_place
places-more from n [] hidden most is all = empty_places from n hidden most (omega arith) all
places-more from n (xs ∷ rest) hidden most is all = ap (λ ps. seen_at from xs hidden ∷ ps) (places-more (suc from) n rest hidden most (omega arith) all)

each_more : (P : Place → Type 0) (places : List Place) (n : ℕ) → P empty_place → Each P places → Each P (places ++ replicate n empty_place)
each_more P [] zero empty each = tt
each_more P [] (suc n) empty each = (empty, each_more P [] n empty each)
each_more P (place ∷ rest) n empty each = (each.0, each_more P rest n empty each.1)

gone_more : (hidden : List ℕ) (places : List Place) (n : ℕ) → AreGone hidden places → AreGone hidden (places ++ replicate n empty_place)
gone_more [] places n gone = tt
gone_more (session ∷ rest) places n gone = (each_more (λ p. IsAbsent session (sessions_in p.listed)) places n tt gone.0, gone_more rest places n gone.1)

in_places_more : (most more : ℕ) (hidden : List Item) → most ≤ more → InLists most hidden → InLists more hidden
in_places_more most more [] less all = tt
in_places_more most more (item ∷ rest) less all = let within = all.0 in (omega arith, in_places_more most more rest less all.1)

-- a change of the room alone
pub sound_room : (places sessions : Lists) (spare room : ℕ) → IsSound places sessions → IsSound (record places { spare = spare }) (record sessions { spare = room })
sound_room places sessions spare room sound = record {
  paired = record { same = sound.paired.same; in_step = sound.paired.in_step; can_return = sound.paired.can_return; in_places = sound.paired.in_places; once = sound.paired.once };
  gone = sound.gone;
  hidden_once = sound.hidden_once;
}

module _ (places sessions : Lists) (n : ℕ) (sound : IsSound places sessions) where
  pub places_more : places_from 0 (places.lists ++ replicate n []) places.hidden ≡ places_from 0 places.lists places.hidden ++ replicate n empty_place
  places_more = places-more 0 n places.lists places.hidden (length places.lists) (omega arith) sound.paired.in_places

  pub sound_more : IsSound (record places { lists = places.lists ++ replicate n [] }) sessions
  sound_more =
      let size = length-append places.lists (replicate n []) in
      record {
        paired = record {
          same = λ weight. weight-more (λ place xs. weight_of (λ x. weight x.0 x.1) xs) 0 n places.lists (λ i. refl) ∙ sound.paired.same weight;
          in_step = sound.paired.in_step;
          can_return = sound.paired.can_return;
          in_places = in_places_more (length places.lists) (length (places.lists ++ replicate n [])) places.hidden (omega arith) sound.paired.in_places;
          once = subst (Each IsOnce) (sym places_more) (each_more IsOnce (places_from 0 places.lists places.hidden) n tt sound.paired.once);
        };
        gone = subst (AreGone (sessions_of places.hidden)) (sym places_more) (gone_more (sessions_of places.hidden) (places_from 0 places.lists places.hidden) n sound.gone);
        hidden_once = sound.hidden_once;
      }

at_front_of : (lists : List (List (ℕ × ℕ))) (n list : ℕ) → list < length lists → list_at (lists ++ replicate n []) list ≡ list_at lists list
at_front_of [] n list within = absurd (omega arith)
at_front_of (xs ∷ rest) n zero within = refl
at_front_of (xs ∷ rest) n (suc list) within = at_front_of rest n list (omega arith)

set_front : (lists : List (List (ℕ × ℕ))) (n list : ℕ) (xs : List (ℕ × ℕ)) → list < length lists → set (lists ++ replicate n []) list xs ≡ set lists list xs ++ replicate n []
set_front [] n list xs within = absurd (omega arith)
set_front (ys ∷ rest) n zero xs within = refl
set_front (ys ∷ rest) n (suc list) xs within = ap (λ all. ys ∷ all) (set_front rest n list xs (omega arith))

can_return_more : (lists : List (List (ℕ × ℕ))) (n : ℕ) (hidden : List Item) → CanReturn lists hidden → CanReturn (lists ++ replicate n []) hidden
can_return_more lists n [] can = tt
can_return_more lists n (item ∷ rest) can =
    let same = at_front_of lists n item.list can.0 in
    let size = length-append lists (replicate n []) in
    let within = can.0 in
    let pair : ℕ × ℕ = (item.node, item.owner) in (
      omega arith,
      can.1,
      can.2 ∙ ap (first_or None) (sym same),
      subst (λ all. CanReturn all rest)
          (sym (ap (λ ys. set (lists ++ replicate n []) item.list (pair ∷ ys)) same ∙ set_front lists n item.list (pair ∷ list_at lists item.list) can.0))
          (can_return_more (set lists item.list (pair ∷ list_at lists item.list)) n rest can.3),
    )

pub sound_sessions : (places sessions : Lists) (n : ℕ) → IsSound places sessions → IsSound places (record sessions { lists = sessions.lists ++ replicate n [] })
sound_sessions places sessions n sound = record {
  paired = record {
    same = λ weight. sound.paired.same weight ∙ sym (weight-more (λ session xs. weight_of (λ x. weight x.1 session) xs) 0 n sessions.lists (λ i. refl));
    in_step = sound.paired.in_step;
    can_return = can_return_more sessions.lists n sessions.hidden sound.paired.can_return;
    in_places = sound.paired.in_places;
    once = sound.paired.once;
  };
  gone = sound.gone;
  hidden_once = sound.hidden_once;
}

forgotten : (from : ℕ) (lists : List (List (ℕ × ℕ))) (hidden : List Item) → places_from from lists [] ≡ map forget_at (places_from from lists hidden)
forgotten from [] hidden = refl
forgotten from (xs ∷ rest) hidden = ap (λ ps. seen_at from xs [] ∷ ps) (forgotten (suc from) rest hidden)

each_forgotten : (places : List Place) → Each IsOnce places → Each IsOnce (map forget_at places)
each_forgotten [] each = tt
each_forgotten (place ∷ rest) each = (
  subst IsDistinct (sym (append-nil (sessions_in place.listed))) (distinct_front (sessions_in place.listed) (sessions_out place.hidden) each.0),
  each_forgotten rest each.1,
)

module _ (places sessions : Lists) (sound : IsSound places sessions) where
  abbrev pub free_places : Lists
  free_places = record places { hidden = []; spare = places.spare + length places.hidden }

  abbrev pub free_sessions : Lists
  free_sessions = record sessions { hidden = []; spare = sessions.spare + length sessions.hidden }

  pub sound_forgotten : IsSound free_places free_sessions
  sound_forgotten = record {
    paired = record {
      same = sound.paired.same;
      in_step = refl;
      can_return = tt;
      in_places = tt;
      once = subst (Each IsOnce) (sym (forgotten 0 places.lists places.hidden)) (each_forgotten (places_from 0 places.lists places.hidden) sound.paired.once);
    };
    gone = tt;
    hidden_once = tt;
  }

  pub seen_forgotten : seen free_places free_sessions ≡ forget_hidden (seen places sessions)
  seen_forgotten =
      let lists = forgotten 0 places.lists places.hidden in
      let count = hidden_length places sessions sound.paired in
      let shared = hidden_shared places.lists places.hidden sound.paired.in_places in
      let spare : min (places.spare + length places.hidden) (sessions.spare + length sessions.hidden) ≡ min places.spare sessions.spare + sum_by (λ place. length place.hidden) (places_from 0 places.lists places.hidden) = omega arith in
      rw (lists, spare)

pub on_ok : {T E : Type 0} (result : Result T E) {A B : Type 0} → (A → B) → OnOk result A → OnOk result B
on_ok (Ok x) change holds = change holds
on_ok (Err e) change holds = holds

-- more places, or none if there was no memory
pub grown : {T E : Type 0} (result : Result T E) (places sessions after : Lists) (n : ℕ) → IsSound places sessions → OnOk result (after ≡ record places { lists = places.lists ++ replicate n [] }) → OnErr result (after ≡ places) → IsSound after sessions
grown (Ok x) places sessions after n sound ok err = subst (λ v. IsSound v sessions) (sym ok) (sound_more places sessions n sound)
grown (Err e) places sessions after n sound ok err = subst (λ v. IsSound v sessions) (sym err) sound

pub grown_sessions : {T E : Type 0} (result : Result T E) (places sessions after : Lists) (n : ℕ) → IsSound places sessions → OnOk result (after ≡ record sessions { lists = sessions.lists ++ replicate n [] }) → OnErr result (after ≡ sessions) → IsSound places after
grown_sessions (Ok x) places sessions after n sound ok err = subst (IsSound places) (sym ok) (sound_sessions places sessions n sound)
grown_sessions (Err e) places sessions after n sound ok err = subst (IsSound places) (sym err) sound

pub seen_more : (places sessions after : Lists) (v : Dependents) (most n : ℕ) → IsSound places sessions → seen places sessions ≡ v → n ≡ most - length places.lists → after ≡ record places { lists = places.lists ++ replicate n [] } → seen after sessions ≡ record v { places = v.places ++ replicate (most - length v.places) empty_place }
seen_more places sessions after v most n sound is more after_is =
    let size : length v.places ≡ length places.lists = ap (λ (w : Dependents). length w.places) (sym is) ∙ places-length 0 places.lists places.hidden in
    let count : n ≡ most - length v.places = more ∙ ap (λ k. most - k) (sym size) in
    ap (λ w. seen w sessions) after_is
    ∙ ap (λ ps. record (seen places sessions) { places = ps }) (places_more places sessions n sound)
    ∙ ap (λ (w : Dependents). record w { places = w.places ++ replicate n empty_place }) is
    ∙ ap (λ k. record v { places = v.places ++ replicate k empty_place }) count
