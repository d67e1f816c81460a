-- Going over the facts of a line in the order of first reading.
use Rattle.std.proofs.Common.{◌≡◌, ◌∙◌, ℕ, ◌+◌, Bool, true, false, List, [], ◌∷◌, ◌++◌, length, map, take, drop, refl, sym, ap, subst}
use Rattle.std.specs.Prelude.{◌||◌, fold, Option, Some, None, option_and_then, if◌then◌else◌}
use Rattle.std.specs.List.{list_any, slice_get}
use Rattle.std.specs.Option.{option_map_or}
use Rattle.std.proofs.lemmas.List.{append-nil, append_assoc, length-append, length-map, map-append, take_more, take-append-drop}
use Rattle.std.proofs.lemmas.Option.{get_or_from_slice_get, slice_get_within}
use Rattle.std.proofs.Math.Seq.{drop-append_seam, take-append_seam}
use Rattle.ucon_model.specs.declared.formula.Ref.{Ref}
use Rattle.ucon_model.specs.declared.session.SessionRow.{SessionRow}
use Rattle.ucon_model.specs.Places.{distinct, formula_places, same_place, with_place}
use Rattle.ucon_model.specs.Plain.{PlainFormula, PlainTest, authorisation, duty, condition}
use Rattle.ucon_model.specs.Truth.{Readings}
use Rattle.ucon_accept.specs.declared.explanation.Fact.{Fact}
use Rattle.ucon_accept.specs.Checking.{all_read, is_of_place, one_read, tell_formula, tell_test, tell_tick, tells_act, tells_value}
use Rattle.ucon_accept.specs.Facts.{asks_tick, formula_facts, is_timed, test_facts, tick_fact, value_fact}
use Rattle.ucon_accept.proofs.SingleFacts.{act_fact_told, act_told_right, tick_fact_told, tick_told_right, value_fact_told, value_told_right}
use Rattle.std.proofs.lemmas.Bool.{and_parts}

-- ---- one list of places after another

pub all_read_joined : (R : Readings) (row : SessionRow) (fs : List Fact) (xs ys : List Ref) (k : ℕ)
    → all_read R row fs (xs ++ ys) k ≡ option_and_then (all_read R row fs ys) (all_read R row fs xs k)
all_read_joined R row fs [] ys k = refl
all_read_joined R row fs (p ∷ xs) ys k = by_first (one_read R row fs k p) (all_read_joined R row fs xs ys)
  where
    by_first : (o : Option ℕ) → ((j : ℕ) → all_read R row fs (xs ++ ys) j ≡ option_and_then (all_read R row fs ys) (all_read R row fs xs j))
        → option_and_then (all_read R row fs (xs ++ ys)) o ≡ option_and_then (all_read R row fs ys) (option_and_then (all_read R row fs xs) o)
    by_first None on = refl
    by_first (Some j) on = on j

-- ---- places that are there stay first

-- places that come behind others
pub record Goes (before after : List Ref) : Type 0 where
  pub more : List Ref
  pub is : after ≡ before ++ more

with_place-grows : (seen : List Ref) (p : Ref) → Goes seen (with_place seen p)
with_place-grows seen p = by_test (list_any (same_place p) seen)
  where
    by_test : (b : Bool) → Goes seen (if b then seen else seen ++ p ∷ [])
    by_test true = record { more = []; is = sym (append-nil seen) }
    by_test false = record { more = p ∷ []; is = refl }

fold-grows : (seen ps : List Ref) → Goes seen (fold with_place seen ps)
fold-grows seen [] = record { more = []; is = sym (append-nil seen) }
fold-grows seen (p ∷ ps) =
    let one = with_place-grows seen p in
    let all = fold-grows (with_place seen p) ps in
    record { more = one.more ++ all.more; is = all.is ∙ ap (λ (x : List Ref). x ++ all.more) one.is ∙ append_assoc seen one.more all.more }

any-facts : (R : Readings) (row : SessionRow) (p : Ref) (seen : List Ref) → list_any (is_of_place p) (map (value_fact R row) seen) ≡ list_any (same_place p) seen
any-facts R row p [] = refl
any-facts R row p (q ∷ seen) = ap (λ (b : Bool). same_place p q || b) (any-facts R row p seen)

-- ---- one place

-- a place that is told already
one_read-again : (R : Readings) (row : SessionRow) (fs : List Fact) (k : ℕ) (p : Ref) (seen : List Ref) → take k fs ≡ map (value_fact R row) seen
    → list_any (same_place p) seen ≡ true → one_read R row fs k p ≡ Some k
one_read-again R row fs k p seen before there =
    let told : list_any (is_of_place p) (take k fs) ≡ true = ap (list_any (is_of_place p)) before ∙ any-facts R row p seen ∙ there in
    rw told refl

-- a place that isn't told yet
one_read-new : (R : Readings) (row : SessionRow) (fs : List Fact) (k : ℕ) (p : Ref) (seen : List Ref) → take k fs ≡ map (value_fact R row) seen
    → list_any (same_place p) seen ≡ false
    → one_read R row fs k p ≡ (if option_map_or (tells_value R row p) (slice_get fs k) false then Some (k + 1) else None)
one_read-new R row fs k p seen before there =
    let told : list_any (is_of_place p) (take k fs) ≡ false = ap (list_any (is_of_place p)) before ∙ any-facts R row p seen ∙ there in
    rw told refl

pub take-one_more : {X : Type 0} (xs : List X) (k : ℕ) (x : X) → slice_get xs k ≡ Some x → take (k + 1) xs ≡ take k xs ++ x ∷ []
take-one_more xs k x is =
    take_more xs k x (slice_get_within xs k x is) ∙ ap (λ y. take k xs ++ y ∷ []) (get_or_from_slice_get xs k x x is)

-- ---- what is read in order is what there is to read

pub read_is_right : (R : Readings) (row : SessionRow) (fs : List Fact) (ps : List Ref) (k j : ℕ) (seen : List Ref) → all_read R row fs ps k ≡ Some j
    → take k fs ≡ map (value_fact R row) seen → take j fs ≡ map (value_fact R row) (fold with_place seen ps)
read_is_right R row fs [] k j seen read before =
    let same : k ≡ j = cc in
    subst (λ (i : ℕ). take i fs ≡ map (value_fact R row) seen) same before
read_is_right R row fs (p ∷ ps) k j seen read before = by_test (list_any (same_place p) seen) refl (read_is_right R row fs ps)
  where
    by_next : (o : Option Fact) (b : Bool) → slice_get fs k ≡ o → option_map_or (tells_value R row p) o false ≡ b
        → ((k j : ℕ) (seen : List Ref) → all_read R row fs ps k ≡ Some j → take k fs ≡ map (value_fact R row) seen → take j fs ≡ map (value_fact R row) (fold with_place seen ps))
        → option_and_then (all_read R row fs ps) (if b then Some (k + 1) else None) ≡ Some j
        → take j fs ≡ map (value_fact R row) (fold with_place (seen ++ p ∷ []) ps)
    by_next None true at tells on h = absurd cc
    by_next (Some f) true at tells on h =
        let one : take (k + 1) fs ≡ map (value_fact R row) (seen ++ p ∷ []) =
        take-one_more fs k f at
        ∙ ap (λ (x : List Fact). x ++ f ∷ []) before
        ∙ ap (λ (g : Fact). map (value_fact R row) seen ++ g ∷ []) (value_told_right R row p f tells)
        ∙ sym (map-append (value_fact R row) seen (p ∷ [])) in
        on (k + 1) j (seen ++ p ∷ []) h one
    by_next o false at tells on h = absurd cc

    by_test : (b : Bool) → list_any (same_place p) seen ≡ b
        → ((k j : ℕ) (seen : List Ref) → all_read R row fs ps k ≡ Some j → take k fs ≡ map (value_fact R row) seen → take j fs ≡ map (value_fact R row) (fold with_place seen ps))
        → take j fs ≡ map (value_fact R row) (fold with_place (with_place seen p) ps)
    by_test true is on =
        let again = one_read-again R row fs k p seen before is in
        let rest : all_read R row fs ps k ≡ Some j = ap (option_and_then (all_read R row fs ps)) (sym again) ∙ read in
        rw is (on k j seen rest before)
    by_test false is on =
        let new = one_read-new R row fs k p seen before is in
        let rest = ap (option_and_then (all_read R row fs ps)) (sym new) ∙ read in
        rw is (by_next (slice_get fs k) (option_map_or (tells_value R row p) (slice_get fs k) false) refl refl on rest)

-- ---- what there is to read is read in order

pub slice_get-seam : {X : Type 0} (xs : List X) (y : X) (ys : List X) → slice_get (xs ++ y ∷ ys) (length xs) ≡ Some y
slice_get-seam [] y ys = refl
slice_get-seam (x ∷ xs) y ys = slice_get-seam xs y ys

-- the first facts, where these places come first
first_facts : (R : Readings) (row : SessionRow) (fs rest : List Fact) (seen after : List Ref) (go : Goes seen after) → fs ≡ map (value_fact R row) after ++ rest
    → fs ≡ map (value_fact R row) seen ++ (map (value_fact R row) go.more ++ rest)
first_facts R row fs rest seen after go is =
    is
    ∙ ap (λ (x : List Ref). map (value_fact R row) x ++ rest) go.is
    ∙ ap (λ (x : List Fact). x ++ rest) (map-append (value_fact R row) seen go.more)
    ∙ append_assoc (map (value_fact R row) seen) (map (value_fact R row) go.more) rest

first_taken : (R : Readings) (row : SessionRow) (fs more : List Fact) (seen : List Ref) → fs ≡ map (value_fact R row) seen ++ more
    → take (length seen) fs ≡ map (value_fact R row) seen
first_taken R row fs more seen is =
    ap (take (length seen)) is
    ∙ ap (λ (n : ℕ). take n (map (value_fact R row) seen ++ more)) (sym (length-map seen (value_fact R row)))
    ∙ take-append_seam (map (value_fact R row) seen) more

next_at : (R : Readings) (row : SessionRow) (fs more : List Fact) (seen : List Ref) (p : Ref)
    → fs ≡ map (value_fact R row) (seen ++ p ∷ []) ++ more → slice_get fs (length seen) ≡ Some (value_fact R row p)
next_at R row fs more seen p is =
    ap (λ (x : List Fact). slice_get x (length seen))
    (is ∙ ap (λ (x : List Fact). x ++ more) (map-append (value_fact R row) seen (p ∷ []))
    ∙ append_assoc (map (value_fact R row) seen) (value_fact R row p ∷ []) more)
    ∙ ap (λ (n : ℕ). slice_get (map (value_fact R row) seen ++ value_fact R row p ∷ more) n) (sym (length-map seen (value_fact R row)))
    ∙ slice_get-seam (map (value_fact R row) seen) (value_fact R row p) more

pub right_is_read : (R : Readings) (row : SessionRow) (fs rest : List Fact) (ps seen : List Ref) → fs ≡ map (value_fact R row) (fold with_place seen ps) ++ rest
    → all_read R row fs ps (length seen) ≡ Some (length (fold with_place seen ps))
right_is_read R row fs rest [] seen is = refl
right_is_read R row fs rest (p ∷ ps) seen is = by_test (list_any (same_place p) seen) refl (right_is_read R row fs rest ps)
  where
    by_test : (b : Bool) → list_any (same_place p) seen ≡ b
        → ((seen : List Ref) → fs ≡ map (value_fact R row) (fold with_place seen ps) ++ rest → all_read R row fs ps (length seen) ≡ Some (length (fold with_place seen ps)))
        → option_and_then (all_read R row fs ps) (one_read R row fs (length seen) p) ≡ Some (length (fold with_place (with_place seen p) ps))
    by_test true there on =
        let stays : with_place seen p ≡ seen = rw there refl in
        let is' : fs ≡ map (value_fact R row) (fold with_place seen ps) ++ rest = is ∙ ap (λ (x : List Ref). map (value_fact R row) (fold with_place x ps) ++ rest) stays in
        let go = fold-grows seen ps in
        let before = first_taken R row fs (map (value_fact R row) go.more ++ rest) seen (first_facts R row fs rest seen (fold with_place seen ps) go is') in
        ap (option_and_then (all_read R row fs ps)) (one_read-again R row fs (length seen) p seen before there)
        ∙ on seen is'
        ∙ ap (λ (x : List Ref). Some (length (fold with_place x ps))) (sym stays)
    by_test false there on =
        let grows : with_place seen p ≡ seen ++ p ∷ [] = rw there refl in
        let is' : fs ≡ map (value_fact R row) (fold with_place (seen ++ p ∷ []) ps) ++ rest = is ∙ ap (λ (x : List Ref). map (value_fact R row) (fold with_place x ps) ++ rest) grows in
        let go = fold-grows (seen ++ p ∷ []) ps in
        let all = first_facts R row fs rest (seen ++ p ∷ []) (fold with_place (seen ++ p ∷ []) ps) go is' in
        let next = next_at R row fs (map (value_fact R row) go.more ++ rest) seen p all in
        let one : Goes seen (seen ++ p ∷ []) = record { more = p ∷ []; is = refl } in
        let before = first_taken R row fs (map (value_fact R row) one.more ++ (map (value_fact R row) go.more ++ rest)) seen
        (first_facts R row fs (map (value_fact R row) go.more ++ rest) seen (seen ++ p ∷ []) one all) in
        let tells : option_map_or (tells_value R row p) (slice_get fs (length seen)) false ≡ true =
        ap (λ (o : Option Fact). option_map_or (tells_value R row p) o false) next ∙ value_fact_told R row p in
        let read : one_read R row fs (length seen) p ≡ Some (length (seen ++ p ∷ [])) =
        one_read-new R row fs (length seen) p seen before there
        ∙ ap (λ (b : Bool). if b then Some (length seen + 1) else None) tells
        ∙ ap Some (sym (length-append seen (p ∷ []))) in
        ap (option_and_then (all_read R row fs ps)) read
        ∙ on (seen ++ p ∷ []) is'
        ∙ ap (λ (x : List Ref). Some (length (fold with_place x ps))) (sym grows)

-- ---- all facts of a test

formula_told_right : (R : Readings) (row : SessionRow) (fs : List Fact) (f : PlainFormula) → tell_formula R row fs f ≡ true → fs ≡ formula_facts R row f
formula_told_right R row fs f h = by_read (all_read R row fs (formula_places f) 0) refl h
  where
    by_read : (o : Option ℕ) → all_read R row fs (formula_places f) 0 ≡ o → option_map_or (λ k. tell_tick R (asks_tick f) (drop k fs)) o false ≡ true
        → fs ≡ formula_facts R row f
    by_read None is h = absurd cc
    by_read (Some k) is h =
        let places : take k fs ≡ map (value_fact R row) (distinct (formula_places f)) = read_is_right R row fs (formula_places f) 0 k [] is refl in
        let tick = tick_told_right R (asks_tick f) (drop k fs) h in
        sym (take-append-drop k fs)
        ∙ ap (λ (x : List Fact). x ++ drop k fs) places
        ∙ ap (λ (x : List Fact). map (value_fact R row) (distinct (formula_places f)) ++ x) tick

formula_facts_told : (R : Readings) (row : SessionRow) (f : PlainFormula) → tell_formula R row (formula_facts R row f) f ≡ true
formula_facts_told R row f =
    let ps = distinct (formula_places f) in
    let tick = tick_fact R (asks_tick f) in
    let read : all_read R row (formula_facts R row f) (formula_places f) 0 ≡ Some (length ps) = right_is_read R row (formula_facts R row f) tick (formula_places f) [] refl in
    let rest : drop (length ps) (formula_facts R row f) ≡ tick =
    ap (λ (n : ℕ). drop n (map (value_fact R row) ps ++ tick)) (sym (length-map ps (value_fact R row))) ∙ drop-append_seam (map (value_fact R row) ps) tick in
    ap (λ (o : Option ℕ). option_map_or (λ k. tell_tick R (asks_tick f) (drop k (formula_facts R row f))) o false) read
    ∙ ap (tell_tick R (asks_tick f)) rest
    ∙ tick_fact_told R (asks_tick f)

-- the facts that pass are those that the test reads
pub test_told_right : (R : Readings) (row : SessionRow) (fs : List Fact) (t : PlainTest) → tell_test R row fs t ≡ true → fs ≡ test_facts R row t
test_told_right R row fs (authorisation f) h = formula_told_right R row fs f h
test_told_right R row fs (condition f) h = formula_told_right R row fs f h
test_told_right R row [] (duty o) h = absurd cc
test_told_right R row (f ∷ fs) (duty o) h =
    let parts = and_parts (tells_act R row o f) (tell_tick R (is_timed o.form) fs) h in
    let act = act_told_right R row o f parts.0 in
    let tick = tick_told_right R (is_timed o.form) fs parts.1 in
    cc

-- and those pass
pub test_facts_told : (R : Readings) (row : SessionRow) (t : PlainTest) → tell_test R row (test_facts R row t) t ≡ true
test_facts_told R row (authorisation f) = formula_facts_told R row f
test_facts_told R row (condition f) = formula_facts_told R row f
test_facts_told R row (duty o) = rw (act_fact_told R row o, tick_fact_told R (is_timed o.form)) refl
