-- Faults as they are told: by told numbers, along lists, and one after another.
use Rattle.std.proofs.Common.{◌≡◌, ◌∙◌, sym, ap, refl, ℕ, ◌+◌, ◌<◌, Bool, true, false, List, [], ◌∷◌, ◌++◌, length, take, drop, get_or, map, Option, Some, None, arith}
use Rattle.std.specs.Prelude.{option_map}
use Rattle.std.specs.Option.{option_or}
use Rattle.std.proofs.lemmas.List.{drop_more, take_more, map-append}
use Rattle.ucon_model.specs.Plain.{Bytes}
use Rattle.ucon_model.specs.Typing.{TypeFault, item_fault, first_fault_of}
use Rattle.ucon_check.specs.declared.fault.CheckFault.{CheckFault}
use Rattle.ucon_check.specs.declared.fault.CheckFault.TheVariants.{Twice, NoName, WrongReader, WrongKind}
use Rattle.ucon_check.specs.Numbers.{told_number}
use Rattle.ucon_check.specs.Told.{told}

-- ---- one fault or another

pub told-or : (a b : Option TypeFault) → option_map told (option_or a b) ≡ option_or (option_map told a) (option_map told b)
told-or None b = refl
told-or (Some f) b = refl

-- where there is no first fault, the second is told
pub told_rest : (a b : Option TypeFault) → option_map told a ≡ None → option_map told (option_or a b) ≡ option_map told b
told_rest None b none = refl
told_rest (Some f) b none = absurd cc

-- an answer of the first fault is one of the whole
pub answers_first : (a b : Option TypeFault) (e : CheckFault) → option_map told a ≡ Some e → option_map told (option_or a b) ≡ Some e
answers_first None b e is = absurd cc
answers_first (Some f) b e is = is

-- ---- by told numbers

-- a fault is told alike at numbers that are told alike
abbrev pub IsToldAlike : {T : Type 0} → (List T → ℕ → T → Option TypeFault) → Type 0
IsToldAlike {T} fault = (before : List T) (n m : ℕ) (x : T) → told_number n ≡ told_number m → option_map told (fault before n x) ≡ option_map told (fault before m x)

pub item_told : (n m : ℕ) (again unknown : Option Bytes) (wrong typed : Bool) → told_number n ≡ told_number m
    → option_map told (item_fault n again unknown wrong typed) ≡ option_map told (item_fault m again unknown wrong typed)
item_told n m (Some name) unknown wrong typed e = ap (λ k. Some (Twice name k)) e
item_told n m None (Some name) wrong typed e = ap (λ k. Some (NoName name k)) e
item_told n m None None true typed e = ap (λ k. Some (WrongReader k)) e
item_told n m None None false false e = ap (λ k. Some (WrongKind k)) e
item_told n m None None false true e = refl

pub later_alike : (n m k : ℕ) → told_number n ≡ told_number m → told_number (n + k) ≡ told_number (m + k)
later_alike n m k e = omega arith

pub told_again : (n : ℕ) → told_number (told_number n) ≡ told_number n
told_again n = omega arith

pub list_told : {T : Type 0} (size : T → ℕ) (fault : List T → ℕ → T → Option TypeFault) → IsToldAlike fault → (before : List T) (n m : ℕ) (xs : List T)
    → told_number n ≡ told_number m → option_map told (first_fault_of size fault before n xs) ≡ option_map told (first_fault_of size fault before m xs)
list_told size fault alike before n m [] e = refl
list_told size fault alike before n m (x ∷ xs) e =
    told-or (fault before n x) (first_fault_of size fault (before ++ x ∷ []) (n + size x) xs)
    ∙ ap (λ o. option_or o (option_map told (first_fault_of size fault (before ++ x ∷ []) (n + size x) xs))) (alike before n m x e)
    ∙ ap (λ o. option_or (option_map told (fault before m x)) o)
    (list_told size fault alike (before ++ x ∷ []) (n + size x) (m + size x) xs (later_alike n m (size x) e))
    ∙ sym (told-or (fault before m x) (first_fault_of size fault (before ++ x ∷ []) (m + size x) xs))

-- ---- along a list

-- behind an item without a fault the rest tells the whole
pub goes_on : {T : Type 0} (size : T → ℕ) (fault : List T → ℕ → T → Option TypeFault) → IsToldAlike fault
    → (before rest before' rest' : List T) (n : ℕ) (x : T) (whole : Option CheckFault) → rest ≡ x ∷ rest' → before' ≡ before ++ x ∷ []
    → option_map told (first_fault_of size fault before n rest) ≡ whole → option_map told (fault before n x) ≡ None
    → option_map told (first_fault_of size fault before' (told_number (n + size x)) rest') ≡ whole
goes_on size fault alike before rest before' rest' n x whole r b is none =
    rw b
    (list_told size fault alike (before ++ x ∷ []) (told_number (n + size x)) (n + size x) rest' (told_again (n + size x))
    ∙ sym (told_rest (fault before n x) (first_fault_of size fault (before ++ x ∷ []) (n + size x) rest') none)
    ∙ sym (ap (λ ys. option_map told (first_fault_of size fault before n ys)) r) ∙ is)

-- at an item with a fault, its answer is one of the whole
pub stops : {T : Type 0} (size : T → ℕ) (fault : List T → ℕ → T → Option TypeFault) (before rest rest' : List T) (n : ℕ) (x : T)
    (whole : Option CheckFault) (e : CheckFault) → rest ≡ x ∷ rest'
    → option_map told (first_fault_of size fault before n rest) ≡ whole → option_map told (fault before n x) ≡ Some e → whole ≡ Some e
stops size fault before rest rest' n x whole e r is h =
    let now : option_map told (option_or (fault before n x) (first_fault_of size fault (before ++ x ∷ []) (n + size x) rest')) ≡ whole =
    sym (ap (λ ys. option_map told (first_fault_of size fault before n ys)) r) ∙ is in
    sym now ∙ answers_first (fault before n x) (first_fault_of size fault (before ++ x ∷ []) (n + size x) rest') e h

-- the rest of a list, one element on
pub rest_is : {X T : Type 0} (view : X → T) (xs : List X) (i : ℕ) (x : X) → i < length xs → x ≡ get_or xs i x → map view (drop i xs) ≡ view x ∷ map view (drop (i + 1) xs)
rest_is view xs i x in_xs is = ap (map view) (drop_more xs i x in_xs) ∙ ap (λ y. view y ∷ map view (drop (i + 1) xs)) (sym is)

-- what stood before, one element on
pub before_is : {X T : Type 0} (view : X → T) (xs : List X) (i : ℕ) (x : X) → i < length xs → x ≡ get_or xs i x → map view (take (i + 1) xs) ≡ map view (take i xs) ++ view x ∷ []
before_is view xs i x in_xs is =
    ap (map view) (take_more xs i x in_xs) ∙ map-append view (take i xs) (get_or xs i x ∷ []) ∙ ap (λ y. map view (take i xs) ++ view y ∷ []) (sym is)

-- the same of a list that is seen as it is
pub rest_as_is : {X : Type 0} (xs : List X) (i : ℕ) (x : X) → i < length xs → x ≡ get_or xs i x → drop i xs ≡ x ∷ drop (i + 1) xs
rest_as_is xs i x in_xs is = drop_more xs i x in_xs ∙ ap (λ y. y ∷ drop (i + 1) xs) (sym is)

pub before_as_is : {X : Type 0} (xs : List X) (i : ℕ) (x : X) → i < length xs → x ≡ get_or xs i x → take (i + 1) xs ≡ take i xs ++ x ∷ []
before_as_is xs i x in_xs is = take_more xs i x in_xs ∙ ap (λ y. take i xs ++ y ∷ []) (sym is)
