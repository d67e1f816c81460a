-- Parts of a list under rising places, put by their places, are the whole list.
use Rattle.std.proofs.Common.{◌≡◌, ℕ, ◌+◌, ◌<◌, ◌≤◌, Bool, true, false, true≢false, List, [], ◌∷◌, ◌++◌, map, length, refl, ap, ◌∙◌, arith}
use Rattle.std.specs.Prelude.{◌||◌, if◌then◌else◌, ⊤}
use Rattle.std.specs.List.{filter}
use Rattle.std.proofs.lemmas.Bool.{le-leb, lt-leb}
use Rattle.ucon_model.specs.declared.command.Entry.{Entry}
use Rattle.ucon_model.specs.History.{History}
use Rattle.ucon_model.specs.LegalRun.{AreNumberedFrom, put_by_place, by_place}
use Rattle.ucon_client.specs.Clients.{numbered_from}
use Rattle.ucon_base.specs.Elements.{Each, each_filter}

-- all places lie above this one
abbrev IsBelow : ℕ → List (ℕ × Entry) → Type 0
IsBelow n = Each (λ x. n < x.0)

abbrev AreRising : List (ℕ × Entry) → Type 0
AreRising [] = ⊤
AreRising (x ∷ xs) = IsBelow x.0 xs × AreRising xs

-- ---- put by their places

abbrev pub put_all : List (ℕ × Entry) → List (ℕ × Entry) → List (ℕ × Entry)
put_all [] ys = ys
put_all (x ∷ xs) ys = put_by_place x (put_all xs ys)

pub by_place-append : (xs ys : List (ℕ × Entry)) → by_place (xs ++ ys) ≡ put_all xs (by_place ys)
by_place-append [] ys = refl
by_place-append (x ∷ xs) ys = ap (put_by_place x) (by_place-append xs ys)

put_first : (x : ℕ × Entry) (ys : List (ℕ × Entry)) → IsBelow x.0 ys → put_by_place x ys ≡ x ∷ ys
put_first x [] h = refl
put_first x (y ∷ ys) h = rw (le-leb x.0 y.0 (omega (arith, h.0)))

put_behind : (x y : ℕ × Entry) (ys : List (ℕ × Entry)) → y.0 < x.0 → put_by_place x (y ∷ ys) ≡ y ∷ put_by_place x ys
put_behind x y ys h = rw (lt-leb x.0 y.0 h)

put_all-behind : (y : ℕ × Entry) (xs ys : List (ℕ × Entry)) → IsBelow y.0 xs → put_all xs (y ∷ ys) ≡ y ∷ put_all xs ys
put_all-behind y [] ys h = refl
put_all-behind y (x ∷ xs) ys h = ap (put_by_place x) (put_all-behind y xs ys h.1) ∙ put_behind x y (put_all xs ys) h.0

-- ---- parts of a rising list

joined_by : (a b : Bool) (x : ℕ × Entry) (ps qs rs : List (ℕ × Entry)) → (a ≡ true → b ≡ false) → IsBelow x.0 ps → IsBelow x.0 rs → put_all ps qs ≡ rs
    → put_all (if a then x ∷ ps else ps) (if b then x ∷ qs else qs) ≡ (if a || b then x ∷ rs else rs)
joined_by true true x ps qs rs apart p r e = absurd (true≢false (apart refl))
joined_by true false x ps qs rs apart p r e = ap (put_by_place x) e ∙ put_first x rs r
joined_by false true x ps qs rs apart p r e = put_all-behind x ps qs p ∙ ap (λ l. x ∷ l) e
joined_by false false x ps qs rs apart p r e = e

joined : (p q : ℕ × Entry → Bool) (xs : List (ℕ × Entry)) → ((x : ℕ × Entry) → p x ≡ true → q x ≡ false) → AreRising xs
    → put_all (filter p xs) (filter q xs) ≡ filter (λ x. p x || q x) xs
joined p q [] apart up = refl
joined p q (x ∷ xs) apart up =
    joined_by (p x) (q x) x (filter p xs) (filter q xs) (filter (λ y. p y || q y) xs) (apart x)
    (each_filter (λ y. x.0 < y.0) p xs up.0) (each_filter (λ y. x.0 < y.0) (λ y. p y || q y) xs up.0) (joined p q xs apart up.1)

-- ---- numbered entries

below_numbered : (n m : ℕ) (entries : History) → n ≤ m → IsBelow n (numbered_from m entries)
below_numbered n m [] le = tt
below_numbered n m (e ∷ entries) le = (omega arith, below_numbered n (m + 1) entries (omega arith))

rising_numbered : (n : ℕ) (entries : History) → AreRising (numbered_from n entries)
rising_numbered n [] = tt
rising_numbered n (e ∷ entries) = (below_numbered (n + 1) (n + 1) entries (omega arith), rising_numbered (n + 1) entries)

pub are_numbered : (n : ℕ) (entries : History) → AreNumberedFrom n (numbered_from n entries)
are_numbered n [] = tt
are_numbered n (e ∷ entries) = (refl, are_numbered (n + 1) entries)

pub numbered_entries : (n : ℕ) (entries : History) → map (λ x. x.1) (numbered_from n entries) ≡ entries
numbered_entries n [] = refl
numbered_entries n (e ∷ entries) = ap (λ l. e ∷ l) (numbered_entries (n + 1) entries)

pub numbered_append : (n : ℕ) (xs ys : History) → numbered_from n (xs ++ ys) ≡ numbered_from n xs ++ numbered_from (n + length xs) ys
numbered_append n [] ys = let e : n ≡ n + length {A = Entry} [] = omega arith in ap (λ k. numbered_from k ys) e
numbered_append n (x ∷ xs) ys =
    let e : n + 1 + length xs ≡ n + length (x ∷ xs) = omega arith in
    ap (λ l. (n + 1, x) ∷ l) (numbered_append (n + 1) xs ys ∙ ap (λ k. numbered_from (n + 1) xs ++ numbered_from k ys) e)

pub joined_numbered : (p q : ℕ × Entry → Bool) (n : ℕ) (entries : History) → ((x : ℕ × Entry) → p x ≡ true → q x ≡ false)
    → put_all (filter p (numbered_from n entries)) (filter q (numbered_from n entries)) ≡ filter (λ x. p x || q x) (numbered_from n entries)
joined_numbered p q n entries apart = joined p q (numbered_from n entries) apart (rising_numbered n entries)
