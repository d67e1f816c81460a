-- Bytes that are read as far as they can be: they are what is asked for, or stop being its beginning behind a front.
use Rattle.std.proofs.Common.{◌≡◌, ℕ, suc, ◌+◌, ◌⊎◌, Bool, true, false, not, List, [], ◌∷◌, ◌++◌, length, Option, Some, None, inl, inr, refl, ap, arith}
use Rattle.std.specs.Prelude.{⊤}
use Rattle.std.specs.List.{list_all, prefix_len}
use Rattle.std.proofs.lemmas.Bool.{and_parts, and_from, cases_Bool}

abbrev pub Refused : (List ℕ → Type 0) → List ℕ → List ℕ → Type 0
Refused P front [] = P front → ⊥
Refused P front (b ∷ rest) = (more : List ℕ) → P (front ++ b ∷ more) → ⊥

-- no reason but the place itself
abbrev pub Never : List ℕ → ℕ → Type 0
Never bs p = ⊥

-- bytes stop behind a front, at a place that counts as itself or for this reason
pub record Found (P : List ℕ → Type 0) (W : List ℕ → ℕ → Type 0) (at : ℕ) (bs : List ℕ) (p : ℕ) : Type 0 where
  pub front : List ℕ
  pub rest : List ℕ
  pub split : bs ≡ front ++ rest
  pub begun : (more : List ℕ) × P (front ++ more)
  pub refused : Refused P front rest
  pub why : (p ≡ at + length front) ⊎ W bs p

-- what is told of bytes by the place where they are bad, if there is one
abbrev pub Told : (List ℕ → Type 0) → (List ℕ → ℕ → Type 0) → ℕ → List ℕ → Option ℕ → Type 0
Told P W at bs None = P bs
Told P W at bs (Some p) = Found P W at bs p

behind_refused : (P Q : List ℕ → Type 0) (b : ℕ) (front rest : List ℕ) → ((l : List ℕ) → Q (b ∷ l) → P l) → Refused P front rest → Refused Q (b ∷ front) rest
behind_refused P Q b front [] back h = λ q. h (back front q)
behind_refused P Q b front (c ∷ rest) back h = λ more q. h more (back (front ++ c ∷ more) q)

why_behind : (W V : List ℕ → ℕ → Type 0) (at b p n : ℕ) (bs : List ℕ) → ((q : ℕ) → W bs q → V (b ∷ bs) q) → (p ≡ at + 1 + n) ⊎ W bs p → (p ≡ at + suc n) ⊎ V (b ∷ bs) p
why_behind W V at b p n bs carry (inl e) = inl (omega (arith, e))
why_behind W V at b p n bs carry (inr w) = inr (carry p w)

-- one byte more at the front
pub told_behind : (P Q : List ℕ → Type 0) (W V : List ℕ → ℕ → Type 0) (at b : ℕ) (bs : List ℕ) (o : Option ℕ)
    → ((l : List ℕ) → P l → Q (b ∷ l)) → ((l : List ℕ) → Q (b ∷ l) → P l) → ((p : ℕ) → W bs p → V (b ∷ bs) p)
    → Told P W (at + 1) bs o → Told Q V at (b ∷ bs) o
told_behind P Q W V at b bs None there back carry h = there bs h
told_behind P Q W V at b bs (Some p) there back carry h = record {
  front = b ∷ h.front;
  rest = h.rest;
  split = ap (λ l. b ∷ l) h.split;
  begun = (h.begun.0, there (h.front ++ h.begun.0) h.begun.1);
  refused = behind_refused P Q b h.front h.rest back h.refused;
  why = why_behind W V at b p (length h.front) bs carry h.why;
}

-- bytes that stop at once
pub stops_here : (P : List ℕ → Type 0) (W : List ℕ → ℕ → Type 0) (at : ℕ) (bs : List ℕ) (p : ℕ) → (more : List ℕ) → P more → Refused P [] bs → (p ≡ at) ⊎ W bs p → Found P W at bs p
stops_here P W at bs p more ok stuck why = record {
  front = [];
  rest = bs;
  split = refl;
  begun = (more, ok);
  refused = stuck;
  why = let here : at + 0 ≡ at = omega arith in rw here why;
}

-- a byte that stands in bytes that all pass
pub all_at : (p : ℕ → Bool) (front : List ℕ) (b : ℕ) (rest : List ℕ) → list_all p (front ++ b ∷ rest) ≡ true → p b ≡ true
all_at p [] b rest h = (and_parts (p b) (list_all p rest) h).0
all_at p (c ∷ front) b rest h = all_at p front b rest (and_parts (p c) (list_all p (front ++ b ∷ rest)) h).1

abbrev pub EndsAt : (ℕ → Bool) → List ℕ → Type 0
EndsAt p [] = ⊤
EndsAt p (b ∷ bs) = p b ≡ false

-- the front of bytes that pass
pub record Run (p : ℕ → Bool) (bs : List ℕ) : Type 0 where
  pub front : List ℕ
  pub rest : List ℕ
  pub split : bs ≡ front ++ rest
  pub all : list_all p front ≡ true
  pub ends : EndsAt p rest
  pub len : prefix_len p bs ≡ length front
  pub same : prefix_len (λ b. not (not (p b))) bs ≡ length front

pub run : (p : ℕ → Bool) (bs : List ℕ) → Run p bs
run p [] = record { front = []; rest = []; split = refl; all = refl; ends = tt; len = refl; same = refl }
run p (b ∷ bs) =
    elim (cases_Bool (p b)) [
      | inl is ↦
          let r = run p bs in
          record {
            front = b ∷ r.front;
            rest = r.rest;
            split = ap (λ l. b ∷ l) r.split;
            all = and_from (p b) (list_all p r.front) is r.all;
            ends = r.ends;
            len = rw is (omega (arith, r.len));
            same = rw is (omega (arith, r.same));
          }
      | inr isnt ↦ record { front = []; rest = b ∷ bs; split = refl; all = refl; ends = isnt; len = rw isnt refl; same = rw isnt refl }
    ]
