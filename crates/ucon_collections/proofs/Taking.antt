-- What is still in the queue, where the first is taken off.
use Rattle.std.proofs.Common.{◌≡◌, ◌≢◌, ◌⊎◌, inl, inr, ℕ, zero, suc, ◌<◌, ℤ, List, ◌∷◌, ◌++◌, [], Option, Some, None, nat_eq, if◌then◌else◌, length, get_or, sym, ap, ◌∙◌, arith}
use Rattle.std.proofs.lemmas.Bool.Decides.{nat_tests}
use Rattle.std.proofs.lemmas.List.Elements.{Contains-append_left, Contains-append_right, Contains-push, Contains-push_cases}
use Rattle.std.proofs.lemmas.List.Sorted.{Contains-permutation, length_permutation}
use Rattle.std.specs.List.{Contains, slice_get}
use Rattle.std.specs.List.Sorted.{IsPermutation}
use Rattle.ucon_collections.specs.Deadlines.{AreAlike, Deadlines, Gives, deadline_of}
use Rattle.ucon_collections.specs.Entries.{Entry, Queued, entry}
use Rattle.ucon_collections.specs.Sound.{IsSound}

-- e was taken off a queue
pub record Takes (e : Entry) (old new : Queued) : Type 0 where
  pub taken : new.taken ≡ old.taken ++ e ∷ []
  pub rest : IsPermutation old.waiting (e ∷ new.waiting)

-- it is so where room was made before
pub takes_first : (e : Entry) (old roomy new : Queued) → roomy.waiting ≡ old.waiting → roomy.taken ≡ old.taken → slice_get old.waiting 0 ≡ Some e
    → ((x : Entry) → slice_get roomy.waiting 0 ≡ Some x → new.taken ≡ roomy.taken ++ x ∷ [])
    → ((x : Entry) → slice_get roomy.waiting 0 ≡ Some x → IsPermutation roomy.waiting (x ∷ new.waiting)) → Takes e old new
takes_first e old roomy new waiting taken is moved rest =
    let first = ap (λ es. slice_get es 0) waiting ∙ is in
    record { taken = rw (← taken) (moved e first); rest = rw (← waiting) (rest e first) }

pub shorter : (e : Entry) (old new : Queued) → Takes e old new → length new.waiting < length old.waiting
shorter e old new t = omega (arith, length_permutation old.waiting (e ∷ new.waiting) t.rest)

first_or_rest : (e : Entry) (es : List Entry) (x : Entry) (k : ℕ) → k < length (e ∷ es) → get_or (e ∷ es) k x ≡ x → (e ≡ x) ⊎ Contains es x
first_or_rest e es x zero h is = inl is
first_or_rest e es x (suc k) h is = inr (k, omega arith, is)

module _ (e : Entry) (old new : Queued) (t : Takes e old new) where
  here : (x : Entry) → Contains old.waiting x → (e ≡ x) ⊎ Contains new.waiting x
  here x h =
      let found = Contains-permutation old.waiting (e ∷ new.waiting) x t.rest h in
      first_or_rest e new.waiting x found.0 found.1 found.2

  still_waiting : (x : Entry) → e ≢ x → Contains old.waiting x → Contains new.waiting x
  still_waiting x other h = elim (here x h) [ inl is ↦ absurd (other is) | inr found ↦ found ]

  still_there : (x : Entry) → Contains old.waiting x ⊎ Contains old.taken x → Contains new.waiting x ⊎ Contains new.taken x
  still_there x (inl h) = elim (here x h) [ inl is ↦ inr (rw (t.taken, ← is) (Contains-push old.taken e)) | inr found ↦ inl found ]
  still_there x (inr h) = inr (rw t.taken (Contains-append_left old.taken (e ∷ []) x h))

-- the newest that was taken off is given back
pub given_back : (old new taken left : List Entry) (e : Entry) → taken ≡ left ++ e ∷ [] → IsPermutation (e ∷ old) new → (x : Entry) → Contains old x ⊎ Contains taken x → Contains new x ⊎ Contains left x
given_back old new taken left e is moved x (inl h) = inl (Contains-permutation (e ∷ old) new x moved (Contains-append_right (e ∷ []) old x h))
given_back old new taken left e is moved x (inr h) =
    let cases = Contains-push_cases left e x (rw is at h) in
    elim cases [ inl found ↦ inr found | inr same ↦ inl (Contains-permutation (e ∷ old) new x moved (zero, omega arith, same)) ]

-- a session that still has a deadline isn't the one whose was taken away
still_has : (m n : ℕ) (own new : Option ℤ) (x : ℤ) → new ≡ (if nat_eq m n then None else own) → new ≡ Some x → (n ≢ m) × (own ≡ Some x)
still_has m n own new x is has = (λ same. grind (arith, nat_tests), grind (arith, nat_tests))

session_of : (d x : ℤ) (n m : ℕ) → entry d n ≡ entry x m → n ≡ m
session_of d x n m same = ap (λ (e : Entry). e.0.1) same

deadline_in : (d x : ℤ) (n m : ℕ) → entry d n ≡ entry x m → d ≡ x
deadline_in d x n m same = ap (λ (e : Entry). e.0.0) same

-- what changes no deadline and no entry
pub kept_sound : (owned after : Deadlines) (old new : Queued) → IsSound owned old → AreAlike owned.now after.now → AreAlike owned.opening after.opening → new.waiting ≡ old.waiting → new.taken ≡ old.taken → IsSound after new
kept_sound owned after old new s now opening waiting taken = record {
  now = λ m x is. rw waiting (s.now m x (sym (now m) ∙ is));
  opening = λ m x is. rw (waiting, taken) (s.opening m x (sym (opening m) ∙ is));
}

-- the entry of a session that then has no deadline
pub due_taken : (owned after : Deadlines) (old new : Queued) (d : ℤ) (n : ℕ) → IsSound owned old → Takes (entry d n) old new → Gives owned.now after.now n None → AreAlike owned.opening after.opening → IsSound after new
due_taken owned after old new d n s t gives alike = record {
  now = λ m x is.
      let kept = still_has m n (deadline_of owned.now m) (deadline_of after.now m) x (gives m) is in
      still_waiting (entry d n) old new t (entry x m) (λ same. kept.0 (session_of d x n m same)) (s.now m x kept.1);
  opening = λ m x is. still_there (entry d n) old new t (entry x m) (s.opening m x (sym (alike m) ∙ is));
}

-- an entry that is nobody's
pub nobodys_taken : (owned : Deadlines) (old new : Queued) (d : ℤ) (n : ℕ) → IsSound owned old → Takes (entry d n) old new → deadline_of owned.now n ≢ Some d → IsSound owned new
nobodys_taken owned old new d n s t other = record {
  now = λ m x is.
      still_waiting (entry d n) old new t (entry x m) (λ same. other (ap (deadline_of owned.now) (session_of d x n m same) ∙ is ∙ ap Some (sym (deadline_in d x n m same)))) (s.now m x is);
  opening = λ m x is. still_there (entry d n) old new t (entry x m) (s.opening m x is);
}
