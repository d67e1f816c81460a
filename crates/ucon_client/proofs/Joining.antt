-- The clients whose seats were taken back.
use Rattle.std.proofs.Common.{◌≡◌, ◌⊎◌, ℕ, ◌+◌, ◌<◌, List, [], ◌∷◌, ◌++◌, map, refl, sym, subst, inl, inr, ⊎_elim}
use Rattle.std.proofs.lemmas.List.{map-append}
use Rattle.ucon_turn.specs.Lists.{Has, Continues, ByOthers}
use Rattle.ucon_client.proofs.Seats.{has_front, has_last}
use Rattle.ucon_model.specs.History.{History}
use Rattle.ucon_store.specs.declared.event.Event.{Event}
use Rattle.ucon_store.specs.declared.event.Event.TheVariants.{Done}
use Rattle.ucon_store.specs.Events.{number_of}
use Rattle.ucon_client.specs.Events.{EndsAtMark}
use Rattle.ucon_client.specs.Clients.{AreJoined, AreRight, AreRising, Replies, Served}
use Rattle.ucon_base.specs.Elements.{Each, each_append, each_both, each_map}
use Rattle.ucon_client.proofs.Listing.{ends_done}
use Rattle.ucon_client.proofs.OneClient.{others_change_nothing}

pub begins_joined : (says : Replies) (G : History) → AreJoined says G (map Done G) [] []
begins_joined says G = record { ends = ends_done G; right = tt; rising = tt; back = tt; known = tt }

-- the number of a client
abbrev pub number : Served → ℕ
number c = c.number

rising-push : (clients : List Served) (c : Served) → AreRising (map number clients) → Each (λ d. d.number < c.number) clients → AreRising (map number (clients ++ c ∷ []))
rising-push [] c up below = (tt, tt)
rising-push (d ∷ clients) c up below = (
  subst (Each (λ n. d.number < n)) (sym (map-append number clients (c ∷ []))) (each_append (λ n. d.number < n) (map number clients) (c.number ∷ []) up.0 (below.0, tt)),
  rising-push clients c up.1 below.1,
)

below_last : (x : ℕ) (xs : List ℕ) (n : ℕ) (ys : List ℕ) → Each (λ m. x < m) (xs ++ n ∷ ys) → x < n
below_last x [] n ys h = h.0
below_last x (y ∷ xs) n ys h = below_last x xs n ys h.1

-- the numbers before one of those that rise are below it
pub rising_below : (xs : List ℕ) (n : ℕ) (ys : List ℕ) → AreRising (xs ++ n ∷ ys) → Each (λ m. m < n) xs
rising_below [] n ys up = tt
rising_below (x ∷ xs) n ys up = (below_last x xs n ys up.0, rising_below xs n ys up.1)

pub stays_joined : (says : Replies) (G : History) (seen own now : List Event) (taken : List ℕ) (clients : List Served) (c : Served)
    → AreJoined says G seen taken clients → AreRight says c.number G own c.told → Each (λ d. d.number < c.number) clients
    → (now ≡ seen) ⊎ (now ≡ own) → Continues (ByOthers number_of 0 taken) seen now → Continues (ByOthers number_of (c.number + 1) []) own now
    → AreJoined says G now ((c.number + 1) ∷ taken) (clients ++ c ∷ [])
stays_joined says G seen own now taken clients c j r below longer ours theirs =
    let ends : EndsAtMark now = ⊎_elim
    (λ (e : now ≡ seen). subst EndsAtMark (sym e) j.ends)
    (λ (e : now ≡ own). subst EndsAtMark (sym e) r.ends) longer in
    let seat : Served → ℕ = λ d. d.number + 1 in
    let numbers : map seat (clients ++ c ∷ []) ≡ map seat clients ++ ((c.number + 1) ∷ []) = map-append seat clients (c ∷ []) in
    record {
      ends = ends;
      right = each_append (λ d. AreRight says d.number G now d.told) clients (c ∷ [])
          (each_both (λ d. AreRight says d.number G seen d.told) (λ d. Has taken (d.number + 1)) (λ d. AreRight says d.number G now d.told)
          (λ d was back. others_change_nothing says d.number G seen now d.told 0 taken was (inr back) ours ends) clients j.right j.back)
          (others_change_nothing says c.number G own now c.told (c.number + 1) [] r (inl refl) theirs ends, tt);
      rising = rising-push clients c j.rising below;
      back = each_append (λ d. Has ((c.number + 1) ∷ taken) (d.number + 1)) clients (c ∷ [])
          (each_map (λ d. Has taken (d.number + 1)) (λ d. Has ((c.number + 1) ∷ taken) (d.number + 1)) (λ d back. inr back) clients j.back)
          (inl refl, tt);
      known = subst (λ l. Each (Has l) ((c.number + 1) ∷ taken)) (sym numbers) (
        has_last (map seat clients) (c.number + 1),
        each_map (Has (map seat clients)) (Has (map seat clients ++ ((c.number + 1) ∷ []))) (λ k h. has_front (map seat clients) ((c.number + 1) ∷ []) k h) taken j.known,
      );
    }
