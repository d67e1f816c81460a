-- An index that grows keeps who stands there; and what undoing gives.
use Rattle.std.proofs.Common.{◌≡◌, ℕ, zero, suc, List, [], ◌∷◌, ◌++◌, length, false, refl, sym, ap, ◌∙◌, subst, replicate, ◌||◌}
use Rattle.std.specs.Prelude.{Option, None, Some}
use Rattle.std.specs.List.{flat_map}
use Rattle.ucon_links.specs.Dependents.{Place, Dependents, UnhideGives, empty_place, hide, place_at, stands_in, has_session, is_there}
use Rattle.ucon_collections.specs.Lists.{Members}
use Rattle.ucon_collections.specs.Undoing.{CanUndoAll, IsKept as AreKept, Listed, UndoGives as ListsGive, Who, all_undone, who_in}
use Rattle.ucon_collections.specs.declared.lists.Change.{Change}
use Rattle.ucon_readers.specs.Listing.{AreLed, ChangesGive, IsKept, Listing, TakingOutGives, readers_in}
use Rattle.ucon_readers.specs.Lists.{first_in, led_by}
use Rattle.ucon_readers.specs.Readers.{IsKept as IsKeptSo, UndoGives, by_changes, by_replaced, first_of, readers_at}
use Rattle.ucon_readers.specs.declared.readers.Readers.{Readers}

-- ---- growth

place_in_empties : (n i : ℕ) → place_at (replicate n empty_place) i ≡ empty_place
place_in_empties zero i = refl
place_in_empties (suc n) zero = refl
place_in_empties (suc n) (suc i) = place_in_empties n i

pub place_at-grown : (places : List Place) (n i : ℕ) → place_at (places ++ replicate n empty_place) i ≡ place_at places i
place_at-grown [] n i = place_in_empties n i
place_at-grown (place ∷ rest) n zero = refl
place_at-grown (place ∷ rest) n (suc i) = place_at-grown rest n i

there_in_empties : (session n : ℕ) → is_there session (replicate n empty_place) ≡ false
there_in_empties session zero = refl
there_in_empties session (suc n) = there_in_empties session n

pub is_there-grown : (session : ℕ) (places : List Place) (n : ℕ) → is_there session (places ++ replicate n empty_place) ≡ is_there session places
is_there-grown session [] n = there_in_empties session n
is_there-grown session (place ∷ rest) n = ap (λ b. has_session session place.listed || b) (is_there-grown session rest n)

-- ---- undoing

-- where there is nothing to undo, undoing gives the lists that are there
pub kept_gives_lists : (l : Listed) → AreKept l → ListsGive l (who_in l.members)
kept_gives_lists l kept = record {
  can = subst (λ (cs : List Change). CanUndoAll cs (who_in l.members) (length l.members.rows)) (sym kept) tt;
  back = ap (λ (cs : List Change). all_undone cs (who_in l.members)) kept;
}

-- whoever is there in one index is there in another
pub led_there : (v : Members) (i j : Dependents) → AreLed v i → ((l : ℕ) → is_there l j.places ≡ is_there l i.places) → AreLed v j
led_there v i j led there = record {
  there = λ l n member. (let was = led.there l n member in (there l ∙ was.0, was.1));
  alone = λ l is unjoined. led.alone l (sym (there l) ∙ is) unjoined;
}

-- where an index is as it was, or has one more leader, undoing gives what stood there before
pub base_gives : (s s' : Listing) (base : Dependents) → IsKept s → ListsGive s'.lists (who_in s.lists.members) → TakingOutGives s'.added s'.index base → s'.index.hidden ≡ []
    → base.hidden ≡ [] → ((place : ℕ) → stands_in base place ≡ stands_in s.index place) → ((l : ℕ) → is_there l base.places ≡ is_there l s.index.places)
    → ChangesGive s' (readers_in s) (first_in s.lists.members)
base_gives s s' base kept lists taking_out none_hidden base_hidden stands there = record {
  before = s.lists.members;
  unhidden = s'.index;
  base = base;
  lists = lists;
  unhiding = subst (λ hidden. UnhideGives (length hidden) s'.index s'.index) (sym none_hidden) refl;
  taking_out = taking_out;
  holds = record {
    stands = λ place. ap (flat_map (led_by s.lists.members)) (stands place);
    firsts = λ n. refl;
    led = led_there s.lists.members s.index base kept.led there;
    nobody_hidden = base_hidden;
  };
}

none_out : (added : Option ℕ) (index base : Dependents) → added ≡ None → index ≡ base → TakingOutGives added index base
none_out added index base none same = subst (λ (o : Option ℕ). TakingOutGives o index base) (sym none) same

-- so where nobody was added
pub still_gives : (s s' : Listing) → IsKept s → ListsGive s'.lists (who_in s.lists.members) → s'.added ≡ s.added → s'.index.hidden ≡ s.index.hidden
    → ((place : ℕ) → stands_in s'.index place ≡ stands_in s.index place) → ((l : ℕ) → is_there l s'.index.places ≡ is_there l s.index.places)
    → ChangesGive s' (readers_in s) (first_in s.lists.members)
still_gives s s' kept lists added hidden stands there =
    base_gives s s' s'.index kept lists (none_out s'.added s'.index s'.index (added ∙ kept.none_added) refl) (hidden ∙ kept.nobody_hidden) (hidden ∙ kept.nobody_hidden) stands there

-- where there is nothing to undo, undoing gives what is there
pub rest_gives : (s : Listing) → IsKept s → ChangesGive s (readers_in s) (first_in s.lists.members)
rest_gives s kept = still_gives s s kept (kept_gives_lists s.lists kept.lists_kept) refl refl (λ place. refl) (λ l. refl)

pub kept_gives : (r : Readers) → IsKeptSo r → UndoGives r (readers_at r) (first_of r)
kept_gives r kept = by_changes kept.none_replaced (rest_gives r.standing kept.at_rest)

-- where a leader is hidden, undoing gives what it gave before
pub hidden_gives : (s s' : Listing) (leader : ℕ) (standing : ℕ → List ℕ) (first : ℕ → ℕ) → s'.added ≡ s.added → s'.index ≡ hide s.index leader
    → UnhideGives 1 s'.index s.index → ((before : Who) → ListsGive s.lists before → ListsGive s'.lists before) → ChangesGive s standing first
    → ChangesGive s' standing first
hidden_gives s s' leader standing first added hidden back lists gives = record {
  before = gives.before;
  unhidden = gives.unhidden;
  base = gives.base;
  lists = lists (who_in gives.before) gives.lists;
  unhiding = subst (λ (hs : List ℕ). UnhideGives (length hs) s'.index gives.unhidden) (sym (ap (λ (v : Dependents). v.hidden) hidden))
      (back.0, subst (λ (v : Dependents). UnhideGives (length s.index.hidden) v gives.unhidden) (sym back.1) gives.unhiding);
  taking_out = subst (λ added. TakingOutGives added gives.unhidden gives.base) (sym added) gives.taking_out;
  holds = gives.holds;
}

-- so where none is
pub listed_gives : (s s' : Listing) (standing : ℕ → List ℕ) (first : ℕ → ℕ) → s'.added ≡ s.added → s'.index ≡ s.index
    → ((before : Who) → ListsGive s.lists before → ListsGive s'.lists before) → ChangesGive s standing first → ChangesGive s' standing first
listed_gives s s' standing first added index lists gives = record {
  before = gives.before;
  unhidden = gives.unhidden;
  base = gives.base;
  lists = lists (who_in gives.before) gives.lists;
  unhiding = subst (λ (v : Dependents). UnhideGives (length v.hidden) v gives.unhidden) (sym index) gives.unhiding;
  taking_out = subst (λ added. TakingOutGives added gives.unhidden gives.base) (sym added) gives.taking_out;
  holds = gives.holds;
}

-- where nothing was replaced, the changes are undone
pub changes_give : (r : Readers) (standing : ℕ → List ℕ) (first : ℕ → ℕ) → r.replaced ≡ None → UndoGives r standing first → ChangesGive r.standing standing first
changes_give r standing first none (by_changes none_replaced gives) = gives
changes_give r standing first none (by_replaced before is rest holds) = absurd (let no : None ≡ Some before = sym none ∙ is in cc)

-- where nothing is replaced, and undoing the changes gives what it gave
pub undo_more : (r r' : Readers) (standing : ℕ → List ℕ) (first : ℕ → ℕ) → r'.replaced ≡ r.replaced
    → (ChangesGive r.standing standing first → ChangesGive r'.standing standing first) → UndoGives r standing first → UndoGives r' standing first
undo_more r r' standing first replaced more (by_changes none gives) = by_changes (replaced ∙ none) (more gives)
undo_more r r' standing first replaced more (by_replaced before is rest holds) = by_replaced before (replaced ∙ is) rest holds

-- where nothing of it changed
pub undo_still : (r r' : Readers) (standing : ℕ → List ℕ) (first : ℕ → ℕ) → r'.standing ≡ r.standing → r'.replaced ≡ r.replaced → UndoGives r standing first
    → UndoGives r' standing first
undo_still r r' standing first same replaced gives =
    undo_more r r' standing first replaced (λ changes. subst (λ (s : Listing). ChangesGive s standing first) (sym same) changes) gives
