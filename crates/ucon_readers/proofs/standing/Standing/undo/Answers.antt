use Rattle.std.proofs.Common.{◌≡◌, ◌∙◌, ℕ, List, [], sym, refl, subst}
use Rattle.ucon_links.specs.Dependents.{Dependents}
use Rattle.ucon_collections.specs.Undoing.{who_in}
use Rattle.ucon_readers.specs.Listing.{AreLed, ChangesGive, Listing, TakingOutGives, standing_by}
use Rattle.ucon_readers.proofs.Leading.{are_led_alike, standing_alike}
use Rattle.ucon_readers.proofs.Listed.{first_alike}
use Rattle.ucon_readers.proofs.standing.Standing.undo.Goals as goal

-- what undoing gives
mine : (c : goal.After-self-1) (standing : ℕ → List ℕ) (first : ℕ → ℕ) → ChangesGive c.args.self.now standing first
    → ChangesGive (record { lists = c.self.inside.lists; index = c.self.inside.index; added = c.self.inside.added }) standing first
mine c standing first gives = subst (λ (s : Listing). ChangesGive s standing first) (sym c.self.view_is) gives

who_back : (c : goal.After-self-1) (standing : ℕ → List ℕ) (first : ℕ → ℕ) (gives : ChangesGive c.args.self.now standing first)
    → who_in c.undo.new.self.members ≡ who_in (mine c standing first gives).before
who_back c standing first gives = let own = mine c standing first gives in c.undo.ensures.back (who_in own.before) own.lists

index_back : (c : goal.After-self-1) (standing : ℕ → List ℕ) (first : ℕ → ℕ) (gives : ChangesGive c.args.self.now standing first)
    → c.take_out.new.index ≡ (mine c standing first gives).base
index_back c standing first gives =
    let own = mine c standing first gives in
    c.take_out.ensures own.base
    (subst (λ (i : Dependents). TakingOutGives c.self.inside.added i own.base) (sym (c.unhide_everybody.ensures own.unhidden own.unhiding)) own.taking_out)

pub invariant_of-self : goal.invariant_of-self
invariant_of-self c =
    let own = mine c c.requires.0 c.requires.1 c.requires.2 in
    subst (AreLed c.undo.new.self.members) (sym (index_back c c.requires.0 c.requires.1 c.requires.2))
    (are_led_alike own.before c.undo.new.self.members own.base (who_back c c.requires.0 c.requires.1 c.requires.2) own.holds.led)

pub returns-clause-read : goal.returns-clause-read
returns-clause-read c = λ standing first gives place.
    let own = mine c standing first gives in
    subst (λ (i : Dependents). standing_by c.undo.new.self.members i place ≡ standing place) (sym (index_back c standing first gives))
    (standing_alike own.before c.undo.new.self.members own.base (who_back c standing first gives) place ∙ own.holds.stands place)

pub returns-clause-firsts : goal.returns-clause-firsts
returns-clause-firsts c = λ standing first gives n.
    let own = mine c standing first gives in
    first_alike own.before c.undo.new.self.members (who_back c standing first gives) n ∙ own.holds.firsts n

pub returns-clause-kept : goal.returns-clause-kept
returns-clause-kept c = record {
  led = invariant_of-self c;
  lists_kept = c.undo.ensures.kept;
  nobody_hidden = subst (λ (i : Dependents). i.hidden ≡ []) (sym (index_back c c.requires.0 c.requires.1 c.requires.2))
      (mine c c.requires.0 c.requires.1 c.requires.2).holds.nobody_hidden;
  none_added = refl;
}
