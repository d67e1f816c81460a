use Rattle.std.proofs.Common.{◌↔◌, ℕ, List, None, ap, sym, refl, subst}
use Rattle.std.specs.List.{Contains}
use Rattle.ucon_links.specs.Dependents.{Dependents, stands_in}
use Rattle.ucon_collections.specs.Lists.{Members, is_joined}
use Rattle.ucon_readers.specs.Listing.{Listing, readers_in}
use Rattle.ucon_readers.specs.Lists.{led_by, members_in}
use Rattle.ucon_readers.proofs.Leading.{led_like, stands_by, there_like, whose_list}
use Rattle.ucon_readers.proofs.standing.Standing.keep.Goals as goal

still : (c : goal.After-self-1) → (l place : ℕ) → Contains (stands_in c.self.inside.index place) l → Contains (stands_in c.forget_hidden.new.self place) l
still c l place stands = subst (λ (xs : List ℕ). Contains xs l) (sym (c.forget_hidden.ensures.stands place)) stands

were : (c : goal.After-self-1) → (l place : ℕ) → Contains (stands_in c.forget_hidden.new.self place) l → Contains (stands_in c.self.inside.index place) l
were c l place stands = subst (λ (xs : List ℕ). Contains xs l) (c.forget_hidden.ensures.stands place) stands

-- who is in a list is in it still
same : (c : goal.After-self-1) → (l n : ℕ) → Contains (led_by c.keep.new.self.members l) n ↔ Contains (led_by c.self.inside.lists.members l) n
same c l n =
    subst (λ (w : Members). Contains (led_by w l) n ↔ Contains (led_by c.self.inside.lists.members l) n) (sym c.keep.ensures.members) (λ has. has, λ has. has)

pub invariant_of-self : goal.invariant_of-self
invariant_of-self c =
    let s = c.self.inside in
    let j = c.forget_hidden.new.self in
    led_like s.lists.members c.keep.new.self.members s.index j c.self.invariant (λ l n has. subst (λ (w : Members). Contains (members_in w l) n) c.keep.ensures.members has)
    (λ l. ap (λ (w : Members). is_joined w l) c.keep.ensures.members)
    (λ l n member. there_like s.index j (still c) l) (there_like j s.index (were c))

pub returns-clause-read : goal.returns-clause-read
returns-clause-read c =
    let s = c.self.inside in
    let v = s.lists.members in
    let w = c.keep.new.self.members in
    let i = s.index in
    let j = c.forget_hidden.new.self in
    λ n place. subst (λ (x : Listing). Contains (readers_in (record { lists = c.keep.new.self; index = j; added = None }) place) n ↔ Contains (readers_in x place) n) c.self.view_is (
      λ has. (let at = whose_list w j place n has in stands_by v i place at.0 n (were c at.0 place at.1) ((same c at.0 n).0 at.2)),
      λ has. (let at = whose_list v i place n has in stands_by w j place at.0 n (still c at.0 place at.1) ((same c at.0 n).1 at.2)),
    )

pub returns-clause-kept : goal.returns-clause-kept
returns-clause-kept c = record {
  led = invariant_of-self c;
  lists_kept = c.keep.ensures.kept;
  nobody_hidden = ap (λ (v : Dependents). v.hidden) c.forget_hidden.ensures.forgotten;
  none_added = refl;
}
