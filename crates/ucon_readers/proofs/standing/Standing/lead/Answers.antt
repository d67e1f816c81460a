use Rattle.std.proofs.Common.{◌≡◌, ◌↔◌, ◌∙◌, ◌⊎◌, ℕ, List, [], None, Some, false, ap, sym, refl, subst}
use Rattle.std.specs.List.{Contains, flat_map}
use Rattle.ucon_links.specs.Dependents.{Dependents, stands_in}
use Rattle.ucon_readers.specs.Joining.{StandsAlone}
use Rattle.ucon_readers.specs.Listing.{ChangesGive, ComesTo, IsKept, Listing, StandsNowhere, readers_in, standing_by}
use Rattle.ucon_collections.specs.Lists.{is_joined, leader_in}
use Rattle.ucon_readers.specs.Lists.{first_in, led_by}
use Rattle.ucon_readers.proofs.Leading.{come_led, led_stands, nowhere_listed, put_first}
use Rattle.ucon_readers.proofs.Listed.{first_alone}
use Rattle.ucon_readers.proofs.Placed.{base_gives, kept_gives_lists, led_there, rest_gives, still_gives}
use Rattle.ucon_readers.proofs.standing.Standing.lead.Goals as goal

-- ---- who comes to no place

pub returns-then-is_empty-clause-alone : goal.returns-then-is_empty-clause-alone
returns-then-is_empty-clause-alone c =
    let s = c.args.self.now in
    record {
      first = first_alone s.lists.members c.args.session (nowhere_listed s.lists.members s.index c.args.session c.requires.kept.led c.requires.nowhere);
      others = λ k apart. refl;
    }

pub returns-then-is_empty-clause-undo : goal.returns-then-is_empty-clause-undo
returns-then-is_empty-clause-undo c = rest_gives c.args.self.now c.requires.kept

-- ---- who comes to some

pub returns-then-is_there-clause-undo : goal.returns-then-is_there-clause-undo
returns-then-is_there-clause-undo c = rest_gives c.args.self.now c.requires.kept

pub returns-then-is_joined-clause-undo : goal.returns-then-is_joined-clause-undo
returns-then-is_joined-clause-undo c = rest_gives c.args.self.now c.requires.kept

pub invariant_of-self : goal.invariant_of-self
invariant_of-self c = led_there c.self.inside.lists.members c.self.inside.index c.make_room.new.index c.self.invariant c.make_room.ensures.there

pub returns-in_err-make_room-clause-undo : goal.returns-in_err-make_room-clause-undo
returns-in_err-make_room-clause-undo c =
    subst (λ (s : Listing). ChangesGive (record { lists = c.self.inside.lists; index = c.make_room.new.index; added = c.self.inside.added }) (readers_in s) (first_in s.lists.members))
    c.self.view_is
    (still_gives (record { lists = c.self.inside.lists; index = c.self.inside.index; added = c.self.inside.added })
    (record { lists = c.self.inside.lists; index = c.make_room.new.index; added = c.self.inside.added }) (subst IsKept (sym c.self.view_is) c.requires.kept)
    (kept_gives_lists c.self.inside.lists (subst IsKept (sym c.self.view_is) c.requires.kept).lists_kept) refl c.make_room.ensures.hidden c.make_room.ensures.stands
    c.make_room.ensures.there)

-- ---- once it is there

unlisted : (c : goal.After-self-1) → leader_in c.self.inside.lists.members c.args.session ≡ None
unlisted c =
    nowhere_listed c.self.inside.lists.members c.self.inside.index c.args.session c.self.invariant
    (subst (λ (s : Listing). StandsNowhere (readers_in s) c.args.session) (sym c.self.view_is) c.requires.nowhere)

comes : (c : goal.After-self-1) → ComesTo (stands_in c.make_room.new.index) (stands_in c.add.new.self) c.args.session c.args.places.now
comes c = put_first (stands_in c.make_room.new.index) (stands_in c.add.new.self) c.args.session c.args.places.now c.add.ensures.at c.add.ensures.elsewhere

pub invariant_of-self-2 : goal.invariant_of-self-2
invariant_of-self-2 c =
    come_led c.self.inside.lists.members c.make_room.new.index c.add.new.self c.args.session c.args.places.now
    (led_there c.self.inside.lists.members c.self.inside.index c.make_room.new.index c.self.invariant c.make_room.ensures.there) (unlisted c) (comes c)

pub returns-clause-comes : goal.returns-clause-comes
returns-clause-comes c =
    let v = c.self.inside.lists.members in
    let unjoined : is_joined v c.args.session ≡ false = sym c.is_joined.ensures ∙ c.if-is_joined.false in
    let led = led_stands v c.make_room.new.index c.add.new.self c.args.session c.args.places.now unjoined (comes c) in
    subst (λ (s : Listing). ComesTo (readers_in s) (standing_by v c.add.new.self) c.args.session c.args.places.now) c.self.view_is
    (λ n place. subst (λ (xs : List ℕ). Contains (standing_by v c.add.new.self place) n ↔ (((n ≡ c.args.session) × Contains c.args.places.now place) ⊎ Contains xs n))
    (ap (flat_map (led_by v)) (c.make_room.ensures.stands place)) (led n place))

pub returns-clause-alone : goal.returns-clause-alone
returns-clause-alone c =
    let v = c.self.inside.lists.members in
    subst (λ (s : Listing). StandsAlone (first_in s.lists.members) (first_in v) c.args.session) c.self.view_is
    (record { first = first_alone v c.args.session (unlisted c); others = λ k apart. refl })

pub returns-clause-undo : goal.returns-clause-undo
returns-clause-undo c =
    let s : Listing = record { lists = c.self.inside.lists; index = c.self.inside.index; added = c.self.inside.added } in
    let kept = subst IsKept (sym c.self.view_is) c.requires.kept in
    let none_hidden : c.make_room.new.index.hidden ≡ [] = c.make_room.ensures.hidden ∙ kept.nobody_hidden in
    subst (λ (x : Listing). ChangesGive (record { lists = c.self.inside.lists; index = c.add.new.self; added = Some c.args.session }) (readers_in x) (first_in x.lists.members))
    c.self.view_is
    (base_gives s (record { lists = c.self.inside.lists; index = c.add.new.self; added = Some c.args.session }) c.make_room.new.index kept
    (kept_gives_lists c.self.inside.lists kept.lists_kept)
    (c.add.ensures.there, c.add.ensures.undone) (ap (λ (i : Dependents). i.hidden) c.add.ensures.undone ∙ none_hidden) none_hidden c.make_room.ensures.stands
    c.make_room.ensures.there)
