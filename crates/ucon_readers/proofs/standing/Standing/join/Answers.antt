use Rattle.std.proofs.Common.{◌≡◌, ◌↔◌, ◌<◌, ◌∙◌, ◌⊎◌, ℕ, true, ap, sym, refl, subst}
use Rattle.std.specs.Prelude.{Option, unwrap_or}
use Rattle.std.specs.List.{Contains}
use Rattle.ucon_links.specs.Dependents.{Dependents, is_there}
use Rattle.ucon_collections.specs.Lists.{Members}
use Rattle.ucon_readers.specs.Joining.{Joins}
use Rattle.ucon_readers.specs.Listing.{AreLed, ChangesGive, IsKept, Listing, StandsNowhere, StandsSomewhere, readers_in, standing_by}
use Rattle.ucon_collections.specs.Lists.{Joins as Moves, leader_in}
use Rattle.ucon_collections.specs.Undoing.{who_in}
use Rattle.ucon_readers.specs.Lists.{first_in, led_by}
use Rattle.ucon_readers.proofs.Founding.{has_come}
use Rattle.ucon_readers.proofs.Leading.{HasCome, joined_like, joined_stands, joins_led, led_leader, nowhere_listed, stands_itself, there_if_stands, whose_list}
use Rattle.ucon_readers.proofs.Outcomes.{ok_then}
use Rattle.ucon_readers.proofs.Placed.{kept_gives_lists, still_gives}
use Rattle.ucon_readers.proofs.standing.Standing.join.Goals as goal

-- the leader that is told for the other leads it, and stands
leads : (v : Members) (i : Dependents) (other leader : ℕ) (told : Option ℕ) → AreLed v i → StandsSomewhere (standing_by v i) other → told ≡ leader_in v other
    → leader ≡ unwrap_or told other → (is_there leader i.places ≡ true) × Contains (led_by v leader) other
leads v i other leader told led somewhere is unwrapped =
    let found = whose_list v i somewhere.0 other somewhere.1 in
    let there = there_if_stands found.0 i.places somewhere.0 found.1 in
    let same : found.0 ≡ leader = sym (led_leader v i led found.0 other there found.2) ∙ ap (λ (o : Option ℕ). unwrap_or o other) (sym is) ∙ sym unwrapped in
    (subst (λ (l : ℕ). is_there l i.places ≡ true) same there, subst (λ (l : ℕ). Contains (led_by v l) other) same found.2)

pub join-requires-clause-alone : goal.join-requires-clause-alone
join-requires-clause-alone c =
    nowhere_listed c.self.inside.lists.members c.self.inside.index c.args.session c.self.invariant
    (subst (λ (s : Listing). StandsNowhere (readers_in s) c.args.session) (sym c.self.view_is) c.requires.nowhere)

pub join-requires-clause-other : goal.join-requires-clause-other
join-requires-clause-other c = λ unjoined same.
    let v = c.self.inside.lists.members in
    let i = c.self.inside.index in
    let nowhere = subst (λ (s : Listing). StandsNowhere (readers_in s) c.args.session) (sym c.self.view_is) c.requires.nowhere in
    let other = subst (λ (s : Listing). StandsSomewhere (readers_in s) c.args.other) (sym c.self.view_is) c.requires.stands in
    let is = leads v i c.args.other c.unwrap_or-leader.result c.leader.result c.self.invariant other c.leader.ensures.leader c.unwrap_or-leader.ensures in
    let somewhere = stands_itself v i c.unwrap_or-leader.result is.0 unjoined in
    nowhere somewhere.0 (subst (Contains (standing_by v i somewhere.0)) (sym same) somewhere.1)

pub join-requires-clause-leads : goal.join-requires-clause-leads
join-requires-clause-leads c = λ unjoined.
    let v = c.self.inside.lists.members in
    let i = c.self.inside.index in
    let other = subst (λ (s : Listing). StandsSomewhere (readers_in s) c.args.other) (sym c.self.view_is) c.requires.stands in
    let is = leads v i c.args.other c.unwrap_or-leader.result c.leader.result c.self.invariant other c.leader.ensures.leader c.unwrap_or-leader.ensures in
    c.self.invariant.alone c.unwrap_or-leader.result is.0 unjoined

nowhere : (c : goal.After-join) → StandsNowhere (standing_by c.self.inside.lists.members c.self.inside.index) c.args.session
nowhere c = subst (λ (s : Listing). StandsNowhere (readers_in s) c.args.session) (sym c.self.view_is) c.requires.nowhere

led : (c : goal.After-join)
    → (is_there c.unwrap_or-leader.result c.self.inside.index.places ≡ true) × Contains (led_by c.self.inside.lists.members c.unwrap_or-leader.result) c.args.other
led c =
    leads c.self.inside.lists.members c.self.inside.index c.args.other c.unwrap_or-leader.result c.leader.result c.self.invariant
    (subst (λ (s : Listing). StandsSomewhere (readers_in s) c.args.other) (sym c.self.view_is) c.requires.stands) c.leader.ensures.leader c.unwrap_or-leader.ensures

come : (c : goal.After-join) → Moves c.self.inside.lists.members c.join.new.self.members c.unwrap_or-leader.result c.args.session
    → HasCome c.self.inside.lists.members c.join.new.self.members c.unwrap_or-leader.result c.args.session
come c moves =
    let v = c.self.inside.lists.members in
    has_come v c.join.new.self.members c.unwrap_or-leader.result c.args.session moves (nowhere_listed v c.self.inside.index c.args.session c.self.invariant (nowhere c))
    (c.self.invariant.alone c.unwrap_or-leader.result (led c).0) (λ l n member. (c.self.invariant.there l n member).1)

pub invariant_of-self : goal.invariant_of-self
invariant_of-self c =
    joins_led c.self.inside.lists.members c.join.new.self.members c.self.inside.index c.unwrap_or-leader.result c.args.session c.self.invariant c.join.ensures.at_most
    (led c).0 (nowhere c)

pub returns-clause-comes : goal.returns-clause-comes
returns-clause-comes c =
    ok_then c.join.result
    (λ moves. subst
    (λ (s : Listing). (n place : ℕ) → Contains (standing_by c.join.new.self.members c.self.inside.index place) n
    ↔ (((n ≡ c.args.session) × Contains (readers_in s place) c.args.other) ⊎ Contains (readers_in s place) n))
    c.self.view_is
    (joined_stands c.self.inside.lists.members c.join.new.self.members c.self.inside.index c.unwrap_or-leader.result c.args.session c.args.other
    c.self.invariant (come c moves) c.join.ensures.at_most moves.joined (led c).0 (led c).1))
    c.join.ensures.joins

pub returns-clause-joins : goal.returns-clause-joins
returns-clause-joins c =
    ok_then c.join.result
    (λ moves. subst
    (λ (s : Listing). first_in s.lists.members c.args.other ≡ c.args.other → c.args.other < c.args.session
    → Joins (first_in s.lists.members) (first_in c.join.new.self.members) c.args.session c.args.other)
    c.self.view_is
    (joined_like c.self.inside.lists.members c.join.new.self.members c.self.inside.index c.unwrap_or-leader.result c.args.session c.args.other
    c.self.invariant (come c moves) c.join.ensures.at_most moves.joined (led c).0 (led c).1))
    c.join.ensures.joins

pub returns-clause-undo : goal.returns-clause-undo
returns-clause-undo c =
    subst (λ (s : Listing). ChangesGive (record { lists = c.join.new.self; index = c.self.inside.index; added = c.self.inside.added }) (readers_in s) (first_in s.lists.members)) c.self.view_is
    (still_gives (record { lists = c.self.inside.lists; index = c.self.inside.index; added = c.self.inside.added })
    (record { lists = c.join.new.self; index = c.self.inside.index; added = c.self.inside.added }) (subst IsKept (sym c.self.view_is) c.requires.kept)
    (c.join.ensures.undo (who_in c.self.inside.lists.members) (kept_gives_lists c.self.inside.lists (subst IsKept (sym c.self.view_is) c.requires.kept).lists_kept)) refl refl
    (λ place. refl) (λ l. refl))
