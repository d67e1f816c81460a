use Rattle.std.proofs.Common.{◌≡◌, ◌∙◌, ap, arith, is_some, length, subst, sym, true, List}
use Rattle.ucon_links.specs.Lists.{list_at}
use Rattle.ucon_links.specs.Lists as links
use Rattle.ucon_links.specs.Lists.{Item, IsAbsent, IsDistinct}
use Rattle.ucon_links.specs.Dependents.{Dependents, is_there, stands_in, remove}
use Rattle.ucon_links.specs.Tables.{sessions_of}
use Rattle.ucon_links.proofs.IndexHiding.{next_item}
use Rattle.ucon_links.proofs.Removing.{IsRemoving, removing_begins, removing_goes_on, removing_ends, one_removed_less}
use Rattle.ucon_links.proofs.Listed.{item_listed, item_owner, node_is, node_listed}
use Rattle.ucon_links.proofs.Stack.{there-not_hidden}
use Rattle.ucon_links.proofs.WhoStands.{stands_once, remove-stands}
use Rattle.ucon_links.proofs.index.Index.remove.Goals as goal

pub loop-item-init : goal.loop-item-init
loop-item-init c = removing_begins c.args.session c.self.inside.places c.self.inside.sessions c.self.invariant (subst (λ (v : Dependents). is_there c.args.session v.places ≡ true) (sym c.self.view_is) c.requires)

pub owner-requires : goal.owner-requires
owner-requires c =
    let work = c.loop-item.invariant in
    let next = next_item c.args.session c.in-Some.item c.loop-item.self-inside.places c.loop-item.self-inside.sessions work.paired work.within c.in-Some.ensures.first in
    ap is_some (item_owner c.nodes_stand_where_listed.ensures c.args.session c.in-Some.item c.loop-item.self-inside.places c.loop-item.self-inside.sessions work.within next c.in-Some.ensures.distinct)

pub unlink-requires : goal.unlink-requires
unlink-requires c =
    let work = c.loop-item.invariant in
    let next = next_item c.args.session c.in-Some.item c.loop-item.self-inside.places c.loop-item.self-inside.sessions work.paired work.within c.in-Some.ensures.first in
    node_listed c.nodes_stand_where_listed.ensures c.args.session c.in-Some.item c.loop-item.self-inside.places c.loop-item.self-inside.sessions work.within next c.in-Some.ensures.distinct c.owner.result c.owner.ensures.owner

pub unlink-requires-in-Some : goal.unlink-requires-in-Some
unlink-requires-in-Some c =
    let work = c.loop-item.invariant in
    let next = next_item c.args.session c.in-Some.item c.loop-item.self-inside.places c.loop-item.self-inside.sessions work.paired work.within c.in-Some.ensures.first in
    item_listed c.nodes_stand_where_listed.ensures c.args.session c.in-Some.item c.loop-item.self-inside.places c.loop-item.self-inside.sessions work.within next c.in-Some.ensures.distinct

pub loop-item-smaller : goal.loop-item-smaller
loop-item-smaller c =
    let work = c.loop-item.invariant in
    let next = next_item c.args.session c.in-Some.item c.loop-item.self-inside.places c.loop-item.self-inside.sessions work.paired work.within c.in-Some.ensures.first in
    let there = subst (λ (v : Dependents). is_there c.args.session v.places ≡ true) (sym c.self.view_is) c.requires in
    let apart = subst (λ (hs : List Item). IsAbsent c.args.session (sessions_of hs)) (sym work.hidden) (there-not_hidden c.args.session _ _ c.self.invariant.gone there) in
    let less = one_removed_less c.nodes_stand_where_listed.ensures c.args.session c.in-Some.item c.self.inside.places c.self.inside.sessions c.loop-item.self-inside.places c.loop-item.self-inside.sessions apart work next c.unlink.ensures.distinct c.in-Some.ensures.distinct in
    let is = ap (λ v. length (list_at v.lists c.args.session)) c.unlink-in-Some.ensures.unlinked in
    omega (arith, less, is)

pub loop-item-preserved : goal.loop-item-preserved
loop-item-preserved c =
    let work = c.loop-item.invariant in
    let next = next_item c.args.session c.in-Some.item c.loop-item.self-inside.places c.loop-item.self-inside.sessions work.paired work.within c.in-Some.ensures.first in
    let there = subst (λ (v : Dependents). is_there c.args.session v.places ≡ true) (sym c.self.view_is) c.requires in
    let apart = subst (λ (hs : List Item). IsAbsent c.args.session (sessions_of hs)) (sym work.hidden) (there-not_hidden c.args.session _ _ c.self.invariant.gone there) in
    let more = removing_goes_on c.nodes_stand_where_listed.ensures c.args.session c.in-Some.item c.self.inside.places c.self.inside.sessions c.loop-item.self-inside.places c.loop-item.self-inside.sessions apart work next c.unlink.ensures.distinct c.in-Some.ensures.distinct in
    let node = node_is c.nodes_stand_where_listed.ensures c.args.session c.in-Some.item c.loop-item.self-inside.places c.loop-item.self-inside.sessions work.within next c.in-Some.ensures.distinct c.owner.result c.owner.ensures.owner in
    let places_is = ap (links.unlink c.loop-item.self-inside.places) node ∙ sym c.unlink.ensures.unlinked in
    subst (IsRemoving c.args.session c.self.inside.places c.self.inside.sessions c.unlink.new.self) (sym c.unlink-in-Some.ensures.unlinked)
    (subst (λ v. IsRemoving c.args.session c.self.inside.places c.self.inside.sessions v (links.unlink c.loop-item.self-inside.sessions c.in-Some.item)) places_is more)

pub invariant_of-self : goal.invariant_of-self
invariant_of-self c = (removing_ends c.args.session c.self.inside.places c.self.inside.sessions c.loop-item.self-inside.places c.loop-item.self-inside.sessions c.self.invariant c.loop-item.invariant (sym c.in_default.is ∙ c.first.ensures.first)).sound

pub returns-clause-removed : goal.returns-clause-removed
returns-clause-removed c =
    (removing_ends c.args.session c.self.inside.places c.self.inside.sessions c.loop-item.self-inside.places c.loop-item.self-inside.sessions c.self.invariant c.loop-item.invariant (sym c.in_default.is ∙ c.first.ensures.first)).removed
    ∙ ap (λ v. remove v c.args.session) c.self.view_is

pub returns-clause-stands : goal.returns-clause-stands
returns-clause-stands c place =
    let once = subst (λ (v : Dependents). IsDistinct (stands_in v place)) c.self.view_is (stands_once c.self.inside.places c.self.inside.sessions place c.self.invariant) in
    ap (λ (v : Dependents). stands_in v place) (returns-clause-removed c) ∙ remove-stands c.args.self.now place c.args.session once
