use Rattle.std.proofs.Common.{◌≡◌, ◌∙◌, ap, arith, is_some, length, subst, sym, true}
use Rattle.ucon_links.specs.Lists.{list_at, IsDistinct}
use Rattle.ucon_links.specs.Lists as links
use Rattle.ucon_links.specs.Dependents.{Dependents, is_there, stands_in, hide, UnhideGives}
use Rattle.ucon_links.specs.Tables.{seen}
use Rattle.ucon_links.proofs.IndexHiding.{IsHiding, hiding_begins, hiding_goes_on, hiding_ends, next_item, one_item_less}
use Rattle.ucon_links.proofs.Listed.{item_listed, item_owner, node_is, node_listed}
use Rattle.ucon_links.proofs.Stack.{there-not_hidden}
use Rattle.ucon_links.proofs.Undone.{undone}
use Rattle.ucon_links.proofs.WhoStands.{stands_once, hide-stands}
use Rattle.ucon_links.proofs.index.Index.hide.Goals as goal

pub loop-item-init : goal.loop-item-init
loop-item-init c = hiding_begins c.args.session c.self.inside.places c.self.inside.sessions c.self.invariant (subst (λ (v : Dependents). is_there c.args.session v.places ≡ true) (sym c.self.view_is) c.requires)

pub owner-requires : goal.owner-requires
owner-requires c =
    let work = c.loop-item.invariant in
    let next = next_item c.args.session c.in-Some.item c.loop-item.self-inside.places c.loop-item.self-inside.sessions work.paired work.within c.in-Some.ensures.first in
    ap is_some (item_owner c.nodes_stand_where_listed.ensures c.args.session c.in-Some.item c.loop-item.self-inside.places c.loop-item.self-inside.sessions work.within next c.in-Some.ensures.distinct)

pub hide-requires : goal.hide-requires
hide-requires c =
    let work = c.loop-item.invariant in
    let next = next_item c.args.session c.in-Some.item c.loop-item.self-inside.places c.loop-item.self-inside.sessions work.paired work.within c.in-Some.ensures.first in
    node_listed c.nodes_stand_where_listed.ensures c.args.session c.in-Some.item c.loop-item.self-inside.places c.loop-item.self-inside.sessions work.within next c.in-Some.ensures.distinct c.owner.result c.owner.ensures.owner

pub hide-requires-in-Some : goal.hide-requires-in-Some
hide-requires-in-Some c =
    let work = c.loop-item.invariant in
    let next = next_item c.args.session c.in-Some.item c.loop-item.self-inside.places c.loop-item.self-inside.sessions work.paired work.within c.in-Some.ensures.first in
    item_listed c.nodes_stand_where_listed.ensures c.args.session c.in-Some.item c.loop-item.self-inside.places c.loop-item.self-inside.sessions work.within next c.in-Some.ensures.distinct

pub loop-item-smaller : goal.loop-item-smaller
loop-item-smaller c =
    let work = c.loop-item.invariant in
    let next = next_item c.args.session c.in-Some.item c.loop-item.self-inside.places c.loop-item.self-inside.sessions work.paired work.within c.in-Some.ensures.first in
    let there = subst (λ (v : Dependents). is_there c.args.session v.places ≡ true) (sym c.self.view_is) c.requires in
    let apart = there-not_hidden c.args.session _ _ c.self.invariant.gone there in
    let less = one_item_less c.nodes_stand_where_listed.ensures c.args.session c.in-Some.item c.self.inside.places c.self.inside.sessions c.loop-item.self-inside.places c.loop-item.self-inside.sessions apart work next c.hide.ensures.distinct c.in-Some.ensures.distinct in
    let is = ap (λ v. length (list_at v.lists c.args.session)) c.hide-in-Some.ensures.hidden in
    omega (arith, less, is)

pub loop-item-preserved : goal.loop-item-preserved
loop-item-preserved c =
    let work = c.loop-item.invariant in
    let next = next_item c.args.session c.in-Some.item c.loop-item.self-inside.places c.loop-item.self-inside.sessions work.paired work.within c.in-Some.ensures.first in
    let there = subst (λ (v : Dependents). is_there c.args.session v.places ≡ true) (sym c.self.view_is) c.requires in
    let apart = there-not_hidden c.args.session _ _ c.self.invariant.gone there in
    let more = hiding_goes_on c.nodes_stand_where_listed.ensures c.args.session c.in-Some.item c.self.inside.places c.self.inside.sessions c.loop-item.self-inside.places c.loop-item.self-inside.sessions apart work next c.hide.ensures.distinct c.in-Some.ensures.distinct in
    let node = node_is c.nodes_stand_where_listed.ensures c.args.session c.in-Some.item c.loop-item.self-inside.places c.loop-item.self-inside.sessions work.within next c.in-Some.ensures.distinct c.owner.result c.owner.ensures.owner in
    let places_is = ap (links.hide c.loop-item.self-inside.places) node ∙ sym c.hide.ensures.hidden in
    subst (IsHiding c.args.session c.self.inside.places c.self.inside.sessions c.hide.new.self) (sym c.hide-in-Some.ensures.hidden)
    (subst (λ v. IsHiding c.args.session c.self.inside.places c.self.inside.sessions v (links.hide c.loop-item.self-inside.sessions c.in-Some.item)) places_is more)

pub invariant_of-self : goal.invariant_of-self
invariant_of-self c =
    let there = subst (λ (v : Dependents). is_there c.args.session v.places ≡ true) (sym c.self.view_is) c.requires in
    (hiding_ends c.args.session c.self.inside.places c.self.inside.sessions c.loop-item.self-inside.places c.loop-item.self-inside.sessions c.self.invariant there c.loop-item.invariant (sym c.in_default.is ∙ c.first.ensures.first)).sound

pub returns-clause-hidden : goal.returns-clause-hidden
returns-clause-hidden c =
    let there = subst (λ (v : Dependents). is_there c.args.session v.places ≡ true) (sym c.self.view_is) c.requires in
    (hiding_ends c.args.session c.self.inside.places c.self.inside.sessions c.loop-item.self-inside.places c.loop-item.self-inside.sessions c.self.invariant there c.loop-item.invariant (sym c.in_default.is ∙ c.first.ensures.first)).hidden
    ∙ ap (λ v. hide v c.args.session) c.self.view_is

pub returns-clause-restored : goal.returns-clause-restored
returns-clause-restored c =
    let there = subst (λ (v : Dependents). is_there c.args.session v.places ≡ true) (sym c.self.view_is) c.requires in
    let end = hiding_ends c.args.session c.self.inside.places c.self.inside.sessions c.loop-item.self-inside.places c.loop-item.self-inside.sessions c.self.invariant there c.loop-item.invariant (sym c.in_default.is ∙ c.first.ensures.first) in
    let law = undone c.args.session c.self.inside.places c.self.inside.sessions c.self.invariant end.distinct there in
    subst (λ v. UnhideGives 1 v c.args.self.now) (sym end.hidden) (subst (λ v. UnhideGives 1 (hide (seen c.self.inside.places c.self.inside.sessions) c.args.session) v) c.self.view_is law)

pub returns-clause-stands : goal.returns-clause-stands
returns-clause-stands c place =
    let once = subst (λ (v : Dependents). IsDistinct (stands_in v place)) c.self.view_is (stands_once c.self.inside.places c.self.inside.sessions place c.self.invariant) in
    ap (λ (v : Dependents). stands_in v place) (returns-clause-hidden c) ∙ hide-stands c.args.self.now place c.args.session once
