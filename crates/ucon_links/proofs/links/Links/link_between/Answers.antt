use Rattle.std.proofs.Common.{arith, ap, sym, ◌∙◌}
use Rattle.std.proofs.lemmas.Option.{slice_get_within}
use Rattle.ucon_links.specs.Layout.{below_of}
use Rattle.ucon_links.proofs.Cells.{some_same}
use Rattle.ucon_links.proofs.Seen.{opened}
use Rattle.ucon_links.proofs.Steps.{read_at, unused_is, link_needs, link_leaves, fresh}
use Rattle.ucon_links.proofs.links.Links.link_between.Goals as goal

pub unreachable-requires : goal.unreachable-requires
unreachable-requires c =
    let now = opened _ _ _ _ _ _ _ c.self.invariant c.self.view_is in
    let top = unused_is _ _ _ _ _ _ _ now c.requires.room in
    c.in_default.not-Some top.0 top.1

pub index-requires : goal.index-requires
index-requires c =
    let now = opened _ _ _ _ _ _ _ c.self.invariant c.self.view_is in
    let needs = link_needs _ _ _ _ _ _ _ now c.args.list c.args.before c.args.after c.in-Some.id c.args.owner c.requires.room c.requires.list c.requires.gap c.in-Some.is in
    let within = slice_get_within c.self.inside.table.nodes.items c.in-Some.id _ needs.stored in
    omega (arith, within, c.self.inside.table.nodes.ok)

pub insert-requires : goal.insert-requires
insert-requires c =
    let now = opened _ _ _ _ _ _ _ c.self.invariant c.self.view_is in
    let needs = link_needs _ _ _ _ _ _ _ now c.args.list c.args.before c.args.after c.in-Some.id c.args.owner c.requires.room c.requires.list c.requires.gap c.in-Some.is in
    record {
      id = slice_get_within c.self.inside.table.nodes.items c.in-Some.id _ needs.stored;
      list = needs.places.list_in;
      before = needs.places.before_in;
      after = needs.places.after_in;
    }

pub invariant_of-self : goal.invariant_of-self
invariant_of-self c =
    let now = opened _ _ _ _ _ _ _ c.self.invariant c.self.view_is in
    let needs = link_needs _ _ _ _ _ _ _ now c.args.list c.args.before c.args.after c.in-Some.id c.args.owner c.requires.room c.requires.list c.requires.gap c.in-Some.is in
    let within = slice_get_within c.self.inside.table.nodes.items c.in-Some.id _ needs.stored in
    let there = read_at _ c.in-Some.id c.index.result.now within c.index.ensures in
    let below = c.below-self-inside.ensures ∙ ap (λ n. below_of n.state) (some_same (sym there ∙ needs.stored)) in
    rw (c.insert.ensures.nodes, c.insert.ensures.firsts, below)
    (link_leaves _ _ _ _ _ _ _ now c.args.list c.args.before c.args.after c.in-Some.id c.args.owner c.requires.room c.requires.list c.requires.gap c.in-Some.is).is_sound

pub returns-clause-fresh : goal.returns-clause-fresh
returns-clause-fresh c =
    let now = opened _ _ _ _ _ _ _ c.self.invariant c.self.view_is in
    let needs = link_needs _ _ _ _ _ _ _ now c.args.list c.args.before c.args.after c.in-Some.id c.args.owner c.requires.room c.requires.list c.requires.gap c.in-Some.is in
    fresh _ _ _ _ _ _ _ now c.in-Some.id needs.below needs.stored

pub returns-clause-within : goal.returns-clause-within
returns-clause-within c =
    let now = opened _ _ _ _ _ _ _ c.self.invariant c.self.view_is in
    let needs = link_needs _ _ _ _ _ _ _ now c.args.list c.args.before c.args.after c.in-Some.id c.args.owner c.requires.room c.requires.list c.requires.gap c.in-Some.is in
    let within = slice_get_within c.self.inside.table.nodes.items c.in-Some.id _ needs.stored in
    omega (arith, within, now.holds.counted)

pub returns-clause-linked : goal.returns-clause-linked
returns-clause-linked c =
    let now = opened _ _ _ _ _ _ _ c.self.invariant c.self.view_is in
    rw (c.insert.ensures.nodes, c.insert.ensures.firsts)
    (link_leaves _ _ _ _ _ _ _ now c.args.list c.args.before c.args.after c.in-Some.id c.args.owner c.requires.room c.requires.list c.requires.gap c.in-Some.is).seen_as
