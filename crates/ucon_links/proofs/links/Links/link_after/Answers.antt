use Rattle.std.proofs.Common.{arith, subst, sym, ap, ◌∙◌, ◌<◌, length}
use Rattle.ucon_links.specs.Lists.{list_at, link_behind, IsGap}
use Rattle.std.proofs.Common.{Some}
use Rattle.ucon_links.proofs.Seen.{opened}
use Rattle.ucon_links.proofs.Reading.{list_is, listed_list, gap_behind}
use Rattle.ucon_links.proofs.Steps.{read_at, listed_in}
use Rattle.ucon_links.proofs.links.Links.link_after.Goals as goal

pub index-requires : goal.index-requires
index-requires c =
    let now = opened _ _ _ _ _ _ _ c.self.invariant c.self.view_is in
    let within = listed_in _ _ _ _ _ _ _ now c.args.node c.requires.listed in
    omega (arith, within, c.self.inside.table.nodes.ok)

pub link_between-requires : goal.link_between-requires
link_between-requires c =
    let now = opened _ _ _ _ _ _ _ c.self.invariant c.self.view_is in
    let there = read_at _ c.args.node c.index.result.now (listed_in _ _ _ _ _ _ _ now c.args.node c.requires.listed) c.index.ensures in
    let same = list_is _ _ _ _ _ _ _ now c.args.node _ c.requires.listed there in
    record {
      room = c.requires.room;
      list = subst (λ list. list < length c.args.self.now.lists) (sym same) (listed_list c.args.self.now c.args.node c.requires.listed);
      gap = subst (λ list. IsGap (Some c.args.node) c.next-next.result (list_at c.args.self.now.lists list)) (sym same)
          (gap_behind c.args.self.now c.args.node c.next-next.result c.requires.listed c.next-next.ensures.next);
    }

pub returns-clause-linked : goal.returns-clause-linked
returns-clause-linked c =
    let now = opened _ _ _ _ _ _ _ c.self.invariant c.self.view_is in
    let there = read_at _ c.args.node c.index.result.now (listed_in _ _ _ _ _ _ _ now c.args.node c.requires.listed) c.index.ensures in
    let same = list_is _ _ _ _ _ _ _ now c.args.node _ c.requires.listed there in
    c.link_between.ensures.linked ∙ ap (λ list. link_behind c.args.self.now list (Some c.args.node) c.link_between.result c.args.owner) same
