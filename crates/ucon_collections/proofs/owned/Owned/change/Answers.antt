use Rattle.std.proofs.Common.{◌≡◌, ◌<◌, get_or, length}
use Rattle.ucon_collections.proofs.Changing.{gives-set, undone-change}
use Rattle.ucon_collections.proofs.Counting.{count_below-set}
use Rattle.ucon_collections.proofs.owned.Owned.change.Goals as goal

pub returns-clause-gives : goal.returns-clause-gives
returns-clause-gives c =
    let place : c.args.session < length c.self.inside.deadlines.items = rw (← c.self.view_is) at c.requires in
    rw (c.replace-before.ensures.after, ← c.self.view_is) (gives-set c.self.inside.deadlines.items c.args.session c.args.deadline place)

pub returns-clause-count : goal.returns-clause-count
returns-clause-count c =
    let place : c.args.session < length c.self.inside.deadlines.items = rw (← c.self.view_is) at c.requires in
    rw (c.replace-before.ensures.after, ← c.self.view_is) (λ tick. count_below-set c.self.inside.deadlines.items c.args.session c.args.deadline tick place)

pub returns-clause-opening : goal.returns-clause-opening
returns-clause-opening c =
    let before : c.replace-before.result ≡ get_or c.self.inside.deadlines.items c.args.session c.replace-before.result = cc in
    let undone = undone-change c.self.inside.changes.items c.self.inside.deadlines.items c.args.session c.replace-before.result c.args.deadline before in
    rw (c.push_reserved.ensures.items, c.in_ok-reserve.ensures.items, c.replace-before.ensures.after, ← c.self.view_is) undone
