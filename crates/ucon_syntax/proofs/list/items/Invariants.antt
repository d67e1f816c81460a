use Rattle.std.proofs.Common.{◌≡◌, ◌-◌, map}
use Rattle.ucon_syntax.specs.Items.{full}
use Rattle.ucon_syntax.specs.Lists.{items_at}
use Rattle.ucon_syntax.proofs.Lists.{with_front}
use Rattle.ucon_syntax.proofs.list.items.Given as goal

abbrev pub invariant-loop : goal.invariant-loop
invariant-loop g l = (with_front (map g.T.Item.plain l.rows.items) (items_at g.T.Item.starts g.T.Item.item_at (l.most - l.counter) l.room l.reader.tokens) ≡ items_at g.T.Item.starts g.T.Item.item_at l.most full l.fn.reader.tokens) × (l.reader.text ≡ l.fn.reader.text)
