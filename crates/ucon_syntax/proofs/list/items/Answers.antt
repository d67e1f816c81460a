use Rattle.std.proofs.Common.{rules, ◌≡◌, ◌-◌, ◌++◌, ◌∷◌, [], true, false, map, ap, sym, ◌∙◌, arith}
use Rattle.std.proofs.lemmas.Result.{err_from_is_err_and}
use Rattle.std.proofs.lemmas.List.{map_push}
use Rattle.ucon_token.specs.Tokens.{first}
use Rattle.ucon_syntax.proofs.Lists.{items_go, items_stop, items_end, items_last}
use Rattle.ucon_syntax.proofs.list.items.Goals as goal

pub returns-then-not-begins-clause-read : goal.returns-then-not-begins-clause-read
returns-then-not-begins-clause-read g c =
    let is : g.T.Item.starts (first c.loop.reader.tokens) ≡ false = rw (← c.first.ensures) (search rules) in
    items_end g.T.Item.starts g.T.Item.item_at (c.args.most - c.loop.counter) c.loop.room (map g.T.Item.plain c.loop.rows.items) c.loop.reader.tokens _ is c.loop.invariant.0

pub returns-in_err-next-clause-read : goal.returns-in_err-next-clause-read
returns-in_err-next-clause-read g c =
    let p = err_from_is_err_and c.from_residual.result c.from_residual.ensures.1 in
    let is : g.T.Item.starts (first c.loop.reader.tokens) ≡ true = rw (← c.first.ensures) (search rules) in
    rw (p.1, p.2) (items_stop g.T.Item.starts g.T.Item.item_at c.args.most c.loop.counter c.loop.room (map g.T.Item.plain c.loop.rows.items) c.in_err-next.field-0.0 c.loop.reader.tokens c.read.new.reader.tokens _ c.loop-test.true is c.in_err-next.ensures.read c.loop.invariant.0)

pub loop-preserved : goal.loop-preserved
loop-preserved g c =
    let is : g.T.Item.starts (first c.loop.reader.tokens) ≡ true = rw (← c.first.ensures) (search rules) in
    let longer : (map g.T.Item.plain c.push.new.self.items) ≡ (map g.T.Item.plain c.loop.rows.items) ++ (g.T.Item.plain c.in_ok-next.next) ∷ [] = ap (map g.T.Item.plain) c.in_ok-push.ensures.ok ∙ map_push g.T.Item.plain c.loop.rows.items c.in_ok-next.next in
    (items_go g.T.Item.starts g.T.Item.item_at c.args.most c.loop.counter c.loop.room c.in_ok-next.left (map g.T.Item.plain c.loop.rows.items) (map g.T.Item.plain c.push.new.self.items) (g.T.Item.plain c.in_ok-next.next) c.loop.reader.tokens c.read.new.reader.tokens _ c.loop-test.true is c.in_ok-next.ensures.read longer c.loop.invariant.0, c.in_ok-next.ensures.text ∙ c.loop.invariant.1)

pub returns-clause-read : goal.returns-clause-read
returns-clause-read g c =
    let is : g.T.Item.starts (first c.loop.reader.tokens) ≡ c.begins-2.result = rw (← c.first-2.ensures) (sym c.begins-2.ensures) in
    items_last g.T.Item.starts g.T.Item.item_at (c.args.most - c.loop.counter) c.loop.room (λ r. map g.T.Item.plain r.items) c.loop.rows c.loop.reader.tokens c.begins-2.result c.ended.result _ (omega arith) is c.ended.ensures c.loop.invariant.0
