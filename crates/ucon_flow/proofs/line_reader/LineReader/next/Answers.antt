use Rattle.std.proofs.Common.{◌≡◌, ◌≤◌, ◌<◌, take, arith}
use Rattle.ucon_flow.proofs.Lines.{gives}
use Rattle.ucon_flow.proofs.line_reader.LineReader.next.Goals as goal

pub returns-clause-line : goal.returns-clause-line
returns-clause-line g c =
    let fits : c.in_ok-len.len ≤ c.self.inside.limit = grind arith in
    let some : 0 < c.in_ok-len.len = grind arith in
    let taken : c.in_ok-line.line.items ≡ take c.in_ok-len.len c.read_line.new.self.held = grind arith in
    gives g.S.Source.seen c.args.self.now c.read_line.new.self c.args.source.now c.read_line.new.source c.self.inside.seen.items c.in_ok-line.line.items c.self.inside.limit c.self.inside.gone c.in_ok-len.len
    c.read_line.ensures.read (cc c.self.view_is) c.in_ok-len.ensures.len c.in_ok-len.ensures.whole fits some taken
