use Rattle.std.proofs.Common.{◌≡◌, true, false, Err, ap}
use Rattle.ucon_model.specs.Document.{is_divider}
use Rattle.ucon_script.specs.Coming.{text_of}
use Rattle.ucon_script.proofs.Arriving.{on_err, falls, front_held, one_more, opened_at, opened_whole, read_on, too_long, undivided_yet}
use Rattle.ucon_flow.specs.declared.source.ReadFault.TheVariants.{SourceFault, TooLong}
use Rattle.ucon_script.proofs.coming_document.read_coming.Goals as goal

pub returns-in-Err-clause-err : goal.returns-in-Err-clause-err
returns-in-Err-clause-err g c =
    front_held g.S.Source.seen c.lines.policy.items c.lines.lines c.next.new.self c.lines.above c.args.source.now c.lines.source c.next.new.source
    c.lines.invariant.reading c.in-Err.ensures.err

pub returns-in-Err-clause-too_long : goal.returns-in-Err-clause-too_long
returns-in-Err-clause-too_long g c = λ e.
    let same : c.in-Err.fault ≡ TooLong = cc e in
    too_long g.S.Source.seen c.lines.policy.items c.lines.lines c.next.new.self c.lines.above c.args.source.now c.lines.source c.next.new.source
    c.lines.invariant.reading c.in-Err.ensures.err (c.in-Err.ensures.too_long (ap Err same))

pub returns-in-Err-clause-undivided : goal.returns-in-Err-clause-undivided
returns-in-Err-clause-undivided g c = λ e.
    let same : c.in-Err.fault ≡ SourceFault = cc e in
    undivided_yet g.S.Source.seen c.lines.policy.items c.lines.lines c.next.new.self c.lines.above c.args.source.now c.lines.source c.next.new.source
    c.lines.invariant.reading c.in-Err.ensures.err (c.in-Err.ensures.bare (ap Err same))

pub returns-then-is_divider-clause-opens : goal.returns-then-is_divider-clause-opens
returns-then-is_divider-clause-opens g c =
    let here : is_divider (text_of c.in-Ok.line.items) ≡ true = cc (c.is_divider.ensures, c.cut.ensures.front, c.deref.ensures.value, c.if-is_divider.true) in
    rw (c.new-script.ensures.lines, c.new-script.ensures.number) (opened_at g.S.Source.seen c.lines.policy.items c.lines.lines c.next.new.self c.lines.above c.args.source.now c.lines.source c.next.new.source
    c.lines.invariant.reading c.in-Ok.line.items c.in-Ok.ensures.line here)

pub returns-in_err-extend_from_slice-clause-err : goal.returns-in_err-extend_from_slice-clause-err
returns-in_err-extend_from_slice-clause-err g c =
    on_err c.from_residual.result _ (
      _,
      read_on g.S.Source.seen c.lines.policy.items c.lines.lines c.next.new.self c.lines.above c.args.source.now c.lines.source c.next.new.source
          c.lines.invariant.reading c.in-Ok.line.items c.in-Ok.ensures.line,
    )

pub returns-then-is_over-clause-opens : goal.returns-then-is_over-clause-opens
returns-then-is_over-clause-opens g c =
    let other : is_divider (text_of c.in-Ok.line.items) ≡ false = cc (c.is_divider.ensures, c.cut.ensures.front, c.deref.ensures.value, c.if-is_divider.false) in
    let over : c.next.new.self.over ≡ true = cc (c.is_over.ensures, c.if-is_over.true) in
    rw (c.new-script-then-is_over.ensures.lines, c.new-script-then-is_over.ensures.number) (opened_whole g.S.Source.seen c.lines.policy.items c.lines.lines c.next.new.self c.lines.above c.args.source.now c.lines.source c.next.new.source
    c.lines.invariant.reading c.in-Ok.line.items c.extend_from_slice.new.self.items c.in-Ok.ensures.line other over
    (cc (c.in_ok-extend_from_slice.ensures.items, c.deref-in-lines.ensures.value)))

pub lines-preserved : goal.lines-preserved
lines-preserved g c =
    let other : is_divider (text_of c.in-Ok.line.items) ≡ false = cc (c.is_divider.ensures, c.cut.ensures.front, c.deref.ensures.value, c.if-is_divider.false) in
    let running : c.next.new.self.over ≡ false = cc (c.is_over.ensures, c.if-is_over.false) in
    record {
      reading = one_more g.S.Source.seen c.lines.policy.items c.lines.lines c.next.new.self c.lines.above c.args.source.now c.lines.source c.next.new.source
          c.lines.invariant.reading c.in-Ok.line.items c.extend_from_slice.new.self.items c.in-Ok.ensures.line other running
          (cc (c.in_ok-extend_from_slice.ensures.items, c.deref-in-lines.ensures.value));
      unfailed = cc (c.in-Ok.ensures.unfailed (λ e. cc e), c.lines.invariant.unfailed);
    }

pub lines-smaller : goal.lines-smaller
lines-smaller g c =
    let running : c.next.new.self.over ≡ false = cc (c.is_over.ensures, c.if-is_over.false) in
    falls g.S.Source.seen c.lines.policy.items c.lines.lines c.next.new.self c.lines.above c.args.source.now c.lines.source c.next.new.source
    c.lines.invariant.reading c.in-Ok.line.items c.in-Ok.ensures.line running
