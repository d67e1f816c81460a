use Rattle.std.proofs.Common.{◌∙◌, ◌+◌, ◌++◌, sym, ap, drop, pos, unwrap_or}
use Rattle.std.specs.List.{flat_map}
use Rattle.ucon_state.specs.Held.{held, names_of}
use Rattle.ucon_point.specs.Lines.{act_words, line}
use Rattle.ucon_point.specs.PointText.{act_line}
use Rattle.ucon_point.proofs.Listed.{one_more}
use Rattle.ucon_point.proofs.writing.put_acts.Goals as goal

pub loop-number-preserved : goal.loop-number-preserved
loop-number-preserved c =
    let h = held c.args.state.now in
    let n = c.loop-number.number in
    let act = c.in-Some.act in
    let text = line (act_words (names_of act) act.moment) in
    ap (λ out. out ++ flat_map (act_line h) (drop (n + 1) h.acts)) c.in_ok-put_act.ensures
    ∙ one_more (act_line h) c.loop-number.out.items text _ h.acts n (names_of act) (sym c.in-Some.ensures.names)
    (sym (ap (λ o. line (act_words (names_of act) (unwrap_or o (pos 0)))) c.in-Some.ensures.moment)) c.loop-number.invariant
