use Rattle.std.proofs.Common.{rules, ◌≡◌, false, refl, sym, ◌∙◌, subst}
use Rattle.ucon_client.specs.Feeding.{HasFedTo}
use Rattle.ucon_client.proofs.Rounds.{more_fed, nothing_fed}
use Rattle.ucon_client.proofs.feeding.feed_lines.Goals as goal

pub lines-init : goal.lines-init
lines-init g c = record {
  fed = nothing_fed g.S.Source.seen c.args.script.now c.args.source.now c.args.feeders.now (c.scripts_are_judged_on.ensures.none c.args.script.now c.args.source.now);
  length = refl;
  running = c.requires.running;
  unfailed = refl;
}

pub lines-preserved : goal.lines-preserved
lines-preserved g c =
    let running : c.lines.script.lines.over ≡ false = search rules in
    record {
      fed = more_fed g.S.Source.seen c.args.script.now c.lines.script c.feed_next.new.script c.args.source.now c.lines.source c.feed_next.new.source
          c.args.feeders.now c.lines.feeders c.feed_next.new.feeders c.lines.invariant.length
          (λ told next s t. c.scripts_are_judged_on.ensures.more c.args.script.now c.lines.script c.feed_next.new.script c.args.source.now c.lines.source c.feed_next.new.source told next running s t)
          c.lines.invariant.fed c.in-Ok.ensures.ok;
      length = c.in-Ok.ensures.length ∙ c.lines.invariant.length;
      running = c.in-Ok.ensures.running;
      unfailed = c.in-Ok.ensures.unfailed (λ e. cc e) ∙ c.lines.invariant.unfailed;
    }

pub returns-in-Err-clause-err : goal.returns-in-Err-clause-err
returns-in-Err-clause-err g c =
    let running : c.lines.script.lines.over ≡ false = search rules in
    record {
      mid = c.lines.script;
      at = c.lines.source;
      fed_to = subst (λ fs. HasFedTo g.S.Source.seen c.args.script.now c.lines.script c.args.source.now c.lines.source c.args.feeders.now fs) (sym c.in-Err.ensures.still) c.lines.invariant.fed;
      running = running;
      stops = c.in-Err.ensures.stops;
    }
