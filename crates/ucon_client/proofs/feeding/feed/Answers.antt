use Rattle.ucon_client.proofs.Rounds.{up_to}
use Rattle.ucon_client.proofs.feeding.feed.Goals as goal

pub returns-clause-fed : goal.returns-clause-fed
returns-clause-fed g c = record {
  before = c.feed_lines-result.new.feeders;
  as_many = c.feed_lines-result.ensures.length;
  up_to = up_to g.S.Source.seen c.args.script.now c.feed_lines-result.new.script c.args.source.now c.feed_lines-result.new.source c.args.feeders.now
      c.feed_lines-result.new.feeders c.feed_lines-result.result c.feed_lines-result.ensures.ok c.feed_lines-result.ensures.err;
  ends = c.end_all.ensures.ended;
}
