use Rattle.std.proofs.Common.{rules, ◌≡◌, true, false, ◌++◌, ap, subst, ◌∙◌}
use Rattle.std.specs.Prelude.{None, is_ok}
use Rattle.ucon_model.specs.Plain.{Bytes}
use Rattle.ucon_syntax.specs.Policies.{accepted}
use Rattle.ucon_converse.specs.Answering.{answering}
use Rattle.ucon_converse.specs.Holding.{standing, stands}
use Rattle.ucon_converse.specs.Keeping.{IsDated}
use Rattle.ucon_converse.specs.KeeperLaws.{keeps_again}
use Rattle.ucon_converse.specs.Reached.{reached_by}
use Rattle.ucon_converse.specs.Replies.{GoesOn}
use Rattle.ucon_converse.proofs.Conversing.{front_same}
use Rattle.ucon_converse.proofs.Dated.{dated_before, goes_as}
use Rattle.ucon_converse.proofs.Reaching.{step_rests}
use Rattle.ucon_converse.proofs.Stepping.{led_later, on_ok, rests_err, rests_ok}
use Rattle.ucon_converse.proofs.requests.take_and_rest.Goals as goal

pub rest-requires-clause-led : goal.rest-requires-clause-led
rest-requires-clause-led g c =
    led_later g.D.Disk.seen c.args.store.now c.take-said.new.store c.requires.led (c.take-said.ensures.keeps c.args.points.now.made c.args.points.now.tried).stays

pub rest-requires-clause-unmarked : goal.rest-requires-clause-unmarked
rest-requires-clause-unmarked g c =
    let ok : is_ok c.take-said.result ≡ true = search rules in
    on_ok c.take-said.result (c.take-said.new.store.mark ≡ None) ok c.take-said.ensures.unmarked

pub returns-then-is_ok-clause-step : goal.returns-then-is_ok-clause-step
returns-then-is_ok-clause-step g c = λ P G places command accepts front says.
    let seen = g.D.Disk.seen in
    let was = c.args.store.now in
    let mid = c.take-said.new.store in
    let points = c.args.points.now in
    let keeps = c.take-said.ensures.keeps points.made points.tried in
    let s = keeps.stays in
    let ok : is_ok c.take-said.result ≡ true = search rules in
    let goes = c.rest.ensures.goes_on P G places (ap accepted s.policy ∙ accepts) (front_same P was mid G s.policy s.point s.before front) in
    let before = standing G places (answering mid points) in
    let after = standing G places (answering c.rest.new.store c.rest.new.points) in
    let dated = goes_as accepted P mid.policy (IsDated (seen mid.disk).contents) (IsDated (seen was.disk).contents)
    (dated_before (seen was.disk).contents (seen mid.disk).contents s.tells keeps.kind) before after goes in
    record {
      between = stands G (places ++ points.made) points.tried mid;
      step = c.take-said.ensures.step P G (places ++ points.made) points.tried command accepts front says;
      rests = rests_ok (IsDated (seen was.disk).contents) P was.policy c.take-said.result before after ok
          (subst (λ (text : Bytes). GoesOn (IsDated (seen was.disk).contents) P text before after) s.policy dated);
    }

pub returns-then-is_ok-clause-step_at : goal.returns-then-is_ok-clause-step_at
returns-then-is_ok-clause-step_at g c = λ P T command accepts starts says.
    let ok : is_ok c.take-said.result ≡ true = search rules in
    step_rests P (reached_by P T c.args.store.now) (reached_by P T c.take-said.new.store) (reached_by P T c.rest.new.store)
    (record { caller = c.args.request.now.caller; command = command }) c.take-said.result ok (c.take-said.ensures.step_at P T command accepts starts says)
    (c.rest.ensures.still P T)

pub returns-then-is_ok-clause-keeps : goal.returns-then-is_ok-clause-keeps
returns-then-is_ok-clause-keeps g c =
    let points = c.args.points.now in
    keeps_again g.D.Disk.seen g.met.D.Disk.only_now g.met.D.Disk.as_read g.met.D.Disk.counts_now (answering c.args.store.now points) (answering c.take-said.new.store points)
    (answering c.rest.new.store c.rest.new.points) (c.take-said.ensures.keeps points.made points.tried) c.rest.ensures.keeps

pub returns-else-is_ok-clause-step : goal.returns-else-is_ok-clause-step
returns-else-is_ok-clause-step g c = λ P G places command accepts front says.
    let points = c.args.points.now in
    let mid = c.take-said.new.store in
    let no : is_ok c.take-said.result ≡ false = search rules in
    record {
      between = stands G (places ++ points.made) points.tried mid;
      step = c.take-said.ensures.step P G (places ++ points.made) points.tried command accepts front says;
      rests = rests_err (IsDated (g.D.Disk.seen c.args.store.now.disk).contents) P c.args.store.now.policy c.take-said.result (standing G places (answering mid points)) no;
    }

pub returns-else-is_ok-clause-keeps : goal.returns-else-is_ok-clause-keeps
returns-else-is_ok-clause-keeps g c = c.take-said.ensures.keeps c.args.points.now.made c.args.points.now.tried
