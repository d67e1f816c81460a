use Rattle.std.proofs.Common.{rules, ◌≡◌, ◌⊎◌, ◌++◌, List, ℕ, inr}
use Rattle.std.specs.Prelude.{codes}
use Rattle.ucon_converse.specs.Answering.{answering}
use Rattle.ucon_converse.specs.Keeping.{GivesReply}
use Rattle.ucon_converse.specs.KeeperLaws.{keeps_same}
use Rattle.ucon_converse.specs.Reached.{reached_by}
use Rattle.ucon_converse.specs.Replies.{point_line}
use Rattle.ucon_converse.specs.Unasked.{IsToldUnasked}
use Rattle.ucon_converse.proofs.Answered.{point_given}
use Rattle.ucon_converse.proofs.Stepping.{always_err}
use Rattle.ucon_converse.proofs.Tellings.{point_line_is, replied, replied_as}
use Rattle.ucon_converse.proofs.Unheard.{unasked_at}
use Rattle.ucon_converse.proofs.answering.answer_other.Goals as goal

pub returns-then-eq-clause-reply : goal.returns-then-eq-clause-reply
returns-then-eq-clause-reply g c =
    let seen = g.D.Disk.seen in
    let was = answering c.args.store.now c.args.points.now in
    let now = answering c.try_point-said.new.store c.try_point-said.new.points in
    let line = c.args.line.now in
    let said = c.try_point-said.result in
    let asks : line ≡ codes "point" = search rules in
    let gives : GivesReply seen was now line (point_line said) =
    point_given seen was now c.try_point-said.ensures.keeps line said asks c.try_point-said.ensures.pointed c.try_point-said.ensures.still in
    replied c.put_pointed.result c.args.out.now.items c.put_pointed.new.out.items (point_line said) (λ reply. GivesReply seen was now line reply)
    (point_line_is said) gives c.put_pointed.ensures

pub returns-then-eq-clause-failed : goal.returns-then-eq-clause-failed
returns-then-eq-clause-failed g c =
    let seen = g.D.Disk.seen in
    let was = answering c.args.store.now c.args.points.now in
    let now = answering c.try_point-said.new.store c.try_point-said.new.points in
    let line = c.args.line.now in
    let said = c.try_point-said.result in
    let asks : line ≡ codes "point" = search rules in
    let gives : GivesReply seen was now line (point_line said) =
    point_given seen was now c.try_point-said.ensures.keeps line said asks c.try_point-said.ensures.pointed c.try_point-said.ensures.still in
    always_err c.put_pointed.result ((now ≡ was) ⊎ ((reply : List ℕ) × GivesReply seen was now line reply)) (inr (point_line said, gives))

pub returns-else-eq-clause-reply : goal.returns-else-eq-clause-reply
returns-else-eq-clause-reply g c =
    let seen = g.D.Disk.seen in
    let s = c.args.store.now in
    let points = c.args.points.now in
    let was = answering s points in
    let line = c.args.line.now in
    replied_as c.answer_unasked.result c.args.out.now.items c.answer_unasked.new.out.items (IsToldUnasked seen s line) (λ reply. GivesReply seen was was line reply)
    (λ reply told. record {
      keeps = keeps_same seen g.met.D.Disk.only_now was;
      said = λ P G places accepts front. told.said P G (places ++ points.made) points.tried accepts front;
      said_at = λ P T accepts starts. unasked_at P (reached_by P T s) line reply told.unasked;
    }) c.answer_unasked.ensures

pub returns-else-eq-clause-keeps : goal.returns-else-eq-clause-keeps
returns-else-eq-clause-keeps g c = keeps_same g.D.Disk.seen g.met.D.Disk.only_now (answering c.args.store.now c.args.points.now)
