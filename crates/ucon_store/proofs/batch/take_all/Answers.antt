use Rattle.std.proofs.Common.{◌≡◌, ◌≢◌, ◌+◌, ◌∷◌, [], ◌++◌, List, length, take, get_or, add-one, sym, ap, ◌∙◌, subst, arith}
use Rattle.std.proofs.Math.Seq.{take-suc}
use Rattle.ucon_model.specs.declared.command.Entry.{Entry}
use Rattle.ucon_model.specs.Action.{Trace}
use Rattle.ucon_model.specs.History.{History, trace_from}
use Rattle.ucon_model.specs.Plain.{PlainPolicy}
use Rattle.ucon_store.specs.Batched.{changing_after}
use Rattle.ucon_store.specs.Filling.{AreTakenUp, HasSure, filled}
use Rattle.ucon_store.proofs.Filling.{more_sure, more_taken}
use Rattle.ucon_store.proofs.batch.take_all.Given.{Over}
use Rattle.ucon_store.proofs.batch.take_all.Goals.{In_default}
use Rattle.ucon_store.proofs.batch.take_all.Goals as goal

module _ (g : Over) (c : In_default g) where
  count : length c.take_up.new.batch.placed.items ≡ c.loop-line.line-index + 1
  count = c.in_default.ensures.one ∙ ap (λ n. n + 1) c.loop-line.invariant.count

  longer : take (c.loop-line.line-index + 1) c.args.lines.now ≡ take c.loop-line.line-index c.args.lines.now ++ c.line-item.result ∷ []
  longer =
      let i = c.loop-line.line-index in
      let lines : List Entry = c.args.lines.now in
      ap (λ n. take n lines) (add-one i)
      ∙ (take-suc lines i c.line-item.result (omega (arith, c.loop-line-test.true))
      ∙ ap (λ (e : Entry). take i lines ++ e ∷ []) (sym c.line-item.is))

  taken : (P : PlainPolicy) (T : Trace) → g.E.Engine.follows c.args.engine.now P T
      → AreTakenUp g.E.Engine.follows P T (take (c.loop-line.line-index + 1) c.args.lines.now)
      (filled c.args.batch.now c.args.journal.now c.args.in_force.now)
      (filled c.take_up.new.batch c.take_up.new.journal c.take_up.new.in_force) c.take_up.new.engine
  taken P T stands =
      let so_far = c.loop-line.invariant.taken P T stands in
      subst (λ (l : List Entry). AreTakenUp g.E.Engine.follows P T l (filled c.args.batch.now c.args.journal.now c.args.in_force.now)
      (filled c.take_up.new.batch c.take_up.new.journal c.take_up.new.in_force) c.take_up.new.engine) (sym longer)
      (more_taken so_far
      (c.in_default.ensures.taken P (trace_from P T (changing_after P T (take c.loop-line.line-index c.args.lines.now))) so_far.stands))

  sure : (P : PlainPolicy) (T : Trace) → g.E.Engine.follows c.args.engine.now P T
      → HasSure P T c.args.lines.now c.take_up.new.batch.sure (c.loop-line.line-index + 1)
  sure P T stands =
      let i = c.loop-line.line-index in
      let now : History = changing_after P T (take (i + 1) c.args.lines.now) in
      let all : c.take_up.new.batch.entries ≡ now = (taken P T stands).entries ∙ ap (λ (l : History). l ++ now) c.requires.nothing.1 in
      more_sure P T c.args.lines.now c.loop-line.batch.sure c.take_up.new.batch.sure i (c.loop-line.invariant.sure P T stands)
      (λ nothing. c.in_default.ensures.none (all ∙ nothing) ∙ count)
      (λ some. c.in_default.ensures.some (λ nothing. some (sym all ∙ nothing)))

pub loop-line-preserved : goal.loop-line-preserved
loop-line-preserved g c =
    let inv = c.loop-line.invariant in
    record {
      idle = c.take_up.ensures.idle;
      count = count g c;
      before = (c.in_default.ensures.taken inv.idle.policy inv.idle.trace inv.idle.holds).before ∙ inv.before;
      taken = taken g c;
      sure = sure g c;
      sized = c.take_up.ensures.sized;
      batch = c.take_up.ensures.batch;
      disk = c.take_up.ensures.disk ∙ inv.disk;
      gate = c.take_up.ensures.gate ∙ inv.gate;
      version = c.take_up.ensures.version ∙ inv.version;
      closed = λ h. c.take_up.ensures.closed (inv.closed h);
    }
