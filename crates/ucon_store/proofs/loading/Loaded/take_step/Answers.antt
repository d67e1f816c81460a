use Rattle.std.proofs.Common.{rules, ◌≡◌, ◌∷◌, [], ◌++◌, List, true, Err, Some, sym, ap, ◌∙◌, subst}
use Rattle.ucon_model.specs.declared.command.Entry.{Entry}
use Rattle.ucon_model.specs.Action.{Trace}
use Rattle.ucon_model.specs.Block.{after}
use Rattle.ucon_model.specs.History.{trace_from}
use Rattle.ucon_model.specs.Work.{NobodyFails}
use Rattle.ucon_store.specs.declared.loading.Loaded.{Loaded}
use Rattle.ucon_store.specs.Kept.{payload_in}
use Rattle.ucon_store.specs.Loading.{IsStanding}
use Rattle.ucon_model.specs.Plain.{Bytes}
use Rattle.ucon_store.specs.Points.{text_behind, text_in_force}
use Rattle.ucon_store.specs.Starts.{IsStart, text_at_start}
use Rattle.ucon_store.proofs.After.{unread_after}
use Rattle.ucon_store.proofs.Stepping.{text_longer, trace_longer}
use Rattle.ucon_store.proofs.loading.Loaded.take_step.Goals as goal

pub returns-in-Err-BadPlace-clause-wrong : goal.returns-in-Err-BadPlace-clause-wrong
returns-in-Err-BadPlace-clause-wrong g c = λ _ P T accepts start.
    let old = c.args.self.now in
    unread_after T old.policy.items P old.entries c.args.payload.now c.in-Err-BadPlace.field-0-0
    (c.in-Err-BadPlace.ensures.untold c.in-Err-BadPlace.field-0-0 (ap Err c.in-Err-BadPlace.field-0-is))

pub returns-clause-taken : goal.returns-clause-taken
returns-clause-taken g c = λ _ P T accepts start.
    let same : c.in_ok-drafts.field-0 ≡ true = search rules in
    let added = c.push.ensures ∙ ap (λ (l : List Entry). l ++ c.read_entry.new.out ∷ []) (ap (λ (l : Loaded g.row.E.Denot). l.entries) c.drafts.ensures.rest) in
    c.in_ok-drafts.ensures.taken same P T accepts start ∙ ap (λ (l : List Entry). Some l) (sym added)

pub returns-clause-standing : goal.returns-clause-standing
returns-clause-standing g c = λ _.
    let H = c.args.self.now.entries in
    let e = c.read_entry.new.out in
    let standing = c.requires.standing in
    let Q = standing.P in
    let first = text_at_start c.args.self.now.policy.items (payload_in c.args.self.now.point) in
    let same : c.in_ok-drafts.field-0 ≡ true = search rules in
    let added = c.push.ensures ∙ ap (λ (l : List Entry). l ++ e ∷ []) (ap (λ (l : Loaded g.row.E.Denot). l.entries) c.drafts.ensures.rest) in
    let pending : (T : Trace) → IsStart Q (payload_in c.args.self.now.point) c.args.self.now.before T
    → g.E.Engine.has_pending c.drafts.new.self.engine Q (trace_from Q T H) e =
    λ T start. c.in_ok-drafts.ensures.pending same Q (trace_from Q T H) (standing.stands T start) in
    let behind : (T : Trace) → after Q (trace_from Q T H) e.caller e.command ≡ trace_from Q T c.push.new.self =
    λ T. sym (trace_longer Q T H e) ∙ ap (trace_from Q T) (sym added) in
    subst (λ (l : Loaded g.row.E.Denot). IsStanding g.E.Engine.follows (record l { engine = c.keep.new.self; entries = c.push.new.self; in_force = c.go_on.new.self }))
    (sym c.drafts.ensures.rest) (record {
      P = Q;
      accepts = standing.accepts;
      begun = standing.begun;
      starts = standing.starts;
      stands = λ T start. subst (g.E.Engine.follows c.keep.new.self Q) (behind T) (c.keep.ensures.follows Q (trace_from Q T H) e (pending T start));
      settled = λ T start. subst (NobodyFails Q) (behind T) (c.keep.ensures.nobody_fails Q (trace_from Q T H) e (pending T start));
      revokes = standing.revokes;
      in_force = c.go_on.ensures
          ∙ (ap (λ (t : Bytes). text_behind t e.command) (c.drafts.ensures.in_force ∙ standing.in_force)
          ∙ (sym (text_longer first H e) ∙ ap (text_in_force first) (sym added)));
    })
