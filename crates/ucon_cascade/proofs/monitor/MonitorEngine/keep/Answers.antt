use Rattle.std.proofs.Common.{◌≡◌, ◌∙◌, ℤ, List, ap, subst, sym}
use Rattle.std.specs.Prelude.{Option}
use Rattle.ucon_model.specs.Block.{after}
use Rattle.ucon_state.specs.Shown.{Shown, kept, shown}
use Rattle.ucon_readers.specs.Timers.{deadlines_in}
use Rattle.ucon_collections.specs.Deadlines.{deadline_of}
use Rattle.ucon_cascade.specs.Monitor.{Stands}
use Rattle.ucon_readers.specs.Readers.{first_of, readers_at}
use Rattle.ucon_cascade.proofs.Monitored.{stands_kept, stands_like}
use Rattle.ucon_cascade.proofs.monitor.MonitorEngine.keep.Goals as goal

pub returns-clause-follows : goal.returns-clause-follows
returns-clause-follows c = λ P T e h.
    let s = shown c.args.self.now.state in
    let r = c.args.self.now.readers in
    let r' = c.keep-2.new.self in
    let ds = deadlines_in c.args.self.now.timers in
    let es = deadlines_in c.keep-3.new.self in
    let U = after P T e.caller e.command in
    let is : shown c.keep.new.self ≡ kept s = c.keep.ensures in
    record {
      stands = subst (λ (x : Shown). Stands x (readers_at r') (first_of r') es P U) (sym is)
          (stands_like (kept s) (readers_at r) (readers_at r') (first_of r) (first_of r') ds es P U c.keep-2.ensures.read c.keep-2.ensures.firsts (λ n. ap (λ (ds : List (Option ℤ)). deadline_of ds n) c.keep-3.ensures.deadlines)
          (stands_kept s (readers_at r) (first_of r) ds P U h.stands));
      settled = record {
        policy = ap (λ (x : Shown). x.opening_policy) is ∙ sym (ap (λ (x : Shown). x.policy) is);
        tables = ap (λ (x : Shown). x.opening) is ∙ sym (ap (λ (x : Shown). x.tables) is);
      };
      kept = c.keep-2.ensures.kept;
      timers_kept = c.keep-3.ensures.kept;
      limit = h.back.limit;
      no_work = h.no_work;
    }

pub returns-clause-nobody_fails : goal.returns-clause-nobody_fails
returns-clause-nobody_fails c = λ P T e h n. h.stands.nobody n
