use Rattle.std.proofs.Common.{◌≡◌, ◌∙◌, ap, subst, sym}
use Rattle.ucon_collections.specs.NumberSet.{NumberSet}
use Rattle.ucon_state.specs.Shown.{Shown, given_back, shown}
use Rattle.ucon_readers.specs.Timers.{deadlines_in}
use Rattle.ucon_cascade.specs.Monitor.{Stands}
use Rattle.ucon_readers.specs.Readers.{first_of, readers_at}
use Rattle.ucon_cascade.proofs.Monitored.{same_lists, stands_like}
use Rattle.ucon_cascade.proofs.monitor.Monitor.go_back.Goals as goal

pub undo-requires : goal.undo-requires
undo-requires c = (c.requires.back.stood, c.requires.back.first, c.requires.back.undone)

pub returns : goal.returns
returns c = λ P T h.
    let s = shown c.args.self.now.state in
    let r' = c.undo.new.self in
    let es = deadlines_in c.undo-2.new.self in
    let is : shown c.undo_all.new.self ≡ given_back s = c.undo_all.ensures in
    record {
      stands = subst (λ (x : Shown). Stands x (readers_at r') (first_of r') es P T) (sym is)
          (stands_like (given_back s) h.stood (readers_at r') h.first (first_of r') h.was es P T (same_lists h.stood (readers_at r') (c.undo.ensures.read h.stood h.first h.undone))
          (c.undo.ensures.firsts h.stood h.first h.undone) (c.undo-2.ensures.back h.was h.timers_undone) h.stands);
      settled = record {
        policy = ap (λ (x : Shown). x.opening_policy) is ∙ sym (ap (λ (x : Shown). x.policy) is);
        tables = ap (λ (x : Shown). x.opening) is ∙ sym (ap (λ (x : Shown). x.tables) is);
      };
      kept = c.undo.ensures.kept;
      timers_kept = c.undo-2.ensures.kept;
      limit = ap (λ (w : NumberSet). w.limit) c.clear.ensures ∙ h.limit;
      no_work = ap (λ (w : NumberSet). w.members) c.clear.ensures;
    }
