use Rattle.std.proofs.Common.{◌≡◌, ◌∙◌, ap, get_or, subst, sym, true}
use Rattle.ucon_links.specs.Dependents.{Dependents, is_there, hide}
use Rattle.ucon_links.proofs.Several.{there_in_turn, hide_all-more, gives_more}
use Rattle.ucon_links.proofs.index.Index.hide_all.Goals as goal

pub hide-requires : goal.hide-requires
hide-requires c =
    subst (λ (v : Dependents). is_there (get_or c.args.sessions.now c.loop-session.session-index 0) v.places ≡ true) (sym c.loop-session.invariant.hidden)
    (there_in_turn c.args.self.now c.args.sessions.now c.loop-session.session-index c.loop-session-test.true c.requires)

pub loop-session-preserved : goal.loop-session-preserved
loop-session-preserved c = record {
  hidden =
      c.hide.ensures.hidden ∙ ap (λ v. hide v (get_or c.args.sessions.now c.loop-session.session-index 0)) c.loop-session.invariant.hidden
      ∙ sym (hide_all-more c.args.self.now c.args.sessions.now c.loop-session.session-index c.loop-session-test.true);
  restored = gives_more c.loop-session.session-index c.hide.new.self c.loop-session.self c.args.self.now c.hide.ensures.restored c.loop-session.invariant.restored;
}
