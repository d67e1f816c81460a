use Rattle.ucon_state.proofs.Following.Keeping.{followed_before, followed_after}
use Rattle.ucon_state.proofs.laws.each_action_is_followed.Goals as goal

pub returns-clause-opening : goal.returns-clause-opening
returns-clause-opening c = λ s P typed. followed_before P typed (c.legal_actions_keep_traces_sound.ensures.before P typed) s

pub returns-clause-after : goal.returns-clause-after
returns-clause-after c = λ s P T a h legal.
    let sound = c.legal_actions_keep_traces_sound.ensures in
    followed_after s P T a h legal (sound.typed P T a h.typed legal) (sound.after P T a h.typed h.sound legal)
