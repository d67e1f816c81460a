use Rattle.ucon_model.proofs.Allowed.{sound_before, sound_after_action, typed_after_action}
use Rattle.ucon_model.proofs.laws.legal_actions_keep_traces_sound.Goals as goal

pub returns-clause-before : goal.returns-clause-before
returns-clause-before c = sound_before

pub returns-clause-after : goal.returns-clause-after
returns-clause-after c = sound_after_action

pub returns-clause-typed : goal.returns-clause-typed
returns-clause-typed c = typed_after_action
