use Rattle.ucon_model.specs.Checked.{checked_policy}
use Rattle.ucon_state.specs.Shown.{right_names}
use Rattle.ucon_state.specs.Views.{lists_of}
use Rattle.ucon_state.proofs.Stages.{numbered_now, sound_now}
use Rattle.ucon_state.proofs.state.State.replacement.Goals as goal

pub amended-requires-clause-sound : goal.amended-requires-clause-sound
amended-requires-clause-sound c =
    let s = c.args.self.now in
    sound_now (checked_policy s.planned.checked) (right_names s) s.changes.items (lists_of s.tables) s.sound

pub amended-requires-clause-subjects_differ : goal.amended-requires-clause-subjects_differ
amended-requires-clause-subjects_differ c =
    let s = c.args.self.now in
    (numbered_now (checked_policy s.planned.checked) (right_names s) s.changes.items (lists_of s.tables) s.sound).subjects_differ

pub amended-requires-clause-objects_differ : goal.amended-requires-clause-objects_differ
amended-requires-clause-objects_differ c =
    let s = c.args.self.now in
    (numbered_now (checked_policy s.planned.checked) (right_names s) s.changes.items (lists_of s.tables) s.sound).objects_differ
