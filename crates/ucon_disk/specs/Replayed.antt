-- The state of the model that a replay has come to.
use Rattle.ucon_disk.specs.declared.replay.Replay.{Replay}
use Rattle.ucon_disk.specs.Image.{State}

abbrev pub state_of : Replay → State
state_of r = record { file = r.file.items; synced = r.synced.items; least = r.least; greatest = r.greatest; touched = r.touched.items }
