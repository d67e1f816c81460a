use Rattle.std.proofs.Common.{refl, append_assoc}
use Rattle.ucon_trial.proofs.transcript.put_unplaced.Goals as goal

pub returns-clause-text : goal.returns-clause-text
returns-clause-text c = rw (c.in_ok-push.ensures.items, c.in_ok-extend_from_slice.ensures.items, c.in_ok-put_client.ensures.text) (simp append_assoc refl)
