use Rattle.std.proofs.Common.{◌≡◌, sym, ◌∙◌}
use Rattle.ucon_model.specs.Found.{Finding, fresh, not_journal, damaged, holds}
use Rattle.ucon_model.specs.History.{History}
use Rattle.ucon_model.specs.Plain.{Bytes}
use Rattle.ucon_store.specs.Found.{Tells, found}
use Rattle.ucon_top.proofs.laws.files_are_found_as_one_history.Goals as goal

one : (f : Finding) (text : Bytes) (H K : History) → Tells f text H → Tells f text K → H ≡ K
one fresh text H K h k = h ∙ sym k
one not_journal text H K h k = absurd h
one (damaged number place) text H K h k = absurd h
one (holds other P G gate) text H K h k = sym h.1 ∙ k.1

pub returns : goal.returns
returns c = λ text file H K h k. one (found file) text H K h k
