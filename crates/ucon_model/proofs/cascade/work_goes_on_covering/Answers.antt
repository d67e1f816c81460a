use Rattle.ucon_model.proofs.Working.{covers-wider, covers-holds, covers-actions, covers-fails}
use Rattle.ucon_model.proofs.cascade.work_goes_on_covering.Goals as goal

pub returns-clause-wider : goal.returns-clause-wider
returns-clause-wider c = covers-wider

pub returns-clause-holds : goal.returns-clause-holds
returns-clause-holds c = covers-holds

pub returns-clause-actions : goal.returns-clause-actions
returns-clause-actions c = covers-actions

pub returns-clause-fails : goal.returns-clause-fails
returns-clause-fails c = covers-fails
