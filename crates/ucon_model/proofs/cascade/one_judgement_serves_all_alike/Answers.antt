use Rattle.ucon_model.proofs.Firsts.{likes_fail, judged-locations}
use Rattle.ucon_model.proofs.cascade.one_judgement_serves_all_alike.Goals as goal

pub returns-clause-fails : goal.returns-clause-fails
returns-clause-fails c = likes_fail

pub returns-clause-reads : goal.returns-clause-reads
returns-clause-reads c = judged-locations
