use Rattle.ucon_model.proofs.Drafts.{block-made, reply-made, draft-cost}
use Rattle.ucon_model.proofs.cascade.drafts_are_blocks.Goals as goal

pub returns-clause-block : goal.returns-clause-block
returns-clause-block c = block-made

pub returns-clause-reply : goal.returns-clause-reply
returns-clause-reply c = reply-made

pub returns-clause-cost : goal.returns-clause-cost
returns-clause-cost c = draft-cost
