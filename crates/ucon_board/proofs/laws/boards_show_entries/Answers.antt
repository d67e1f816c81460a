use Rattle.ucon_board.proofs.Showing.{true_of, unpublished, published}
use Rattle.ucon_board.proofs.laws.boards_show_entries.Goals as goal

pub returns-clause-true_of : goal.returns-clause-true_of
returns-clause-true_of c = true_of c.replies_tell_states.ensures.all

pub returns-clause-unpublished : goal.returns-clause-unpublished
returns-clause-unpublished c = unpublished

pub returns-clause-published : goal.returns-clause-published
returns-clause-published c = published
