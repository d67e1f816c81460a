use Rattle.ucon_board.proofs.Telling.{one_says, all_say, look_says}
use Rattle.ucon_board.proofs.laws.replies_tell_states.Goals as goal

pub returns-clause-one : goal.returns-clause-one
returns-clause-one c = one_says c.actions_are_done_in_order.ensures c.writes_leave_sessions.ensures.sessions

pub returns-clause-all : goal.returns-clause-all
returns-clause-all c = all_say c.actions_are_done_in_order.ensures c.writes_leave_sessions.ensures.sessions

pub returns-clause-look : goal.returns-clause-look
returns-clause-look c = look_says
