use Rattle.std.proofs.Common.{rules}
use Rattle.ucon_board.proofs.Boards.{opens_counted}
use Rattle.ucon_board.proofs.history.History.open.Goals as goal

pub open_row-told-requires : goal.open_row-told-requires
open_row-told-requires c = (opens_counted _ _, search rules, search rules)
