use Rattle.std.proofs.Common.{refl}
use Rattle.ucon_board.proofs.Prefixes.{prefix_self}
use Rattle.ucon_board.proofs.Keeping.{sees}
use Rattle.ucon_board.proofs.reader.enter.Goals as goal

pub enter_as-requires : goal.enter_as-requires
enter_as-requires g c x = sees _ _ x x (λ t. t) refl (prefix_self x.seen.log)
