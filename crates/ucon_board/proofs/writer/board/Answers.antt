use Rattle.std.proofs.Common.{rules, ◌≡◌, [], drop, ap, sym, subst}
use mathlib.Core.List.{IsPrefix}
use Rattle.ucon_board.specs.Rule.{Told}
use Rattle.ucon_board.proofs.Prefixes.{prefix_self}
use Rattle.ucon_board.proofs.Keeping.{sees, tied_still}
use Rattle.ucon_board.proofs.writer.board.Goals as goal

pub publish_as-inner-requires : goal.publish_as-inner-requires
publish_as-inner-requires g c next is =
    let x = c.in_ok-inner.inner.desk.shown.value in
    let pending : drop c.in_ok-inner.inner.behind c.in_ok-inner.inner.log.items ≡ [] = search rules in
    let now = rw pending at is in
    let seen : next.seen ≡ x.seen = ap (λ t. t.2) now in
    sees _ _ x next (tied_still x next (ap (λ t. t.0) now) (ap (λ t. t.1) now) seen) (ap (λ s. s.book) seen) (subst (λ (s : Told). IsPrefix x.seen.log s.log) (sym seen) (prefix_self x.seen.log))
