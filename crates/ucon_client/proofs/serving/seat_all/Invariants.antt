use Rattle.std.proofs.Common.{◌≡◌, ◌+◌, ◌≤◌, ◌++◌, All, map, length, vec_len}
use Rattle.std.specs.Prelude.{vec_capacity}
use Rattle.ucon_base.specs.Elements.{Each}
use Rattle.ucon_turn.specs.Lists.{Has}
use Rattle.ucon_turn.specs.Turns.{IsSeatOf}
use Rattle.ucon_client.specs.Answers.{IsReaderAt, ServesWith}
use Rattle.ucon_client.proofs.serving.seat_all.Given as goal

abbrev pub invariant-loop-part : goal.invariant-loop-part
invariant-loop-part g l = record {
  turn : IsSeatOf l.fn.turn l.seat × (l.seat.number ≡ 0) × (l.seat.taken ≡ l.fn.seat.taken) × (l.seat.seen ≡ l.fn.seat.seen);
  given : Each (Has (map (λ p. p.number + 1) l.yielded)) l.seat.given;
  serves : All (λ c. ServesWith l.fn.turn c.part c.seat c.looks) l.clients.items;
  readers : Each (IsReaderAt l.fn.turn.opened) l.readers.items;
  seated : map (λ c. c.part) l.clients.items ≡ l.yielded;
  parts : l.fn.parts.items ≡ l.yielded ++ l.part-iterator.rest.items;
  room : (vec_len l.clients ≡ length l.yielded) × (length l.fn.parts.items ≤ vec_capacity l.clients);
}
