use Rattle.std.proofs.Common.{◌≡◌, ◌+◌, ◌<◌, ◌≤◌, ◌++◌, All, false, map, length, vec_len}
use Rattle.std.specs.Prelude.{vec_capacity}
use Rattle.ucon_base.specs.Elements.{Each}
use Rattle.ucon_turn.specs.Lists.{Has}
use Rattle.ucon_turn.specs.Turns.{IsSeatOf}
use Rattle.ucon_client.specs.Live.{AreFrom, Lives}
use Rattle.ucon_client.proofs.living.seat_all.Given as goal

abbrev pub invariant-loop-taker : goal.invariant-loop-taker
invariant-loop-taker g l = record {
  turn : IsSeatOf l.fn.turn l.seat × (l.seat.number ≡ 0) × (l.seat.taken ≡ l.fn.seat.taken) × (l.seat.seen ≡ l.fn.seat.seen);
  given : Each (Has (map (λ c. c.client.part.number + 1) l.clients.items)) l.seat.given;
  below : Each (λ k. k < length l.yielded + 1) l.seat.given;
  live : All (λ c. Lives l.fn.turn c.client c.taker.taken.lines c.short × (c.taker.taken.ended ≡ false)) l.clients.items;
  taken : map (λ c. c.taker) l.clients.items ≡ l.yielded;
  numbers : AreFrom 0 (map (λ c. c.client.part.number) l.clients.items);
  takers : l.fn.takers.items ≡ l.yielded ++ l.taker-iterator.rest.items;
  room : (vec_len l.clients ≡ length l.yielded) × (length l.fn.takers.items ≤ vec_capacity l.clients);
}
