use Rattle.std.proofs.Common.{◌≡◌, ◌+◌, ◌≤◌, ◌++◌, map, length, take, drop, vec_len}
use Rattle.std.specs.Prelude.{vec_capacity}
use Rattle.ucon_base.specs.Elements.{Each}
use Rattle.ucon_turn.specs.Lists.{Has}
use Rattle.ucon_turn.specs.Turns.{IsSeatOf}
use Rattle.ucon_model.specs.History.{History}
use Rattle.ucon_store.specs.declared.event.Event.TheVariants.{Done}
use Rattle.ucon_client.specs.Answers.{SaysFromStore, served_of}
use Rattle.ucon_client.specs.Clients.{AreJoined, Replies}
use Rattle.ucon_client.proofs.serving.join_all.Given as goal

abbrev pub invariant-loop-place : goal.invariant-loop-place
invariant-loop-place g l = record {
  turn : IsSeatOf l.fn.turn l.seat × (l.seat.number ≡ 0) × (l.seat.given ≡ l.fn.seat.given);
  joined : (says : Replies) (H : History) → SaysFromStore l.fn.turn.opened.store says H
      → AreJoined says (H ++ l.fn.turn.opened.store.entries) (map Done H ++ l.seat.seen) l.seat.taken (map served_of l.parts.items);
  back : Each (λ p. Has l.seat.taken (p.number + 1)) l.parts.items;
  answered : l.parts.items ≡ map (λ c. c.part) (take l._place l.fn.clients.items);
  rest : l.clients.items ≡ drop l._place l.fn.clients.items;
  room : (vec_len l.parts ≡ l._place) × (length l.fn.clients.items ≤ vec_capacity l.parts);
}
