use Rattle.std.proofs.Common.{◌≡◌, All, map, length}
use Rattle.ucon_client.specs.Inbox.{nothing}
use Rattle.ucon_client.proofs.living.inboxes.Given as goal

abbrev pub invariant-loop-client : goal.invariant-loop-client
invariant-loop-client l = record {
  count : (length l.feeders.items ≡ l._client) × (length l.takers.items ≡ l._client);
  inboxes : map (λ t. t.inbox) l.takers.items ≡ map (λ f. f.inbox) l.feeders.items;
  fed : All (λ f. f.fed ≡ nothing) l.feeders.items;
  taken : All (λ t. t.taken ≡ nothing) l.takers.items;
}
