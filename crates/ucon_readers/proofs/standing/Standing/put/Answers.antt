use Rattle.std.proofs.Common.{◌≡◌, ◌↔◌, ◌⊎◌, ℕ, subst}
use Rattle.std.specs.List.{Contains}
use Rattle.ucon_readers.specs.Listing.{Listing, readers_in}
use Rattle.ucon_readers.specs.Lists.{first_in}
use Rattle.ucon_readers.proofs.standing.Standing.put.Goals as goal

pub returns-clause-members : goal.returns-clause-members
returns-clause-members c =
    subst
    (λ (s : Listing). (n : ℕ) → Contains c.put_firsts.new.work.members n
    ↔ ((Contains (readers_in s c.args.place) n × (first_in s.lists.members n ≡ n)) ⊎ Contains c.args.work.now.members n))
    c.self.view_is c.put_firsts.ensures.members
