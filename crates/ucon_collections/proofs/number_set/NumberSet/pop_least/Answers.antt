use Rattle.std.proofs.Common.{refl}
use Rattle.ucon_collections.proofs.SetLemmas.{IsRising-set_of, members-none, members-take, All-take}
use Rattle.ucon_collections.proofs.number_set.NumberSet.pop_least.Goals as goal

pub returns-in_err-least-clause-empty : goal.returns-in_err-least-clause-empty
returns-in_err-least-clause-empty c =
    rw (← c.self.view_is) (λ _. members-none _ _ c.in_err-least.ensures.none, λ _. rw c.from_residual.ensures refl)

pub returns-in_err-least-clause-rising : goal.returns-in_err-least-clause-rising
returns-in_err-least-clause-rising c = rw (← c.self.view_is) (IsRising-set_of _ _)

pub returns-clause-least : goal.returns-clause-least
returns-clause-least c = rw (← c.self.view_is) (members-take _ _ _ _ c.self.invariant.below c.in_ok-least.ensures.least c.clear.ensures)

pub returns-clause-empty : goal.returns-clause-empty
returns-clause-empty c =
    let took = members-take _ _ _ _ c.self.invariant.below c.in_ok-least.ensures.least c.clear.ensures in
    rw (← c.self.view_is) (λ no. cc, λ none. cc)

pub returns-clause-first : goal.returns-clause-first
returns-clause-first c = All-take _ _ _ _ c.self.invariant.below c.in_ok-least.ensures.least c.clear.ensures

pub returns-clause-rising : goal.returns-clause-rising
returns-clause-rising c = rw (← c.self.view_is) (IsRising-set_of _ _)
