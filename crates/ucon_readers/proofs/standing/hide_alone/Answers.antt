use Rattle.std.proofs.Common.{◌≡◌, ◌≢◌, ◌↔◌, ◌∙◌, ℕ, List, false, true, sym, subst}
use Rattle.std.specs.List.{Contains}
use Rattle.ucon_links.specs.Dependents.{stands_in}
use Rattle.ucon_readers.proofs.Leading.{in_others, not_in_others, of_others, there_if_stands}
use Rattle.ucon_readers.proofs.standing.hide_alone.Goals as goal

pub returns-then-is_there-clause-stands : goal.returns-then-is_there-clause-stands
returns-then-is_there-clause-stands c = λ unjoined l place.
    let was = stands_in c.args.index.now place in
    subst (λ (xs : List ℕ). Contains xs l ↔ ((l ≢ c.args.session) × Contains was l)) (sym (c.hide.ensures.stands place)) (
      λ has. (not_in_others c.args.session was l has, of_others c.args.session was l has),
      λ both. in_others c.args.session was l both.1 both.0,
    )

pub returns-else-is_there-clause-stands : goal.returns-else-is_there-clause-stands
returns-else-is_there-clause-stands c = λ unjoined l place. (
  λ has. (
    λ same. (let both : false ≡ true = sym c.if-is_there.false ∙ c.is_there.ensures
        ∙ there_if_stands c.args.session c.args.index.now.places place (subst (Contains (stands_in c.args.index.now place)) same has) in
        cc),
    has,
  ),
  λ both. both.1,
)
