use Rattle.std.proofs.Common.{◌∙◌, List, filter, map, ap, sym}
use Rattle.std.specs.List.{flat_map, list_any}
use Rattle.ucon_model.specs.declared.policy.Predicate.{Predicate}
use Rattle.ucon_model.specs.Decision.{ongoing}
use Rattle.ucon_model.specs.Groups.{is_of_side}
use Rattle.ucon_model.specs.Places.{test_places}
use Rattle.ucon_model.specs.Views.{predicate_of}
use Rattle.ucon_cascade.proofs.Sides.{none_distinct, none_read_while}
use Rattle.ucon_cascade.proofs.kinds.reads_of.Goals as goal

pub returns : goal.returns
returns c = λ no.
    let q = is_of_side c.args.side in
    let preds = c.slice.result.now in
    let none = none_read_while q preds (sym c.any_reads.ensures ∙ no) in
    none_distinct q _ (ap (λ (ps : List Predicate). list_any q (flat_map (λ p. test_places p.test) (filter ongoing (map predicate_of ps)))) (sym c.slice.ensures) ∙ none)
