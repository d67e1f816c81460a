use Rattle.std.proofs.Common.{◌↔◌, ◌∙◌, ℕ, List, [], ap, subst, sym}
use Rattle.std.specs.Prelude.{Option}
use Rattle.std.specs.List.{Contains}
use Rattle.std.specs.Option.{option_map_or}
use Rattle.ucon_model.specs.Places.{places_read}
use Rattle.ucon_model.specs.Plain.{PlainRight}
use Rattle.ucon_state.specs.Shown.{shown}
use Rattle.ucon_cascade.specs.Numbering.{place_numbers}
use Rattle.ucon_readers.specs.Readers.{readers_at}
use Rattle.ucon_cascade.proofs.Begun.{comes_like}
use Rattle.ucon_cascade.proofs.Outcomes.{ok_then}
use Rattle.ucon_cascade.proofs.follow.lead_list.Goals as goal

pub returns-in_err-places-clause-undo : goal.returns-in_err-places-clause-undo
returns-in_err-places-clause-undo c = c.undoing_gives_what_is_kept.ensures.readers c.args.readers.now c.requires.kept

pub place_numbers-requires : goal.place_numbers-requires
place_numbers-requires c = λ row is.
    c.slice.ensures ∙ c.in_ok-places.ensures ∙ sym (ap (λ (o : Option PlainRight). option_map_or places_read o []) (c.requires.right row is))

pub returns-in_err-numbers-clause-undo : goal.returns-in_err-numbers-clause-undo
returns-in_err-numbers-clause-undo c = c.undoing_gives_what_is_kept.ensures.readers c.args.readers.now c.requires.kept

pub returns-clause-comes : goal.returns-clause-comes
returns-clause-comes c =
    let places = c.slice-2.result.now in
    ok_then c.lead.result
    (λ comes row is. comes_like (readers_at c.args.readers.now) (readers_at c.lead.new.self) c.args.n places (place_numbers (shown c.args.state.now) row)
    (λ n. subst (λ (ns : List ℕ). Contains ns n ↔ Contains (place_numbers (shown c.args.state.now) row) n) (sym c.slice-2.ensures) (c.in_ok-numbers.ensures.numbers row is n))
    comes)
    c.lead.ensures.comes
