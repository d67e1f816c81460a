use Rattle.std.proofs.Common.{◌∙◌, sym, ap, subst, inr, refl, List, Some}
use Rattle.std.proofs.lemmas.Option.{slice_get-get_or}
use Rattle.ucon_model.specs.Checked.{checked_policy}
use Rattle.ucon_state.specs.declared.change.Undo.{Undo}
use Rattle.ucon_state.specs.Shown.{right_names, showing}
use Rattle.ucon_state.specs.Sound.{AllSound}
use Rattle.ucon_state.specs.Views.{lists_of}
use Rattle.ucon_state.proofs.Amended.{one_more_named}
use Rattle.ucon_state.proofs.state.State.make_room.Goals as goal

pub loop-right-init : goal.loop-right-init
loop-right-init c = record { shown_stays = refl; named = λ name has. inr has }

pub loop-right-preserved : goal.loop-right-preserved
loop-right-preserved c =
    let items = c.slice-right-items.result.now in
    let i = c.loop-right.right-index in
    let r = c.right-item.result in
    record {
      shown_stays = c.in_ok-add_right.ensures.shown ∙ c.loop-right.invariant.shown_stays;
      named = one_more_named (right_names c.loop-right.self) (right_names c.add_right.new.self) items i r
          (slice_get-get_or items i r c.loop-right-test.true ∙ ap Some (sym c.right-item.is)) c.in_ok-add_right.ensures.there c.in_ok-add_right.ensures.stay c.loop-right.invariant.named;
    }

pub invariant_of-self : goal.invariant_of-self
invariant_of-self c =
    let s = c.loop-right.self in
    record {
      sound = subst (λ (cs : List Undo). AllSound (checked_policy s.planned.checked) (right_names s) cs (lists_of s.tables)) (sym c.reserve.ensures.items) s.sound;
      has_rights = s.has_rights;
      in_order = s.in_order;
    }

pub returns-clause-shown : goal.returns-clause-shown
returns-clause-shown c =
    let s = c.loop-right.self in
    ap (λ (cs : List Undo). showing (checked_policy s.planned.checked) (right_names s) (lists_of s.tables) cs) c.reserve.ensures.items
    ∙ c.loop-right.invariant.shown_stays
