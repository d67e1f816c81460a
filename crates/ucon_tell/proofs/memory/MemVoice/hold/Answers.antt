use Rattle.std.proofs.Common.{ℕ, [], ◌∷◌, ◌++◌, List, refl, sym, ◌∙◌, ap}
use Rattle.ucon_tell.specs.declared.memory.Note.{Note}
use Rattle.ucon_tell.proofs.memory.MemVoice.hold.Goals as goal

pub returns-clause-noted : goal.returns-clause-noted
returns-clause-noted c =
    let note : Note = record { bytes = c.in_ok-held.held; moment = c.args.moment } in (
      note,
      c.in_ok-push.ensures.items ∙ ap (λ (ns : List Note). ns ++ note ∷ []) c.in_ok-reserve.ensures.items,
      c.in_ok-held.ensures ∙ ap (λ (l : List ℕ). l ++ c.args.bytes.now) c.deref.ensures.value ∙ sym c.in_ok-extend_from_slice.ensures.items,
      refl,
    )
