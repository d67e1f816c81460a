-- A new entity.
use Rattle.std.proofs.Common.{◌≡◌, ◌∙◌, ap, List, ◌++◌, length, take}
use Rattle.std.proofs.Math.Seq.{take-append_seam}
use Rattle.ucon_base.specs.declared.value.Side.{Side}
use Rattle.ucon_base.specs.declared.value.Side.TheVariants as sides
use Rattle.ucon_base.specs.declared.value.Value.{Value}
use Rattle.ucon_model.specs.Plain.{Bytes}
use Rattle.ucon_state.specs.declared.change.Change.TheVariants as changes
use Rattle.ucon_state.specs.Stored.{Stored}
use Rattle.ucon_state.specs.Undo.{undone}
use Rattle.ucon_state.specs.Applied.{with_new_entity}
use Rattle.ucon_state.proofs.Lists.{front_of_push}

-- an entity that was added is taken away again
pub entity_undone : (t : Stored) (side : Side) (name : Bytes) (values : List Value)
    → undone (changes.Entity side (length t.cells)) (with_new_entity t side name values) ≡ t
entity_undone t sides.Subject name values =
    ap (λ es. record t { subjects = es; cells = take (length t.cells) (t.cells ++ values) }) (front_of_push t.subjects (name, length t.cells))
    ∙ ap (λ cells. record t { cells = cells }) (take-append_seam t.cells values)
entity_undone t sides.Object name values =
    ap (λ es. record t { objects = es; cells = take (length t.cells) (t.cells ++ values) }) (front_of_push t.objects (name, length t.cells))
    ∙ ap (λ cells. record t { cells = cells }) (take-append_seam t.cells values)
