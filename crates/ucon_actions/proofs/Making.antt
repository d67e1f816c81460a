-- What may be made: entities and acts.
use Rattle.std.proofs.Common.{◌≡◌, ◌⊎◌, inl, inr, ◌∙◌, sym, ap, subst, refl, ◌<◌, ℕ, true, false, length}
use Rattle.std.specs.Prelude.{ℤ, IsSome, Option, None, is_some}
use Rattle.ucon_base.specs.declared.value.Side.{Side}
use Rattle.ucon_base.specs.declared.value.Side.TheVariants as sides
use Rattle.ucon_model.specs.Plain.{Bytes, PlainPolicy}
use Rattle.ucon_model.specs.Action.{Trace, act}
use Rattle.ucon_model.specs.OwnActions.{new_entity, names_act}
use Rattle.ucon_model.specs.Legal.{IsLegal}
use Rattle.ucon_model.specs.Reach.{replaces}
use Rattle.ucon_state.specs.Following.{Follows}
use Rattle.ucon_state.specs.Shown.{Shown}
use Rattle.ucon_state.specs.Tables.{entities_of, entity_number, moment_in}
use Rattle.ucon_state.specs.Applied.{applied, with_entity}
use Rattle.ucon_engine.specs.ReadOff.{TablesKeep, entity_there, entities_same, moment_same, acts_same}
use Rattle.ucon_actions.proofs.Stepping.{LeavesPolicy}

pub new_entity_applied : (s : Shown) (side : Side) (name : Bytes) → with_entity s.policy s.tables side name ≡ applied s.policy (new_entity side name) s.tables
new_entity_applied s sides.Subject name = refl
new_entity_applied s sides.Object name = refl

pub new_entity_stays : (s : Shown) (side : Side) (name : Bytes) → LeavesPolicy s (new_entity side name)
new_entity_stays s sides.Subject name = refl
new_entity_stays s sides.Object name = refl

pub new_entity_replaces_nothing : (side : Side) (name : Bytes) → replaces (new_entity side name) ≡ false
new_entity_replaces_nothing sides.Subject name = refl
new_entity_replaces_nothing sides.Object name = refl

module _ (keep : TablesKeep) (s : Shown) (P : PlainPolicy) (T : Trace) (h : Follows s P T) where
  pub new_entity_legal : (side : Side) (name : Bytes) → entity_number s.tables side name ≡ None → length (entities_of side s.tables) < 16384 → IsLegal P T (new_entity side name)
  new_entity_legal sides.Subject name new room =
      (entity_there keep s P T h sides.Subject name ∙ ap is_some new, subst (λ (n : ℕ). n < 16384) (sym (entities_same keep s P T h sides.Subject)) room)
  new_entity_legal sides.Object name new room =
      (entity_there keep s P T h sides.Object name ∙ ap is_some new, subst (λ (n : ℕ). n < 16384) (sym (entities_same keep s P T h sides.Object)) room)

  pub act_legal : (u a o : Bytes) → IsSome (entity_number s.tables sides.Subject u) → IsSome (entity_number s.tables sides.Object o)
      → names_act s.policy.rights a ≡ true → IsSome (moment_in s.tables u a o) ⊎ (length s.tables.acts < 1048576) → IsLegal P T (act u a o)
  act_legal u a o subject object named room = (
    entity_there keep s P T h sides.Subject u ∙ subject,
    entity_there keep s P T h sides.Object o ∙ object,
    subst (λ (Q : PlainPolicy). names_act Q.rights a ≡ true) h.policy named,
    elim room [
      | inl there ↦ inl (subst (λ (m : Option ℤ). IsSome m) (sym (moment_same keep s P T h u a o)) there)
      | inr few ↦ inr (subst (λ (n : ℕ). n < 1048576) (sym (acts_same keep s P T h)) few)
    ],
  )
