-- Checks that are met for a session.
use Rattle.std.proofs.Common.{◌≡◌, ◌∙◌, ◌<◌, ℕ, ap, List, length, slice_get, Option, Some, None, IfSome, option_and_then, inl, inr, arith}
use Rattle.std.specs.List.{All}
use Rattle.std.specs.Option.{option_map_or}
use Rattle.std.proofs.lemmas.Option.{slice_get_cases}
use Rattle.ucon_base.specs.declared.value.Side.TheVariants as sides
use Rattle.ucon_base.specs.declared.value.Value.{Value}
use Rattle.ucon_model.specs.declared.formula.Ref.{Ref}
use Rattle.ucon_model.specs.declared.session.SessionRow.{SessionRow}
use Rattle.ucon_model.specs.Decision.{failing_of, first_false, no_right, ongoing, right_named}
use Rattle.ucon_model.specs.Plain.{Bytes, PlainPolicy, PlainRight}
use Rattle.ucon_model.specs.Readings.{attr_position}
use Rattle.ucon_model.specs.Truth.{Readings}
use Rattle.ucon_model.specs.Typing.{IsTyped}
use Rattle.ucon_state.specs.declared.session.Session.{Session}
use Rattle.ucon_state.specs.declared.planned.Check.{Check}
use Rattle.ucon_state.specs.Planned.{AreEnough, IsMet, StandsAt}
use Rattle.ucon_state.specs.Sound.{StandFirst}
use Rattle.ucon_state.specs.Stored.{AreDistinct, Stored, named, right_at, row_of}
use Rattle.ucon_state.specs.Tables.{cell_at, place_in}
use Rattle.ucon_state.proofs.Numbered.{number_of_name}
use Rattle.ucon_state.proofs.Rights.{named_there}

-- what follows of a value, where there is one
pub some_too : (o : Option Value) (A B : Value → Type 0) → ((v : Value) → A v → B v) → IfSome o A → IfSome o B
some_too None A B so h = cc
some_too (Some v) A B so h = so v h

module _ (P : PlainPolicy) (R : List Bytes) (t : Stored) (x : Session) (position : ℕ) (v : Value) where
  -- the attribute at this position of a session's own subject or object is the one that stands there by its name
  pub own_subject : AreDistinct t.subjects → x.subject < length t.subjects
      → ((attr : Bytes) → attr_position P sides.Subject attr ≡ Some position → option_and_then (slice_get t.cells) (cell_at P t sides.Subject x.subject attr) ≡ Some v)
      → (place : Ref) → StandsAt P place sides.Subject position → place_in P (named R t) (row_of R t.subjects t.objects x) place ≡ Some v
  own_subject differ below told place stands =
      ap (place_in P (named R t) (row_of R t.subjects t.objects x)) stands.is
      ∙ ap (λ o. option_and_then (slice_get t.cells) (option_and_then (λ e. cell_at P t sides.Subject e stands.attr) o)) (number_of_name t.subjects x.subject differ below)
      ∙ told stands.attr stands.at

  pub own_object : AreDistinct t.objects → x.object < length t.objects
      → ((attr : Bytes) → attr_position P sides.Object attr ≡ Some position → option_and_then (slice_get t.cells) (cell_at P t sides.Object x.object attr) ≡ Some v)
      → (place : Ref) → StandsAt P place sides.Object position → place_in P (named R t) (row_of R t.subjects t.objects x) place ≡ Some v
  own_object differ below told place stands =
      ap (place_in P (named R t) (row_of R t.subjects t.objects x)) stands.is
      ∙ ap (λ o. option_and_then (slice_get t.cells) (option_and_then (λ e. cell_at P t sides.Object e stands.attr) o)) (number_of_name t.objects x.object differ below)
      ∙ told stands.attr stands.at

-- a session of which enough is met doesn't fail
pub met_enough : (P : PlainPolicy) (R : List Bytes) (S : Readings) (row : SessionRow) (k : ℕ) (checks : List Check) → row.right ≡ right_at R k → k < length P.rights
    → IsTyped P → StandFirst P.rights R → ((r : PlainRight) → slice_get P.rights k ≡ Some r → AreEnough P checks r.preds) → All (IsMet P S row) checks
    → failing_of P S row ≡ None
met_enough P R S row k checks its within typed first enough met = elim (slice_get_cases P.rights k).1 [
  | inl (r, there, at, got) ↦
      ap (λ o. option_map_or (λ (right : PlainRight). first_false S row ongoing right.preds) o (Some no_right))
      (ap (right_named P.rights) its ∙ named_there P R k r typed first at)
      ∙ enough r at S row met
  | inr (past, none) ↦ absurd (omega (arith, past, within))
]
