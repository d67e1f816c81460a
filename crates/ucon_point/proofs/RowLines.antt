-- The lines of rows have no newline.
use Rattle.std.proofs.Common.{◌≡◌, ℕ, ◌<◌, ◌^◌, true, ◌∷◌, ◌++◌, refl, arith}
use Rattle.std.specs.Prelude.{ℤ, codes}
use Rattle.std.specs.Fmt.{decimal, signed_decimal}
use Rattle.ucon_base.specs.declared.value.Side.TheVariants as sides
use Rattle.ucon_base.specs.declared.value.Value.{Value}
use Rattle.ucon_base.specs.declared.value.Value.TheVariants.{Int}
use Rattle.ucon_base.specs.NameBytes.{is_name}
use Rattle.ucon_base.specs.Spelling.{value_spelling}
use Rattle.ucon_model.specs.declared.session.SessionState.{SessionState}
use Rattle.ucon_model.specs.declared.session.SessionState.TheVariants as states
use Rattle.ucon_model.specs.Output.{Lacks}
use Rattle.ucon_model.specs.Plain.{Bytes}
use Rattle.ucon_model.specs.Spelling.{state_word}
use Rattle.ucon_point.specs.declared.row.Row.{Row}
use Rattle.ucon_point.specs.declared.row.Row.TheVariants.{Variable, Entity, Attribute, Act, Session}
use Rattle.ucon_point.specs.RowText.{row_spelling, IsRow, IsSpelled}
use Rattle.ucon_point.proofs.RowLowerLaws.{TextsLack}
use Rattle.ucon_point.proofs.OneLine.{value_lacks}

value_one_line : (v : Value) → IsSpelled v → Lacks 10 (value_spelling v)
value_one_line v h = value_lacks (value_spelling v) v h

pub integer_one_line : (z : ℤ) → IsSpelled (Int z) → Lacks 10 (signed_decimal z)
integer_one_line z h = value_one_line (Int z) h

module _ (lack : TextsLack) where
  spaced : (a b : Bytes) → Lacks 10 a → Lacks 10 b → Lacks 10 (a ++ 32 ∷ b)
  spaced a b h k = lack.joined 10 a (32 ∷ b) h (refl, k)

  name_one_line : (name : Bytes) → is_name name ≡ true → Lacks 10 name
  name_one_line name h = lack.names 10 name refl h

  state_one_line : (s : SessionState) → Lacks 10 (state_word s)
  state_one_line states.Requesting = lack.tested 10 (codes "requesting") refl
  state_one_line states.Denied = lack.tested 10 (codes "denied") refl
  state_one_line states.Accessing = lack.tested 10 (codes "accessing") refl
  state_one_line states.Revoked = lack.tested 10 (codes "revoked") refl
  state_one_line states.Ended = lack.tested 10 (codes "ended") refl

  number_one_line : (n : ℕ) → n < 2 ^ 64 → Lacks 10 (decimal n)
  number_one_line n lt = lack.numbers 10 n (omega arith) lt

  pub row_one_line : (row : Row) → IsRow row → Lacks 10 (row_spelling row)
  row_one_line (Variable name v) h =
      spaced (codes "env") (name ++ 32 ∷ value_spelling v) (lack.tested 10 (codes "env") refl) (spaced name (value_spelling v) (name_one_line name h.0) (value_one_line v h.1))
  row_one_line (Attribute name v) h =
      spaced (codes "value") (name ++ 32 ∷ value_spelling v) (lack.tested 10 (codes "value") refl) (spaced name (value_spelling v) (name_one_line name h.0) (value_one_line v h.1))
  row_one_line (Entity sides.Subject name) h = spaced (codes "subject") name (lack.tested 10 (codes "subject") refl) (name_one_line name h)
  row_one_line (Entity sides.Object name) h = spaced (codes "object") name (lack.tested 10 (codes "object") refl) (name_one_line name h)
  row_one_line (Act subject action object moment) h =
      let c : Bytes = object ++ 32 ∷ signed_decimal moment in
      spaced (codes "act") (subject ++ 32 ∷ (action ++ 32 ∷ c)) (lack.tested 10 (codes "act") refl)
      (spaced subject (action ++ 32 ∷ c) (name_one_line subject h.0.0)
      (spaced action c (name_one_line action h.0.1)
      (spaced object (signed_decimal moment) (name_one_line object h.0.2) (integer_one_line moment h.1))))
  row_one_line (Session s) h =
      let c : Bytes = state_word s.state ++ 32 ∷ signed_decimal s.start in
      let b : Bytes = s.right ++ 32 ∷ (s.subject ++ 32 ∷ (s.object ++ 32 ∷ c)) in
      spaced (codes "session") (decimal s.caller.0 ++ 32 ∷ b) (lack.tested 10 (codes "session") refl)
      (spaced (decimal s.caller.0) b (number_one_line s.caller.0 (omega (arith, h.0)))
      (spaced s.right (s.subject ++ 32 ∷ (s.object ++ 32 ∷ c)) (name_one_line s.right h.1.0)
      (spaced s.subject (s.object ++ 32 ∷ c) (name_one_line s.subject h.1.1)
      (spaced s.object c (name_one_line s.object h.1.2)
      (spaced (state_word s.state) (signed_decimal s.start) (state_one_line s.state) (integer_one_line s.start h.2))))))
