-- A row's line is read as the row.
use Rattle.std.proofs.Common.{◌≡◌, ◌<◌, true, ◌∷◌, ◌++◌, Some, refl, ◌∙◌, arith}
use Rattle.std.specs.Prelude.{ℤ, Option, codes}
use Rattle.std.specs.Fmt.{decimal, signed_decimal}
use Rattle.std.proofs.lemmas.Bool.{lt-ltb}
use Rattle.ucon_base.specs.declared.value.Side.TheVariants as sides
use Rattle.ucon_base.specs.declared.value.Value.{Value}
use Rattle.ucon_base.specs.declared.value.Value.TheVariants.{Int}
use Rattle.ucon_base.specs.NameBytes.{is_name}
use Rattle.ucon_base.specs.Spelling.{value_spelling}
use Rattle.ucon_model.specs.declared.command.Caller.{Caller}
use Rattle.ucon_model.specs.declared.session.SessionState.{SessionState}
use Rattle.ucon_model.specs.declared.session.SessionState.TheVariants as states
use Rattle.ucon_model.specs.CommandLine.{name_in, value_in, integer_in}
use Rattle.ucon_model.specs.Output.{Lacks}
use Rattle.ucon_model.specs.Payload.{caller_read}
use Rattle.ucon_model.specs.Plain.{Bytes}
use Rattle.ucon_model.specs.ReplyText.{state_read}
use Rattle.ucon_model.specs.Spelling.{state_word}
use Rattle.ucon_point.specs.declared.row.Row.{Row}
use Rattle.ucon_point.specs.declared.row.Row.TheVariants.{Variable, Entity, Attribute, Act, Session}
use Rattle.ucon_point.specs.RowText.{row_spelling, IsRow, IsSpelled, AreNames, front, names_front, valued, act_read, session_read, row_told, row_read}
use Rattle.ucon_point.specs.Cutting.{cut_at-append}
use Rattle.ucon_point.proofs.Digits.{caller_read_is, count_read-decimal}
use Rattle.ucon_point.proofs.RowLowerLaws.{TextsLack}

-- ---- words

name_back : (name : Bytes) → is_name name ≡ true → name_in name ≡ Some name
name_back name h = rw h refl

value_back : (v : Value) → IsSpelled v → value_in (value_spelling v) ≡ Some v
value_back v h = rw h refl

pub integer_back : (z : ℤ) → IsSpelled (Int z) → integer_in (signed_decimal z) ≡ Some z
integer_back z h = rw h refl

caller_back : (caller : Caller) → caller.0 < 64 → caller_read (decimal caller.0) ≡ Some caller
caller_back caller lt = caller_read_is (decimal caller.0) ∙ rw (count_read-decimal caller.0 (omega (arith, lt)), lt-ltb caller.0 64 lt) refl

state_back : (s : SessionState) → state_read (state_word s) ≡ Some s
state_back states.Requesting = refl
state_back states.Denied = refl
state_back states.Accessing = refl
state_back states.Revoked = refl
state_back states.Ended = refl

front_back : {A : Type 0} (kind : Bytes → Option A) (x : A) (w rest : Bytes) → kind w ≡ Some x → Lacks 32 w → front kind (w ++ 32 ∷ rest) ≡ Some (x, rest)
unfolding front
front_back kind x w rest is lacks = rw (cut_at-append 32 w rest lacks, is) refl

module _ (lack : TextsLack) where
  name_lacks : (name : Bytes) → is_name name ≡ true → Lacks 32 name
  name_lacks name h = lack.names 32 name refl h

  name_front_back : (name rest : Bytes) → is_name name ≡ true → front name_in (name ++ 32 ∷ rest) ≡ Some (name, rest)
  name_front_back name rest h = front_back name_in name name rest (name_back name h) (name_lacks name h)

  names_back : (a b c rest : Bytes) → AreNames a b c → names_front (a ++ 32 ∷ (b ++ 32 ∷ (c ++ 32 ∷ rest))) ≡ Some ((a, b, c), rest)
  unfolding names_front
  names_back a b c rest h =
      rw (name_front_back a (b ++ 32 ∷ (c ++ 32 ∷ rest)) h.0, name_front_back b (c ++ 32 ∷ rest) h.1, name_front_back c rest h.2) refl

  state_lacks : (s : SessionState) → Lacks 32 (state_word s)
  state_lacks states.Requesting = lack.tested 32 (codes "requesting") refl
  state_lacks states.Denied = lack.tested 32 (codes "denied") refl
  state_lacks states.Accessing = lack.tested 32 (codes "accessing") refl
  state_lacks states.Revoked = lack.tested 32 (codes "revoked") refl
  state_lacks states.Ended = lack.tested 32 (codes "ended") refl

  valued_back : (name : Bytes) (v : Value) → is_name name ≡ true → IsSpelled v → valued (name ++ 32 ∷ value_spelling v) ≡ Some (name, v)
  unfolding valued
  valued_back name v h spelled = rw (name_front_back name (value_spelling v) h, value_back v spelled) refl

  pub row_back : (row : Row) → IsRow row → row_read (row_spelling row) ≡ Some row
  unfolding row_read row_told act_read session_read
  row_back (Variable name v) h = rw (valued_back name v h.0 h.1) refl
  row_back (Attribute name v) h = rw (valued_back name v h.0 h.1) refl
  row_back (Entity sides.Subject name) h = rw (name_back name h) refl
  row_back (Entity sides.Object name) h = rw (name_back name h) refl
  row_back (Act subject action object moment) h = rw (names_back subject action object (signed_decimal moment) h.0, integer_back moment h.1) refl
  row_back (Session s) h =
      rw (
        front_back caller_read s.caller (decimal s.caller.0) (s.right ++ 32 ∷ (s.subject ++ 32 ∷ (s.object ++ 32 ∷ (state_word s.state ++ 32 ∷ signed_decimal s.start))))
            (caller_back s.caller h.0) (lack.numbers 32 s.caller.0 (omega arith) (omega (arith, h.0))),
        names_back s.right s.subject s.object (state_word s.state ++ 32 ∷ signed_decimal s.start) h.1,
        front_back state_read s.state (state_word s.state) (signed_decimal s.start) (state_back s.state) (state_lacks s.state),
        integer_back s.start h.2,
      ) refl
