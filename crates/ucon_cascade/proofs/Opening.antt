-- The monitor before there are sessions.
use Rattle.std.proofs.Common.{◌≡◌, ◌∙◌, ℕ, zero, suc, Result, Ok, Err, IfOk, refl, sym, ap}
use Rattle.std.specs.Prelude.{if◌then◌else◌, Option, None}
use Rattle.ucon_model.specs.declared.session.SessionRow.{SessionRow}
use Rattle.ucon_model.specs.Decision.{failing}
use Rattle.ucon_model.specs.Plain.{PlainPolicy}
use Rattle.ucon_model.specs.Readings.{in_force, is_accessing}
use Rattle.ucon_model.specs.Truth.{readings}
use Rattle.ucon_model.specs.Work.{NobodyFails}
use Rattle.ucon_state.specs.Applied.{opening_tables}
use Rattle.ucon_state.specs.Following.{AfterEach}
use Rattle.ucon_state.specs.Shown.{Shown}
use Rattle.ucon_state.specs.Tables.{Tables, session_in}

-- before there are sessions nobody fails
pub nobody_yet : (s : Shown) (Q : PlainPolicy) → s.tables ≡ opening_tables Q → AfterEach s NobodyFails
nobody_yet s Q is P T h n =
    ap (λ (row : Option SessionRow). if is_accessing row then failing (in_force P T) (readings P T) n else None)
    (sym (h.tables.sessions.rows n) ∙ ap (λ (t : Tables). session_in t n) is ∙ none n)
  where
    none : (n : ℕ) → session_in (opening_tables Q) n ≡ None
    none zero = refl
    none (suc n) = refl

pub if_ok : {A E : Type 0} {P Q : A → Type 0} (result : Result A E) → ((a : A) → P a → Q a) → IfOk result P → IfOk result Q
if_ok (Ok a) implies holds = implies a holds
if_ok (Err e) implies holds = holds
