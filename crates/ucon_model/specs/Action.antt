-- What may happen under usage control, and the trace of what has happened.
use Rattle.std.specs.Prelude.{ℕ, ℤ, List, [], ◌∷◌, ◌++◌}
use Rattle.ucon_base.specs.declared.value.Side.{Side}
use Rattle.ucon_base.specs.declared.value.Value.{Value}
use Rattle.ucon_model.specs.declared.command.Caller.{Caller}
use Rattle.ucon_model.specs.Plain.{Bytes, PlainPolicy}

-- One thing that happens. `tries`, `permit`, `deny`, `ends` and `revoke` are tryaccess, permitaccess, denyaccess, endaccess and revokeaccess of
-- the formal model. A `write` is any of its preupdate, onupdate and postupdate (Zhang, Parisi-Presicce, Sandhu and Park, ACM TISSEC 8(4), 2005).
-- An `amend` replaces the policy in force by the one that its text spells; it is this project's own.
pub data Action : Type 0 where
  subject : (name : Bytes) → Action
  object : (name : Bytes) → Action
  write : (side : Side) (name attr : Bytes) (v : Value) → Action
  env : (name : Bytes) (v : Value) → Action
  tick : (t : ℤ) → Action
  act : (s a o : Bytes) → Action
  tries : (n : ℕ) (caller : Caller) (s r o : Bytes) → Action
  wait : (n : ℕ) (label : Bytes) → Action
  permit : (n : ℕ) → Action
  deny : (n : ℕ) (label : Bytes) → Action
  ends : (n : ℕ) → Action
  revoke : (n : ℕ) (label : Bytes) → Action
  amend : (text : Bytes) (policy : PlainPolicy) → Action

-- all that has happened, the newest action first
abbrev pub Trace : Type 0
Trace = List Action

-- the trace with these actions after it, in their order
abbrev pub extended : Trace → List Action → Trace
extended T [] = T
extended T (a ∷ actions) = extended (a ∷ T) actions

-- these actions after a trace, and what follows once they are done
abbrev pub followed_by : List Action → (Trace → List Action) → Trace → List Action
followed_by actions rest T = actions ++ rest (extended T actions)
