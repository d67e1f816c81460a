-- Decisions before and during a usage (Park and Sandhu, ACM TISSEC 7(1), 2004: pre and ongoing decisions). The order of the predicates
-- and their labels are this project's own.
use Rattle.std.specs.Prelude.{ℕ, Bool, true, false, ◌&&◌, not, List, [], ◌∷◌, find, Option, Some, None, option_and_then, codes, if◌then◌else◌}
use Rattle.std.specs.Option.{option_map_or}
use Rattle.std.specs.Str.{bytes_eq}
use Rattle.ucon_model.specs.declared.policy.Phase.{Phase}
use Rattle.ucon_model.specs.declared.policy.Phase.TheVariants.{Pre, Ongoing}
use Rattle.ucon_model.specs.declared.session.SessionRow.{SessionRow}
use Rattle.ucon_model.specs.declared.session.Verdict.{Verdict}
use Rattle.ucon_model.specs.declared.session.Verdict.TheVariants.{Permit, Deny, Wait}
use Rattle.ucon_model.specs.Plain.{Bytes, PlainTest, duty, PlainPredicate, PlainRight, PlainPolicy}
use Rattle.ucon_model.specs.Truth.{Readings, truth}

-- the right of that name
abbrev pub right_named : List PlainRight → Bytes → Option PlainRight
right_named rights name = find (λ r. bytes_eq name r.name) rights

-- whether a phase is during the usage
abbrev pub is_ongoing : Phase → Bool
is_ongoing Ongoing = true
is_ongoing Pre = false

-- whether a test is an obligation
abbrev pub is_duty : PlainTest → Bool
is_duty (duty o) = true
is_duty t = false

-- an ongoing predicate
abbrev pub ongoing : PlainPredicate → Bool
ongoing p = is_ongoing p.phase

-- a predicate before the usage, of kind A or C
abbrev pub pre_check : PlainPredicate → Bool
pre_check p = not (is_ongoing p.phase) && not (is_duty p.test)

-- a predicate before the usage, of kind B
abbrev pub pre_duty : PlainPredicate → Bool
pre_duty p = not (is_ongoing p.phase) && is_duty p.test

-- the label of the first of these predicates, in written order, that is of the sort and false
abbrev pub first_false : Readings → SessionRow → (PlainPredicate → Bool) → List PlainPredicate → Option Bytes
first_false R row sort [] = None
first_false R row sort (p ∷ ps) = if sort p && not (truth R row p.test) then Some p.label else first_false R row sort ps

-- the label by which a session fails whose right is not there; no predicate has it
abbrev pub no_right : Bytes
no_right = codes "no_right"

-- the same, of the predicates of a session's right
abbrev pub first_false_of : PlainPolicy → Readings → (PlainPredicate → Bool) → SessionRow → Option Bytes
first_false_of P R sort row = option_and_then (λ right. first_false R row sort right.preds) (right_named P.rights row.right)

-- `no_right` if a session's right is not there; else the label of the first ongoing predicate of the right that is false; none
-- if all hold
abbrev pub failing_of : PlainPolicy → Readings → SessionRow → Option Bytes
failing_of P R row = option_map_or (λ right. first_false R row ongoing right.preds) (right_named P.rights row.right) (Some no_right)

-- the label by which session n fails
abbrev pub failing : PlainPolicy → Readings → ℕ → Option Bytes
failing P R n = option_and_then (failing_of P R) (R.row n)

-- denied by this label, if there is one
abbrev pub denied_else : Option Bytes → Verdict → Verdict
denied_else None v = v
denied_else (Some label) v = Deny label

-- waiting for this label, if there is one
abbrev pub waiting_else : Option Bytes → Verdict → Verdict
waiting_else None v = v
waiting_else (Some label) v = Wait label

-- The verdict on session n: it is denied by its first false authorisation or condition; else it waits for its first obligation that
-- isn't met; else it is permitted.
abbrev pub verdict : PlainPolicy → Readings → ℕ → Verdict
verdict P R n =
    denied_else (option_and_then (first_false_of P R pre_check) (R.row n))
    (waiting_else (option_and_then (first_false_of P R pre_duty) (R.row n)) Permit)
