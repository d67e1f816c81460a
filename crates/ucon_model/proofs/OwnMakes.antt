-- What holds of the head and the actions that a command makes, case by case.
use Rattle.std.proofs.Common.{◌≡◌, Bool, true, false, cond, List, ◌∷◌, refl}
use Rattle.std.specs.Prelude.{ℕ, not, nat_eq, Option, Some, None, ⊤}
use Rattle.std.specs.Option.{option_map_or}
use Rattle.ucon_model.specs.declared.command.Caller.{Caller}
use Rattle.ucon_model.specs.declared.reply.Head.{Head}
use Rattle.ucon_model.specs.declared.reply.Refusal.{Refusal}
use Rattle.ucon_model.specs.Action.{Action, Trace}
use Rattle.ucon_model.specs.Readings.{session, is_accessing}
use Rattle.ucon_model.specs.OwnActions.{Own, refuse, tell, make, after_action, with_usage}

-- this holds of head and actions, where some are made
abbrev pub Makes : (Head → List Action → Type 0) → Own → Type 0
Makes Q (refuse r) = ⊤
Makes Q (tell reply) = ⊤
Makes Q (make head actions) = Q head actions

pub unless : (Q : Head → List Action → Type 0) (b : Bool) (r : Refusal) (o : Own) → (b ≡ false → Makes Q o) → Makes Q (cond b (refuse r) o)
unless Q true r o h = tt
unless Q false r o h = h refl

pub given : (Q : Head → List Action → Type 0) (b : Bool) (o : Own) (r : Refusal) → Makes Q o → Makes Q (cond b o (refuse r))
given Q true o r h = h
given Q false o r h = tt

pub found : {A : Type 0} (Q : Head → List Action → Type 0) (f : A → Own) (o : Option A) (r : Refusal) → ((x : A) → Makes Q (f x))
    → Makes Q (option_map_or f o (refuse r))
found Q f None r h = tt
found Q f (Some x) r h = h x

pub behind : (Q R : Head → List Action → Type 0) (a : Action) (o : Own) → ((head : Head) (actions : List Action) → R head actions → Q head (a ∷ actions))
    → Makes R o → Makes Q (after_action a o)
behind Q R a (refuse r) each h = tt
behind Q R a (tell reply) each h = tt
behind Q R a (make head actions) each h = each head actions h

pub usage : (Q : Head → List Action → Type 0) (T : Trace) (caller : Caller) (n : ℕ) (o : Own) → Makes Q o → Makes Q (with_usage T caller n o)
usage Q T caller n o h =
    found Q _ (session T n) _ (λ row. given Q (nat_eq row.caller.0 caller.0) _ _ (unless Q (not (is_accessing (session T n))) _ _ (λ on. h)))
