-- What holds of a command's own actions, case by case.
use Rattle.std.proofs.Common.{◌≡◌, Bool, true, false, cond, List, [], ◌∷◌, refl}
use Rattle.std.specs.Prelude.{Option, Some, None}
use Rattle.std.specs.Option.{option_map_or}
use Rattle.ucon_model.specs.declared.reply.Head.{Head}
use Rattle.ucon_model.specs.declared.reply.Refusal.{Refusal}
use Rattle.ucon_model.specs.Plain.{PlainReply}
use Rattle.ucon_model.specs.Action.{Action}
use Rattle.ucon_model.specs.Payload.{revocations_in}
use Rattle.ucon_model.specs.OwnActions.{Own, refuse, tell, make, after_action}

-- this holds of the actions, where some are made; and what is told names no revocations
pub data OwnHas (Q : List Action → Type 0) : Own → Type 0 where
  refuses : {r : Refusal} → OwnHas Q (refuse r)
  tells : {reply : PlainReply} → revocations_in reply ≡ [] → OwnHas Q (tell reply)
  makes : {head : Head} {actions : List Action} → Q actions → OwnHas Q (make head actions)

-- where a test refuses, only the other branch counts
pub unless : (Q : List Action → Type 0) (b : Bool) (r : Refusal) (o : Own) → (b ≡ false → OwnHas Q o) → OwnHas Q (cond b (refuse r) o)
unless Q true r o h = refuses
unless Q false r o h = h refl

-- a test that has to hold
pub given : (Q : List Action → Type 0) (b : Bool) (o : Own) (r : Refusal) → (b ≡ true → OwnHas Q o) → OwnHas Q (cond b o (refuse r))
given Q true o r h = h refl
given Q false o r h = refuses

-- what has to be there
pub found : {A : Type 0} (Q : List Action → Type 0) (f : A → Own) (o : Option A) (r : Refusal) → ((x : A) → o ≡ Some x → OwnHas Q (f x))
    → OwnHas Q (option_map_or f o (refuse r))
found Q f None r h = refuses
found Q f (Some x) r h = h x refl

pub behind : (Q R : List Action → Type 0) (a : Action) (o : Own) → ((actions : List Action) → R actions → Q (a ∷ actions)) → OwnHas R o → OwnHas Q (after_action a o)
behind Q R a (refuse r) each h = refuses
behind Q R a (tell reply) each (tells h) = tells h
behind Q R a (make head actions) each (makes h) = makes (each actions h)
