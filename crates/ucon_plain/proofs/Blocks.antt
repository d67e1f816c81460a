-- A block is the only list of actions of its command.
use Rattle.std.proofs.Common.{◌≡◌, List, ◌++◌, refl, ap, ◌∙◌}
use Rattle.std.specs.Prelude.{◌↔◌}
use Rattle.ucon_model.specs.declared.command.Caller.{Caller}
use Rattle.ucon_model.specs.declared.command.Command.{Command}
use Rattle.ucon_model.specs.declared.reply.Head.{Head}
use Rattle.ucon_model.specs.Plain.{PlainPolicy}
use Rattle.ucon_model.specs.Action.{Action, Trace, extended}
use Rattle.ucon_model.specs.OwnActions.{Own, refuse, tell, make, own}
use Rattle.ucon_model.specs.Settle.{settle}
use Rattle.ucon_model.specs.Block.{own_block, block}
use Rattle.ucon_model.specs.History.{History, trace}
use Rattle.ucon_model.specs.Legal.{IsCascade}
use Rattle.ucon_plain.specs.Cascading.{AreOwnAndCascade, AreActionsOf}

-- the settling is the only cascade after a command's own actions
abbrev OnlyCascade : Type 0
OnlyCascade = (P : PlainPolicy) (H : History) (caller : Caller) (c : Command) (head : Head) (actions cascade : List Action)
    → own P (trace P H) caller c ≡ make head actions
    → IsCascade P (extended (trace P H) actions) cascade ↔ (cascade ≡ settle P (extended (trace P H) actions))

module _ (only_cascade : OnlyCascade) where
  by_own : (P : PlainPolicy) (H : History) (caller : Caller) (c : Command) (o : Own) (actions : List Action) → own P (trace P H) caller c ≡ o
      → AreOwnAndCascade P (trace P H) o actions ↔ (actions ≡ own_block P (trace P H) o)
  by_own P H caller c (refuse r) actions is = (λ e. e, λ e. e)
  by_own P H caller c (tell reply) actions is = (λ e. e, λ e. e)
  by_own P H caller c (make head first) actions is =
      let T : Trace = trace P H in
      let only = λ (cascade : List Action). only_cascade P H caller c head first cascade is in (
        λ h. h.1 ∙ ap (λ (xs : List Action). first ++ xs) ((only h.0).0 h.2),
        λ e. (settle P (extended T first), e, (only (settle P (extended T first))).1 refl),
      )

  -- the block is the only such list
  pub only_block : (P : PlainPolicy) (H : History) (caller : Caller) (c : Command) (actions : List Action)
      → AreActionsOf P (trace P H) caller c actions ↔ (actions ≡ block P (trace P H) caller c)
  only_block P H caller c actions = by_own P H caller c (own P (trace P H) caller c) actions refl
