-- The order of predicates before a usage: authorisations and conditions in written order, then obligations; and waiting until they are met.
use Rattle.std.proofs.Common.{◌≡◌, List, [], ◌∷◌, refl}
use Rattle.std.specs.Prelude.{pos, codes}
use Rattle.ucon_base.specs.declared.value.Side.TheVariants.{Subject}
use Rattle.ucon_base.specs.declared.value.Kind.TheVariants as kinds
use Rattle.ucon_base.specs.declared.value.Value.TheVariants as values
use Rattle.ucon_model.specs.declared.command.Command.{Command}
use Rattle.ucon_model.specs.declared.command.Command.TheVariants as commands
use Rattle.ucon_model.specs.declared.command.Entry.{Entry}
use Rattle.ucon_model.specs.declared.formula.Form.TheVariants.{Done}
use Rattle.ucon_model.specs.declared.formula.Op.TheVariants.{Ge}
use Rattle.ucon_model.specs.declared.formula.Ref.TheVariants as refs
use Rattle.ucon_model.specs.declared.policy.Phase.TheVariants.{Pre}
use Rattle.ucon_model.specs.declared.reply.Head.TheVariants.{Permitted, Denied, Waiting}
use Rattle.ucon_model.specs.declared.reply.Refusal.TheVariants.{NoSession, NotRequesting}
use Rattle.ucon_model.specs.declared.session.SessionState.TheVariants.{Accessing}
use Rattle.ucon_model.specs.Plain.{PlainPolicy, read, compare, authorisation, condition, refused, made, status}
use Rattle.ucon_model.specs.History.{serial}
use Rattle.ucon_model.proofs.Scenes.{by, own_duty, int_attr, int, subject's, ok}

abbrev purchase : PlainPolicy
purchase = record {
  attrs = int_attr Subject (codes "age") 0 150 0 ∷ [];
  envs = record { name = codes "hour"; kind = kinds.Int (pos 0) (pos 23); start = values.Int (pos 9) } ∷ [];
  rights = record {
    name = codes "buy";
    preds = record { phase = Pre; label = codes "sign"; test = own_duty Done (codes "sign_up") }
        ∷ record { phase = Pre; label = codes "late"; test = condition (compare Ge (read (refs.Env (codes "hour"))) (int 10)) }
        ∷ record { phase = Pre; label = codes "adult"; test = authorisation (compare Ge (subject's (codes "age")) (int 18)) } ∷ [];
    updates = [];
  } ∷ [];
}

abbrev buy : Command
buy = commands.Try (codes "a") (codes "buy") (codes "x")

abbrev tried : List Entry
tried = by 0 (commands.Subject (codes "a")) ∷ by 0 (commands.Object (codes "x")) ∷ by 0 buy
    ∷ by 0 (commands.Env (codes "hour") (values.Int (pos 10))) ∷ by 0 buy
    ∷ by 0 (commands.Set Subject (codes "a") (codes "age") (values.Int (pos 18))) ∷ by 0 buy ∷ []

conditions_before_obligations : serial purchase [] tried ≡ (1, ok) ∷ (2, ok) ∷ (3, made (Denied 1 (codes "late")) []) ∷ (4, ok)
    ∷ (5, made (Denied 2 (codes "adult")) []) ∷ (6, ok) ∷ (7, made (Waiting 3 (codes "sign")) []) ∷ []
conditions_before_obligations = refl

abbrev gone_on : List Entry
gone_on = by 0 (commands.Act (codes "a") (codes "sign_up") (codes "x")) ∷ by 0 (commands.Again 3) ∷ by 0 (commands.Again 3)
    ∷ by 0 (commands.Look 3) ∷ by 0 (commands.Look 4) ∷ by 0 (commands.Again 1) ∷ []

waiting_and_again : serial purchase tried gone_on ≡ (8, ok) ∷ (9, made (Permitted 3) []) ∷ (9, refused NotRequesting)
    ∷ (9, status 3 Accessing) ∷ (9, refused NoSession) ∷ (9, refused NotRequesting) ∷ []
waiting_and_again = refl
