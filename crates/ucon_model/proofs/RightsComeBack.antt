-- A right that an amendment drops and another brings back: a session that waits is refused meanwhile and decided again afterwards, under the new
-- predicates; one that was revoked stays so.
use Rattle.std.proofs.Common.{◌≡◌, List, [], ◌∷◌, refl}
use Rattle.std.specs.Prelude.{pos, codes}
use Rattle.ucon_base.specs.declared.value.Kind.TheVariants as kinds
use Rattle.ucon_base.specs.declared.value.Value.TheVariants as values
use Rattle.ucon_model.specs.declared.command.Command.{Command}
use Rattle.ucon_model.specs.declared.command.Command.TheVariants as commands
use Rattle.ucon_model.specs.declared.command.Entry.{Entry}
use Rattle.ucon_model.specs.declared.formula.Form.TheVariants.{Done}
use Rattle.ucon_model.specs.declared.formula.Op.TheVariants.{Ge}
use Rattle.ucon_model.specs.declared.formula.Ref.TheVariants as refs
use Rattle.ucon_model.specs.declared.policy.EnvDecl.{EnvDecl}
use Rattle.ucon_model.specs.declared.policy.Phase.TheVariants.{Pre, Ongoing}
use Rattle.ucon_model.specs.declared.reply.Head.TheVariants.{Ok, Permitted, Waiting}
use Rattle.ucon_model.specs.declared.reply.Refusal.TheVariants.{NoRight, NoSession, NotRequesting, NotAccessing, NotYours}
use Rattle.ucon_model.specs.declared.session.SessionState.TheVariants.{Revoked}
use Rattle.ucon_model.specs.Plain.{PlainPolicy, PlainPredicate, PlainRight, read, compare, condition, refused, made, status}
use Rattle.ucon_model.specs.History.{serial}
use Rattle.ucon_model.proofs.Scenes.{by, amended, empty_policy, own_duty, int, revoked, ok}

abbrev with_preds : List PlainPredicate → PlainRight
with_preds preds = record { name = codes "buy"; preds = preds; updates = [] }

abbrev signed : PlainPolicy
signed = record { attrs = []; envs = []; rights = with_preds (record { phase = Pre; label = codes "sign"; test = own_duty Done (codes "sign_up") } ∷ []) ∷ [] }

abbrev free : PlainPolicy
free = record { attrs = []; envs = []; rights = with_preds [] ∷ [] }

abbrev hour : EnvDecl
hour = record { name = codes "hour"; kind = kinds.Int (pos 0) (pos 23); start = values.Int (pos 9) }

-- the same right, from ten on
abbrev late : PlainPolicy
late = record {
  attrs = [];
  envs = hour ∷ [];
  rights = with_preds (record { phase = Ongoing; label = codes "late"; test = condition (compare Ge (read (refs.Env (codes "hour"))) (int 10)) } ∷ []) ∷ [];
}

abbrev buy : Command
buy = commands.Try (codes "a") (codes "buy") (codes "x")

abbrev waiting : List Entry
waiting = by 0 (commands.Subject (codes "a")) ∷ by 0 (commands.Object (codes "x")) ∷ by 1 buy ∷ []

waits : serial signed [] waiting ≡ (1, ok) ∷ (2, ok) ∷ (3, made (Waiting 1 (codes "sign")) []) ∷ []
waits = refl

-- Where the session isn't there, no right is asked for; where it is, its right is asked for before its owner.
right_and_session : serial signed waiting (amended [] empty_policy ∷ by 1 (commands.Again 1) ∷ by 2 (commands.Again 1) ∷ by 1 (commands.Again 2)
    ∷ amended (codes "right buy {}") free ∷ by 2 (commands.Again 1) ∷ by 1 (commands.Again 1) ∷ [])
    ≡ (4, ok) ∷ (4, refused NoRight) ∷ (4, refused NoRight) ∷ (4, refused NoSession) ∷ (5, ok) ∷ (5, refused NotYours) ∷ (6, made (Permitted 1) []) ∷ []
right_and_session = refl

-- a usage goes on under its right's new predicates, and is revoked by the first that is false; it stays revoked when the right comes back
new_predicates : serial free waiting (amended (codes "env hour : int 0..23 = 9; right buy { on c late: env.hour >= 10; }") late
    ∷ amended (codes "right buy {}") free ∷ by 1 (commands.Look 1) ∷ by 1 (commands.End 1) ∷ by 1 (commands.Again 1) ∷ by 1 buy ∷ [])
    ≡ (4, made Ok (revoked 1 (codes "late") ∷ [])) ∷ (5, ok) ∷ (5, status 1 Revoked) ∷ (5, refused NotAccessing) ∷ (5, refused NotRequesting)
    ∷ (6, made (Permitted 2) []) ∷ []
new_predicates = refl
