-- A higher session that is revoked pulls a lower one with it.
use Rattle.std.proofs.Common.{◌≡◌, List, [], ◌∷◌, refl}
use Rattle.std.specs.Prelude.{pos, codes}
use Rattle.ucon_base.specs.declared.value.Side.TheVariants.{Subject, Object}
use Rattle.ucon_base.specs.declared.value.Value.TheVariants as values
use Rattle.ucon_model.specs.declared.command.Command.TheVariants as commands
use Rattle.ucon_model.specs.declared.command.Entry.{Entry}
use Rattle.ucon_model.specs.declared.formula.Op.TheVariants.{Eq}
use Rattle.ucon_model.specs.declared.policy.Phase.TheVariants.{Ongoing}
use Rattle.ucon_model.specs.declared.policy.When.TheVariants.{AfterRevoke}
use Rattle.ucon_model.specs.declared.reply.Head.TheVariants.{Ok, Permitted}
use Rattle.ucon_model.specs.Plain.{PlainPolicy, compare, authorisation, made}
use Rattle.ucon_model.specs.History.{serial}
use Rattle.ucon_model.proofs.Scenes.{by, int_attr, int, subject's, object's, revoked, ok}

abbrev flagged : PlainPolicy
flagged = record {
  attrs = int_attr Subject (codes "good") 0 1 1 ∷ int_attr Object (codes "flag") 0 1 0 ∷ [];
  envs = [];
  rights = record {
    name = codes "ra";
    preds = record { phase = Ongoing; label = codes "la"; test = authorisation (compare Eq (object's (codes "flag")) (int 0)) } ∷ [];
    updates = [];
  } ∷ record {
    name = codes "rb";
    preds = record { phase = Ongoing; label = codes "lb"; test = authorisation (compare Eq (subject's (codes "good")) (int 1)) } ∷ [];
    updates = record { when = AfterRevoke; side = Object; attr = codes "flag"; value = int 1 } ∷ [];
  } ∷ [];
}

abbrev lines : List Entry
lines = by 0 (commands.Subject (codes "a")) ∷ by 0 (commands.Object (codes "x"))
    ∷ by 0 (commands.Try (codes "a") (codes "ra") (codes "x")) ∷ by 0 (commands.Try (codes "a") (codes "rb") (codes "x"))
    ∷ by 0 (commands.Set Subject (codes "a") (codes "good") (values.Int (pos 0))) ∷ []

higher_then_lower : serial flagged [] lines ≡ (1, ok) ∷ (2, ok) ∷ (3, made (Permitted 1) []) ∷ (4, made (Permitted 2) [])
    ∷ (5, made Ok (revoked 2 (codes "lb") ∷ revoked 1 (codes "la") ∷ [])) ∷ []
higher_then_lower = refl
