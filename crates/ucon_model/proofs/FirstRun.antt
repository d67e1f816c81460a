-- The first run: a usage that is permitted and revoked in one step.
use Rattle.std.proofs.Common.{◌≡◌, List, [], ◌∷◌, refl}
use Rattle.std.specs.Prelude.{pos, codes}
use Rattle.ucon_base.specs.declared.value.Side.TheVariants.{Subject, Object}
use Rattle.ucon_base.specs.declared.value.Value.TheVariants as values
use Rattle.ucon_model.specs.declared.command.Command.TheVariants as commands
use Rattle.ucon_model.specs.declared.command.Entry.{Entry}
use Rattle.ucon_model.specs.declared.formula.Op.TheVariants.{Ge, Gt}
use Rattle.ucon_model.specs.declared.policy.Phase.TheVariants.{Pre, Ongoing}
use Rattle.ucon_model.specs.declared.policy.When.TheVariants.{Before}
use Rattle.ucon_model.specs.declared.reply.Head.TheVariants.{Permitted}
use Rattle.ucon_model.specs.Plain.{PlainPolicy, minus, compare, authorisation, made, value_is}
use Rattle.ucon_model.specs.History.{serial}
use Rattle.ucon_model.proofs.Scenes.{by, int_attr, int, subject's, object's, revoked, ok}

abbrev pay_per_use : PlainPolicy
pay_per_use = record {
  attrs = int_attr Subject (codes "credit") 0 100 0 ∷ int_attr Object (codes "price") 0 100 5 ∷ [];
  envs = [];
  rights = record {
    name = codes "play";
    preds = record { phase = Pre; label = codes "funds"; test = authorisation (compare Ge (subject's (codes "credit")) (object's (codes "price"))) }
        ∷ record { phase = Ongoing; label = codes "left"; test = authorisation (compare Gt (subject's (codes "credit")) (int 0)) } ∷ [];
    updates = record { when = Before; side = Subject; attr = codes "credit"; value = minus (subject's (codes "credit")) (object's (codes "price")) } ∷ [];
  } ∷ [];
}

abbrev lines : List Entry
lines = by 0 (commands.Subject (codes "ann")) ∷ by 0 (commands.Object (codes "song"))
    ∷ by 0 (commands.Set Subject (codes "ann") (codes "credit") (values.Int (pos 5)))
    ∷ by 0 (commands.Try (codes "ann") (codes "play") (codes "song"))
    ∷ by 0 (commands.Value Subject (codes "ann") (codes "credit")) ∷ []

permitted_and_revoked : serial pay_per_use [] lines ≡ (1, ok) ∷ (2, ok) ∷ (3, ok)
    ∷ (4, made (Permitted 1) (revoked 1 (codes "left") ∷ [])) ∷ (4, value_is (values.Int (pos 0))) ∷ []
permitted_and_revoked = refl
