-- No users at all: whoever is permitted is revoked in the same step.
use Rattle.std.proofs.Common.{◌≡◌, List, [], ◌∷◌, refl}
use Rattle.std.specs.Prelude.{pos, codes}
use Rattle.ucon_base.specs.declared.value.Side.TheVariants.{Object}
use Rattle.ucon_base.specs.declared.value.Value.TheVariants as values
use Rattle.ucon_model.specs.declared.command.Command.TheVariants as commands
use Rattle.ucon_model.specs.declared.command.Entry.{Entry}
use Rattle.ucon_model.specs.declared.reply.Head.TheVariants.{Permitted}
use Rattle.ucon_model.specs.Plain.{made, value_is}
use Rattle.ucon_model.specs.History.{serial}
use Rattle.ucon_model.proofs.Scenes.{by, revoked, ok}
use Rattle.ucon_model.proofs.RevocationSavesNext.{capped}

abbrev lines : List Entry
lines = by 0 (commands.Subject (codes "a")) ∷ by 0 (commands.Object (codes "x"))
    ∷ by 0 (commands.Set Object (codes "x") (codes "most") (values.Int (pos 0)))
    ∷ by 0 (commands.Try (codes "a") (codes "use") (codes "x")) ∷ by 0 (commands.Value Object (codes "x") (codes "users")) ∷ []

nobody_stays : serial capped [] lines ≡ (1, ok) ∷ (2, ok) ∷ (3, ok) ∷ (4, made (Permitted 1) (revoked 1 (codes "cap") ∷ []))
    ∷ (4, value_is (values.Int (pos 0))) ∷ []
nobody_stays = refl
