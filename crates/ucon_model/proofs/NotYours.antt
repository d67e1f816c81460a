-- A usage is ended by the client that began it, once; and nobody but client 0 sets the scene.
use Rattle.std.proofs.Common.{◌≡◌, List, [], ◌∷◌, refl}
use Rattle.std.specs.Prelude.{codes}
use Rattle.ucon_model.specs.declared.command.Command.TheVariants as commands
use Rattle.ucon_model.specs.declared.command.Entry.{Entry}
use Rattle.ucon_model.specs.declared.reply.Head.TheVariants.{Permitted, Ended}
use Rattle.ucon_model.specs.declared.reply.Refusal.TheVariants.{NotAdmin, NotYours, NotAccessing}
use Rattle.ucon_model.specs.Plain.{refused, made}
use Rattle.ucon_model.specs.History.{serial}
use Rattle.ucon_model.proofs.Scenes.{by, ok}
use Rattle.ucon_model.proofs.RevocationSavesNext.{capped}

abbrev lines : List Entry
lines = by 0 (commands.Subject (codes "a")) ∷ by 0 (commands.Object (codes "x")) ∷ by 1 (commands.Try (codes "a") (codes "use") (codes "x"))
    ∷ by 2 (commands.End 1) ∷ by 1 (commands.End 1) ∷ by 1 (commands.End 1) ∷ by 1 (commands.Subject (codes "z")) ∷ []

ended_by_its_owner : serial capped [] lines ≡ (1, ok) ∷ (2, ok) ∷ (3, made (Permitted 1) []) ∷ (3, refused NotYours) ∷ (4, made (Ended 1) [])
    ∷ (4, refused NotAccessing) ∷ (4, refused NotAdmin) ∷ []
ended_by_its_owner = refl
