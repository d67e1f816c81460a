-- An amendment revokes the usage of a right that it drops. What stays keeps its values, and what is new begins with its default.
use Rattle.std.proofs.Common.{◌≡◌, List, [], ◌∷◌, refl}
use Rattle.std.specs.Prelude.{pos, codes}
use Rattle.ucon_base.specs.declared.value.Side.TheVariants.{Object}
use Rattle.ucon_base.specs.declared.value.Value.TheVariants as values
use Rattle.ucon_model.specs.declared.command.Command.{Command}
use Rattle.ucon_model.specs.declared.command.Command.TheVariants as commands
use Rattle.ucon_model.specs.declared.command.Entry.{Entry}
use Rattle.ucon_model.specs.declared.reply.Head.TheVariants.{Ok, Permitted}
use Rattle.ucon_model.specs.declared.reply.Refusal.TheVariants.{NotAdmin, NoRight, NoAttribute, KindChanged}
use Rattle.ucon_model.specs.Plain.{Bytes, PlainPolicy, refused, made, value_is}
use Rattle.ucon_model.specs.History.{serial}
use Rattle.ucon_model.proofs.Scenes.{by, amended, int_attr, revoked, ok}
use Rattle.ucon_model.proofs.RevocationSavesNext.{capped}

abbrev seen : PlainPolicy
seen = record {
  attrs = int_attr Object (codes "users") 0 1000 0 ∷ int_attr Object (codes "most") 0 1000 0 ∷ [];
  envs = [];
  rights = record { name = codes "see"; preds = []; updates = [] } ∷ [];
}

abbrev nine_users : PlainPolicy
nine_users = record { attrs = int_attr Object (codes "users") 0 9 0 ∷ []; envs = []; rights = [] }

abbrev bare : PlainPolicy
bare = record { attrs = []; envs = []; rights = record { name = codes "r"; preds = []; updates = [] } ∷ [] }

abbrev bare_text : Bytes
bare_text = codes "right r {}"

abbrev try_use : Command
try_use = commands.Try (codes "a") (codes "use") (codes "x")

abbrev value_at : Bytes → Bytes → Entry
value_at object attr = by 0 (commands.Value Object object attr)

abbrev lines : List Entry
lines = by 0 (commands.Subject (codes "a")) ∷ by 0 (commands.Object (codes "x")) ∷ by 0 try_use
    ∷ amended (codes "attr o users : int 0..1000 = 0; attr o most : int 0..1000 = 0; right see {}") seen
    ∷ value_at (codes "x") (codes "most") ∷ value_at (codes "x") (codes "users") ∷ by 0 try_use
    ∷ by 0 (commands.Object (codes "y")) ∷ value_at (codes "y") (codes "most")
    ∷ amended (codes "attr o users : int 0..9 = 0;") nine_users ∷ by 1 (commands.Amend (record { text = bare_text; policy = bare }))
    ∷ amended bare_text bare ∷ value_at (codes "x") (codes "users") ∷ []

right_gone : serial capped [] lines ≡ (1, ok) ∷ (2, ok) ∷ (3, made (Permitted 1) [])
    ∷ (4, made Ok (revoked 1 (codes "no_right") ∷ []))
    ∷ (4, value_is (values.Int (pos 3))) ∷ (4, value_is (values.Int (pos 1))) ∷ (4, refused NoRight)
    ∷ (5, ok) ∷ (5, value_is (values.Int (pos 0)))
    ∷ (5, refused KindChanged) ∷ (5, refused NotAdmin)
    ∷ (6, ok) ∷ (6, refused NoAttribute) ∷ []
right_gone = refl
