-- Sums are clamped to the integers that there are, and an update's result to the attribute's range; a value given from outside is refused.
use Rattle.std.proofs.Common.{◌≡◌, List, [], ◌∷◌, refl}
use Rattle.std.specs.Prelude.{pos, codes}
use Rattle.ucon_base.specs.declared.value.Side.TheVariants.{Subject}
use Rattle.ucon_base.specs.declared.value.Kind.TheVariants as kinds
use Rattle.ucon_base.specs.declared.value.Value.{Value}
use Rattle.ucon_base.specs.declared.value.Value.TheVariants as values
use Rattle.ucon_base.specs.Numbers.{least, greatest}
use Rattle.ucon_model.specs.declared.command.Command.TheVariants as commands
use Rattle.ucon_model.specs.declared.command.Entry.{Entry}
use Rattle.ucon_model.specs.declared.formula.Op.TheVariants.{Eq}
use Rattle.ucon_model.specs.declared.policy.Phase.TheVariants.{Pre}
use Rattle.ucon_model.specs.declared.policy.When.TheVariants.{Before}
use Rattle.ucon_model.specs.declared.reply.Head.TheVariants.{Permitted}
use Rattle.ucon_model.specs.declared.reply.Refusal.TheVariants.{BadValue}
use Rattle.ucon_model.specs.Plain.{Bytes, PlainPolicy, plus, minus, compare, authorisation, refused, made, value_is}
use Rattle.ucon_model.specs.History.{serial}
use Rattle.ucon_model.proofs.Scenes.{by, int_attr, int, subject's, ok}

abbrev at_the_ends : PlainPolicy
at_the_ends = record {
  attrs = record { side = Subject; name = codes "n"; kind = kinds.Int least greatest; start = values.Int greatest } ∷ int_attr Subject (codes "k") 0 9 0 ∷ [];
  envs = [];
  rights = record {
    name = codes "r";
    preds = record { phase = Pre; label = codes "t"; test = authorisation (compare Eq (subject's (codes "k")) (int 0)) } ∷ [];
    updates = record { when = Before; side = Subject; attr = codes "n"; value = plus (subject's (codes "n")) (int 1) }
        ∷ record { when = Before; side = Subject; attr = codes "k"; value = minus (subject's (codes "k")) (int 1) } ∷ [];
  } ∷ [];
}

abbrev value_of_a : Bytes → Entry
value_of_a attr = by 0 (commands.Value Subject (codes "a") attr)

abbrev set_k : Value → Entry
set_k v = by 0 (commands.Set Subject (codes "a") (codes "k") v)

abbrev lines : List Entry
lines = by 0 (commands.Subject (codes "a")) ∷ by 0 (commands.Object (codes "x")) ∷ by 0 (commands.Try (codes "a") (codes "r") (codes "x"))
    ∷ value_of_a (codes "n") ∷ value_of_a (codes "k") ∷ set_k (values.Int (pos 10)) ∷ set_k (values.Text (codes "x")) ∷ value_of_a (codes "k") ∷ []

clamped_or_refused : serial at_the_ends [] lines ≡ (1, ok) ∷ (2, ok) ∷ (3, made (Permitted 1) [])
    ∷ (3, value_is (values.Int (pos 1000000000000000))) ∷ (3, value_is (values.Int (pos 0))) ∷ (3, refused BadValue) ∷ (3, refused BadValue)
    ∷ (3, value_is (values.Int (pos 0))) ∷ []
clamped_or_refused = refl
