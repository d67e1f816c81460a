-- A set of 64 texts takes no further one, and a text that is there already changes nothing.
use Rattle.std.proofs.Common.{◌≡◌, ℕ, zero, suc, ◌+◌, List, [], ◌∷◌, ◌++◌, refl}
use Rattle.std.specs.Prelude.{◌/◌, ◌%◌, codes}
use Rattle.ucon_base.specs.declared.value.Side.TheVariants.{Subject}
use Rattle.ucon_base.specs.declared.value.Kind.TheVariants as kinds
use Rattle.ucon_base.specs.declared.value.Value.TheVariants as values
use Rattle.ucon_model.specs.declared.command.Command.TheVariants as commands
use Rattle.ucon_model.specs.declared.command.Entry.{Entry}
use Rattle.ucon_model.specs.declared.formula.Op.TheVariants.{Ge}
use Rattle.ucon_model.specs.declared.policy.Phase.TheVariants.{Pre}
use Rattle.ucon_model.specs.declared.policy.When.TheVariants.{Before}
use Rattle.ucon_model.specs.declared.reply.Head.TheVariants.{Permitted}
use Rattle.ucon_model.specs.Plain.{Bytes, PlainPolicy, lit, plus, size, compare, authorisation, made, value_is}
use Rattle.ucon_model.specs.History.{serial}
use Rattle.ucon_model.proofs.Scenes.{by, int, subject's, ok}

abbrev tagging : PlainPolicy
tagging = record {
  attrs = record { side = Subject; name = codes "tags"; kind = kinds.Set; start = values.Set [] } ∷ [];
  envs = [];
  rights = record {
    name = codes "r";
    preds = record { phase = Pre; label = codes "t"; test = authorisation (compare Ge (size (subject's (codes "tags"))) (int 0)) } ∷ [];
    updates = record { when = Before; side = Subject; attr = codes "tags"; value = plus (subject's (codes "tags")) (lit (values.Text (codes "zz"))) } ∷ [];
  } ∷ [];
}

-- so many of the texts a00, a01, a02 and so on
abbrev numbered : ℕ → List Bytes
numbered zero = []
numbered (suc n) = numbered n ++ (97 ∷ (48 + n / 10) ∷ (48 + n % 10) ∷ []) ∷ []

abbrev set_tags : List Bytes → Entry
set_tags texts = by 0 (commands.Set Subject (codes "a") (codes "tags") (values.Set texts))

abbrev try_r : Entry
try_r = by 0 (commands.Try (codes "a") (codes "r") (codes "x"))

abbrev tags : Entry
tags = by 0 (commands.Value Subject (codes "a") (codes "tags"))

abbrev lines : List Entry
lines = by 0 (commands.Subject (codes "a")) ∷ by 0 (commands.Object (codes "x")) ∷ set_tags (numbered 64) ∷ try_r ∷ tags
    ∷ set_tags (codes "zz" ∷ []) ∷ try_r ∷ tags ∷ []

left_as_it_was : serial tagging [] lines ≡ (1, ok) ∷ (2, ok) ∷ (3, ok) ∷ (4, made (Permitted 1) []) ∷ (4, value_is (values.Set (numbered 64)))
    ∷ (5, ok) ∷ (6, made (Permitted 2) []) ∷ (6, value_is (values.Set (codes "zz" ∷ []))) ∷ []
left_as_it_was = refl
