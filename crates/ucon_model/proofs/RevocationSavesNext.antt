-- Three users at most: a fourth costs the first, and a revocation saves those behind it.
use Rattle.std.proofs.Common.{◌≡◌, List, [], ◌∷◌, ◌++◌, refl}
use Rattle.std.specs.Prelude.{pos, codes, map, None}
use Rattle.std.specs.Fmt.{digits}
use Rattle.ucon_base.specs.declared.value.Side.TheVariants.{Object}
use Rattle.ucon_base.specs.declared.value.Value.TheVariants as values
use Rattle.ucon_model.specs.declared.command.Command.TheVariants as commands
use Rattle.ucon_model.specs.declared.command.Entry.{Entry}
use Rattle.ucon_model.specs.declared.formula.Op.TheVariants.{Le}
use Rattle.ucon_model.specs.declared.policy.Phase.TheVariants.{Ongoing}
use Rattle.ucon_model.specs.declared.policy.When.TheVariants.{Before, AfterEnd, AfterRevoke}
use Rattle.ucon_model.specs.declared.reply.Head.TheVariants.{Ok, Permitted}
use Rattle.ucon_model.specs.Plain.{Bytes, PlainRight, PlainPolicy, plus, minus, compare, authorisation, made, value_is}
use Rattle.ucon_model.specs.History.{serial}
use Rattle.ucon_model.specs.declared.formula.Ref.TheVariants as refs
use Rattle.ucon_model.specs.Places.{places_read}
use Rattle.ucon_model.specs.Cores.{core_models_of, core_name}
use Rattle.ucon_model.specs.Typing.{type_fault}
use Rattle.ucon_model.proofs.Scenes.{by, int_attr, int, object's, revoked, ok}

abbrev pub use_right : PlainRight
use_right = record {
  name = codes "use";
  preds = record { phase = Ongoing; label = codes "cap"; test = authorisation (compare Le (object's (codes "users")) (object's (codes "most"))) } ∷ [];
  updates = record { when = Before; side = Object; attr = codes "users"; value = plus (object's (codes "users")) (int 1) }
      ∷ record { when = AfterEnd; side = Object; attr = codes "users"; value = minus (object's (codes "users")) (int 1) }
      ∷ record { when = AfterRevoke; side = Object; attr = codes "users"; value = minus (object's (codes "users")) (int 1) } ∷ [];
}

abbrev pub capped : PlainPolicy
capped = record { attrs = int_attr Object (codes "users") 0 1000 0 ∷ int_attr Object (codes "most") 0 1000 3 ∷ []; envs = []; rights = use_right ∷ [] }

capped_is_typed : type_fault capped ≡ None
unfolding type_fault
capped_is_typed = refl

core_models : map core_name (core_models_of use_right) ≡ codes "onA1" ∷ codes "onA3" ∷ []
unfolding digits
core_models = refl

places : places_read use_right ≡ refs.Object (codes "users") ∷ refs.Object (codes "most") ∷ []
places = refl

abbrev pub scene : List Entry
scene = by 0 (commands.Subject (codes "a")) ∷ by 0 (commands.Subject (codes "b")) ∷ by 0 (commands.Subject (codes "c"))
    ∷ by 0 (commands.Subject (codes "d")) ∷ by 0 (commands.Object (codes "x")) ∷ []

abbrev pub try_use : Bytes → Entry
try_use s = by 1 (commands.Try s (codes "use") (codes "x"))

abbrev users : Entry
users = by 1 (commands.Value Object (codes "x") (codes "users"))

abbrev pub three_users : List Entry
three_users = scene ++ try_use (codes "a") ∷ try_use (codes "b") ∷ try_use (codes "c") ∷ []

three_permitted : serial capped [] three_users ≡ (1, ok) ∷ (2, ok) ∷ (3, ok) ∷ (4, ok) ∷ (5, ok)
    ∷ (6, made (Permitted 1) []) ∷ (7, made (Permitted 2) []) ∷ (8, made (Permitted 3) []) ∷ []
three_permitted = refl

fourth_user : serial capped three_users (try_use (codes "d") ∷ users ∷ []) ≡ (9, made (Permitted 4) (revoked 1 (codes "cap") ∷ []))
    ∷ (9, value_is (values.Int (pos 3))) ∷ []
fourth_user = refl

abbrev lower_cap : Entry
lower_cap = by 0 (commands.Set Object (codes "x") (codes "most") (values.Int (pos 2)))

-- sessions 2 and 3 stay
saved : serial capped three_users (lower_cap ∷ users ∷ []) ≡ (9, made Ok (revoked 1 (codes "cap") ∷ [])) ∷ (9, value_is (values.Int (pos 2))) ∷ []
saved = refl
