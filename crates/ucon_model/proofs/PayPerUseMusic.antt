-- Pay-per-use music: waiting for an act, going on, a beat that costs, a denied try, another's session, and a usage that a tick revokes.
use Rattle.std.proofs.Common.{◌≡◌, List, [], ◌∷◌, refl}
use Rattle.std.specs.Prelude.{pos, codes, map, None}
use Rattle.std.specs.Fmt.{digits}
use Rattle.ucon_base.specs.declared.value.Side.TheVariants.{Subject, Object}
use Rattle.ucon_base.specs.declared.value.Kind.TheVariants as kinds
use Rattle.ucon_base.specs.declared.value.Value.TheVariants as values
use Rattle.ucon_model.specs.declared.command.Command.TheVariants as commands
use Rattle.ucon_model.specs.declared.command.Entry.{Entry}
use Rattle.ucon_model.specs.declared.formula.Form.TheVariants.{Done, Every}
use Rattle.ucon_model.specs.declared.formula.Op.TheVariants.{Eq, Ne, Ge}
use Rattle.ucon_model.specs.declared.formula.Ref.TheVariants as refs
use Rattle.ucon_model.specs.declared.policy.Phase.TheVariants.{Pre, Ongoing}
use Rattle.ucon_model.specs.declared.policy.When.TheVariants.{Before, During, AfterEnd, AfterRevoke}
use Rattle.ucon_model.specs.declared.reply.Head.TheVariants.{Ok, Permitted, Denied, Waiting}
use Rattle.ucon_model.specs.declared.reply.Refusal.TheVariants.{NotYours}
use Rattle.ucon_model.specs.Plain.{PlainPolicy, lit, read, plus, minus, compare, authorisation, condition, refused, made, value_is}
use Rattle.ucon_model.specs.History.{serial}
use Rattle.ucon_model.specs.Cores.{core_models_of, core_name}
use Rattle.ucon_model.specs.Typing.{type_fault}
use Rattle.ucon_model.proofs.Scenes.{by, own_duty, int_attr, int, subject's, object's, revoked, ok}

abbrev music : PlainPolicy
music = record {
  attrs = int_attr Subject (codes "credit") 0 1000000 0
      ∷ record { side = Subject; name = codes "member"; kind = kinds.Text; start = values.Text (codes "none") }
      ∷ record { side = Subject; name = codes "bought"; kind = kinds.Set; start = values.Set [] }
      ∷ int_attr Object (codes "price") 0 10000 5 ∷ int_attr Object (codes "plays") 0 1000000 0 ∷ [];
  envs = record { name = codes "region"; kind = kinds.Text; start = values.Text (codes "eu") } ∷ [];
  rights = record {
    name = codes "play";
    preds = record { phase = Pre; label = codes "funds"; test = authorisation (compare Ge (subject's (codes "credit")) (object's (codes "price"))) }
        ∷ record { phase = Pre; label = codes "terms"; test = own_duty Done (codes "accept") }
        ∷ record { phase = Pre; label = codes "area"; test = condition (compare Eq (read (refs.Env (codes "region"))) (lit (values.Text (codes "eu")))) }
        ∷ record { phase = Ongoing; label = codes "good"; test = authorisation (compare Ne (subject's (codes "member")) (lit (values.Text (codes "blocked")))) }
        ∷ record { phase = Ongoing; label = codes "ads"; test = own_duty (Every (pos 30)) (codes "click") } ∷ [];
    updates = record { when = Before; side = Subject; attr = codes "credit"; value = minus (subject's (codes "credit")) (object's (codes "price")) }
        ∷ record { when = During; side = Subject; attr = codes "credit"; value = minus (subject's (codes "credit")) (int 1) }
        ∷ record { when = AfterEnd; side = Object; attr = codes "plays"; value = plus (object's (codes "plays")) (int 1) }
        ∷ record { when = AfterRevoke; side = Object; attr = codes "plays"; value = plus (object's (codes "plays")) (int 1) } ∷ [];
  } ∷ [];
}

music_is_typed : type_fault music ≡ None
unfolding type_fault
music_is_typed = refl

core_models : map (λ r. map core_name (core_models_of r)) music.rights
    ≡ (codes "preA1" ∷ codes "preA3" ∷ codes "onA1" ∷ codes "onA2" ∷ codes "onA3" ∷ codes "preB1" ∷ codes "preB3" ∷ codes "onB1" ∷ codes "onB2"
    ∷ codes "onB3" ∷ codes "preC0" ∷ []) ∷ []
unfolding digits
core_models = refl

abbrev scene : List Entry
scene = by 0 (commands.Subject (codes "ann")) ∷ by 0 (commands.Subject (codes "bob")) ∷ by 0 (commands.Subject (codes "cat"))
    ∷ by 0 (commands.Object (codes "song")) ∷ by 0 (commands.Object (codes "film"))
    ∷ by 0 (commands.Set Subject (codes "ann") (codes "credit") (values.Int (pos 12))) ∷ []

scene_is_set : serial music [] scene ≡ (1, ok) ∷ (2, ok) ∷ (3, ok) ∷ (4, ok) ∷ (5, ok) ∷ (6, ok) ∷ []
scene_is_set = refl

abbrev lines : List Entry
lines = by 1 (commands.Try (codes "ann") (codes "play") (codes "song")) ∷ by 1 (commands.Act (codes "ann") (codes "accept") (codes "song"))
    ∷ by 1 (commands.Again 1) ∷ by 1 (commands.Beat 1) ∷ by 1 (commands.Value Subject (codes "ann") (codes "credit"))
    ∷ by 2 (commands.Try (codes "bob") (codes "play") (codes "song")) ∷ by 2 (commands.End 1)
    ∷ by 0 (commands.Tick (pos 31)) ∷ by 0 (commands.Value Object (codes "song") (codes "plays")) ∷ []

played_until_no_click : serial music scene lines ≡ (7, made (Waiting 1 (codes "terms")) []) ∷ (8, ok) ∷ (9, made (Permitted 1) []) ∷ (10, ok)
    ∷ (10, value_is (values.Int (pos 6))) ∷ (11, made (Denied 2 (codes "funds")) []) ∷ (11, refused NotYours)
    ∷ (12, made Ok (revoked 1 (codes "ads") ∷ [])) ∷ (12, value_is (values.Int (pos 1))) ∷ []
played_until_no_click = refl
