-- The state after the first run as JSON: a usage was permitted, and revoked in the same step.
use Rattle.std.proofs.Common.{◌≡◌, [], ◌∷◌, refl}
use Rattle.std.specs.Prelude.{ℕ, pos, codes}
use Rattle.serde_json.specs.Data.{Data, number, unsigned, string, array, object, no_items, item, no_members, member}
use Rattle.ucon_base.specs.declared.value.Kind.TheVariants as kinds
use Rattle.ucon_base.specs.declared.value.Side.{Side}
use Rattle.ucon_base.specs.declared.value.Side.TheVariants.{Subject, Object}
use Rattle.ucon_base.specs.declared.value.Value.TheVariants as values
use Rattle.ucon_model.specs.declared.command.Command.{Command}
use Rattle.ucon_model.specs.declared.command.Command.TheVariants as commands
use Rattle.ucon_model.specs.declared.command.Entry.{Entry}
use Rattle.ucon_model.specs.declared.formula.Op.TheVariants.{Ge, Gt}
use Rattle.ucon_model.specs.declared.formula.Ref.TheVariants as refs
use Rattle.ucon_model.specs.declared.policy.AttrDecl.{AttrDecl}
use Rattle.ucon_model.specs.declared.policy.Phase.TheVariants.{Pre, Ongoing}
use Rattle.ucon_model.specs.declared.policy.When.TheVariants.{Before}
use Rattle.ucon_model.specs.History.{History}
use Rattle.ucon_model.specs.Plain.{Bytes, PlainPolicy, PlainExpr, lit, read, minus, compare, authorisation}
use Rattle.ucon_audit.specs.Report.{tree}

abbrev up_to_100 : Side → Bytes → ℕ → AttrDecl
up_to_100 side name start = record { side = side; name = name; kind = kinds.Int (pos 0) (pos 100); start = values.Int (pos start) }

abbrev credit : PlainExpr
credit = read (refs.Subject (codes "credit"))

abbrev price : PlainExpr
price = read (refs.Object (codes "price"))

-- `attr s credit : int 0..100 = 0; attr o price : int 0..100 = 5;
-- right play { pre a funds: s.credit >= o.price; on a left: s.credit > 0; before s.credit = s.credit - o.price; }`
abbrev pay_per_use : PlainPolicy
pay_per_use = record {
  attrs = up_to_100 Subject (codes "credit") 0 ∷ up_to_100 Object (codes "price") 5 ∷ [];
  envs = [];
  rights = record {
    name = codes "play";
    preds = record { phase = Pre; label = codes "funds"; test = authorisation (compare Ge credit price) }
        ∷ record { phase = Ongoing; label = codes "left"; test = authorisation (compare Gt credit (lit (values.Int (pos 0)))) } ∷ [];
    updates = record { when = Before; side = Subject; attr = codes "credit"; value = minus credit price } ∷ [];
  } ∷ [];
}

abbrev entry : Command → Entry
entry command = record { caller = record { 0 = 0 }; command = command }

abbrev played : History
played = entry (commands.Subject (codes "ann")) ∷ entry (commands.Object (codes "song"))
    ∷ entry (commands.Set Subject (codes "ann") (codes "credit") (values.Int (pos 5)))
    ∷ entry (commands.Try (codes "ann") (codes "play") (codes "song")) ∷ []

abbrev whole : ℕ → Data
whole n = number (unsigned n)

abbrev usage : Data
usage =
    object (member (codes "caller") (whole 0) (member (codes "number") (whole 1) (member (codes "object") (string (codes "song"))
    (member (codes "right") (string (codes "play")) (member (codes "start") (whole 0) (member (codes "state") (string (codes "revoked"))
    (member (codes "subject") (string (codes "ann")) no_members)))))))

-- `{"acts":[],"entries":4,"env":{},"objects":{"song":{"price":5}},"sessions":[{"caller":0,"number":1,"object":"song","right":"play",
-- "start":0,"state":"revoked","subject":"ann"}],"subjects":{"ann":{"credit":0}},"tick":0}`
reported : tree pay_per_use played
    ≡ object (member (codes "acts") (array no_items) (member (codes "entries") (whole 4) (member (codes "env") (object no_members)
    (member (codes "objects") (object (member (codes "song") (object (member (codes "price") (whole 5) no_members)) no_members))
    (member (codes "sessions") (array (item usage no_items))
    (member (codes "subjects") (object (member (codes "ann") (object (member (codes "credit") (whole 0) no_members)) no_members))
    (member (codes "tick") (whole 0) no_members)))))))
reported = refl
