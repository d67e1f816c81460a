-- Three users and a lower cap: who is in the work, who is judged alike, and how often sessions are touched.
use Rattle.std.proofs.Common.{◌≡◌, true, false, [], ◌∷◌, refl}
use Rattle.std.specs.Prelude.{pos, codes, map}
use Rattle.std.specs.List.{list_any}
use Rattle.ucon_base.specs.declared.value.Side.{Side}
use Rattle.ucon_base.specs.declared.value.Side.TheVariants.{Subject, Object}
use Rattle.ucon_base.specs.declared.value.Value.TheVariants as values
use Rattle.ucon_model.specs.declared.command.Command.{Command}
use Rattle.ucon_model.specs.declared.command.Command.TheVariants as commands
use Rattle.ucon_model.specs.declared.command.Caller.{Caller}
use Rattle.ucon_model.specs.declared.policy.When.TheVariants.{AfterRevoke}
use Rattle.ucon_model.specs.declared.reply.Head.TheVariants.{Ok}
use Rattle.ucon_model.specs.declared.session.SessionRow.{SessionRow}
use Rattle.ucon_model.specs.declared.session.SessionState.TheVariants.{Accessing}
use Rattle.ucon_model.specs.Plain.{Bytes}
use Rattle.ucon_model.specs.Action.{Trace}
use Rattle.ucon_model.specs.History.{trace}
use Rattle.ucon_model.specs.Updates.{entity_of}
use Rattle.ucon_model.specs.Block.{block}
use Rattle.ucon_model.specs.Reach.{attribute_of, places_of, session_targets}
use Rattle.ucon_model.specs.Work.{own_work}
use Rattle.ucon_model.specs.Groups.{AreLike, is_of_side}
use Rattle.ucon_model.specs.Touches.{sum_to, touches_by}
use Rattle.ucon_model.proofs.RevocationSavesNext.{capped, three_users}

abbrev T : Trace
T = trace capped three_users

abbrev admin : Caller
admin = record { 0 = 0 }

abbrev lower : Command
lower = commands.Set Object (codes "x") (codes "most") (values.Int (pos 2))

work : map (own_work capped T admin lower Ok) (1 ∷ 2 ∷ 3 ∷ 4 ∷ []) ≡ true ∷ true ∷ true ∷ false ∷ []
work = refl

-- the revocation writes what all three read
written : session_targets capped T 1 AfterRevoke ≡ attribute_of Object (codes "x") (codes "users") ∷ []
written = refl

-- the cap touches three, and the write after the revocation the two that are left
touched : sum_to (touches_by capped T (block capped T admin lower)) 3 ≡ 5
touched = refl

abbrev use_by : Bytes → SessionRow
use_by name = record { caller = record { 0 = 1 }; right = codes "use"; subject = name; object = codes "x"; state = Accessing; start = pos 0 }

-- users of one object read no subject
same_entities : (side : Side) → list_any (is_of_side side) (places_of capped (use_by (codes "a"))) ≡ true
    → entity_of side (use_by (codes "a")) ≡ entity_of side (use_by (codes "b"))
same_entities Subject h = absurd cc
same_entities Object h = refl

-- so they are judged alike, whoever they are
alike : AreLike capped T 1 2
alike = record {
  row = use_by (codes "a");
  other = use_by (codes "b");
  is = refl;
  other_is = refl;
  alike = record { right = refl; untimed = refl; entities = same_entities };
}
