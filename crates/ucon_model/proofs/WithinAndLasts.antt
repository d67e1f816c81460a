-- An act within so many ticks, by and on somebody named, and a usage that lasts so long and no longer.
use Rattle.std.proofs.Common.{◌≡◌, List, [], ◌∷◌, refl}
use Rattle.std.specs.Prelude.{pos, codes, Some}
use Rattle.ucon_model.specs.declared.command.Command.TheVariants as commands
use Rattle.ucon_model.specs.declared.command.Entry.{Entry}
use Rattle.ucon_model.specs.declared.formula.Form.TheVariants.{Within}
use Rattle.ucon_model.specs.declared.policy.Phase.TheVariants.{Pre, Ongoing}
use Rattle.ucon_model.specs.declared.reply.Head.TheVariants.{Ok, Permitted, Waiting}
use Rattle.ucon_model.specs.Plain.{Bytes, PlainPolicy, lasts, duty, condition, made}
use Rattle.ucon_model.specs.History.{serial}
use Rattle.ucon_model.proofs.Scenes.{by, tick_to, revoked, ok}

abbrev guarded : PlainPolicy
guarded = record {
  attrs = [];
  envs = [];
  rights = record {
    name = codes "visit";
    preds = record { phase = Pre; label = codes "seen"; test = duty (record { form = Within (pos 5); action = codes "check"; by_subject = Some (codes "guard"); on_object = Some (codes "door") }) }
        ∷ record { phase = Ongoing; label = codes "short"; test = condition (lasts (pos 10)) } ∷ [];
    updates = [];
  } ∷ [];
}

abbrev check : Bytes → Bytes → Entry
check s o = by 0 (commands.Act s (codes "check") o)

abbrev visit : Entry
visit = by 0 (commands.Try (codes "a") (codes "visit") (codes "x"))

abbrev scene : List Entry
scene = by 0 (commands.Subject (codes "a")) ∷ by 0 (commands.Subject (codes "guard")) ∷ by 0 (commands.Object (codes "x")) ∷ by 0 (commands.Object (codes "door")) ∷ []

abbrev lines : List Entry
lines = visit ∷ check (codes "a") (codes "x") ∷ by 0 (commands.Again 1) ∷ check (codes "guard") (codes "door") ∷ tick_to 5
    ∷ by 0 (commands.Again 1) ∷ tick_to 6 ∷ visit ∷ tick_to 15 ∷ tick_to 16 ∷ []

up_to_the_last_tick : serial guarded scene lines ≡ (5, made (Waiting 1 (codes "seen")) []) ∷ (6, ok) ∷ (7, made (Waiting 1 (codes "seen")) []) ∷ (8, ok) ∷ (9, ok)
    ∷ (10, made (Permitted 1) []) ∷ (11, ok) ∷ (12, made (Waiting 2 (codes "seen")) []) ∷ (13, ok) ∷ (14, made Ok (revoked 1 (codes "short") ∷ [])) ∷ []
up_to_the_last_tick = refl
