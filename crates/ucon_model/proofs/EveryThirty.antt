-- An act that recurs: due within 30 ticks of the start, and then of the last time that it was done.
use Rattle.std.proofs.Common.{◌≡◌, List, [], ◌∷◌, refl}
use Rattle.std.specs.Prelude.{pos, codes}
use Rattle.ucon_model.specs.declared.command.Command.TheVariants as commands
use Rattle.ucon_model.specs.declared.command.Entry.{Entry}
use Rattle.ucon_model.specs.declared.formula.Form.TheVariants.{Every}
use Rattle.ucon_model.specs.declared.policy.Phase.TheVariants.{Ongoing}
use Rattle.ucon_model.specs.declared.reply.Head.TheVariants.{Ok, Permitted}
use Rattle.ucon_model.specs.Plain.{PlainPolicy, made}
use Rattle.ucon_model.specs.History.{serial}
use Rattle.ucon_model.proofs.Scenes.{by, tick_to, own_duty, revoked, ok}

abbrev clicked : PlainPolicy
clicked = record {
  attrs = [];
  envs = [];
  rights = record {
    name = codes "watch";
    preds = record { phase = Ongoing; label = codes "ads"; test = own_duty (Every (pos 30)) (codes "click") } ∷ [];
    updates = [];
  } ∷ [];
}

abbrev watching : List Entry
watching = by 0 (commands.Subject (codes "a")) ∷ by 0 (commands.Object (codes "x")) ∷ by 0 (commands.Try (codes "a") (codes "watch") (codes "x")) ∷ []

permitted_at_tick_0 : serial clicked [] watching ≡ (1, ok) ∷ (2, ok) ∷ (3, made (Permitted 1) []) ∷ []
permitted_at_tick_0 = refl

with_the_act : serial clicked watching (tick_to 30 ∷ by 0 (commands.Act (codes "a") (codes "click") (codes "x")) ∷ tick_to 60 ∷ tick_to 61 ∷ [])
    ≡ (4, ok) ∷ (5, ok) ∷ (6, ok) ∷ (7, made Ok (revoked 1 (codes "ads") ∷ [])) ∷ []
with_the_act = refl

without_the_act : serial clicked watching (tick_to 30 ∷ tick_to 31 ∷ []) ≡ (4, ok) ∷ (5, made Ok (revoked 1 (codes "ads") ∷ [])) ∷ []
without_the_act = refl
