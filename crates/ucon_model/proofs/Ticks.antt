-- The tick stands still or goes on, and never goes back.
use Rattle.std.proofs.Common.{◌≡◌, [], ◌∷◌, refl}
use Rattle.ucon_model.specs.declared.reply.Refusal.TheVariants.{TickBack}
use Rattle.ucon_model.specs.Plain.{PlainPolicy, refused}
use Rattle.ucon_model.specs.History.{serial}
use Rattle.ucon_model.proofs.Scenes.{tick_to, ok}

abbrev empty : PlainPolicy
empty = record { attrs = []; envs = []; rights = [] }

never_back : serial empty [] (tick_to 0 ∷ tick_to 5 ∷ tick_to 4 ∷ tick_to 1000000000000000 ∷ []) ≡ (1, ok) ∷ (2, ok) ∷ (2, refused TickBack) ∷ (3, ok) ∷ []
never_back = refl
