use Rattle.std.proofs.Common.{◌≡◌, refl, sym, ◌∙◌, subst}
use Rattle.ucon_disk.specs.Image.{step}
use Rattle.ucon_disk.specs.History.{History, state_now}
use Rattle.ucon_disk.specs.Recorded.{change_of}
use Rattle.ucon_disk.proofs.Histories.{file_after_call}
use Rattle.ucon_disk.proofs.log.Log.note.Goals as goal

pub invariant_of-self-2 : goal.invariant_of-self-2
invariant_of-self-2 c =
    let stays = subst (λ (h : History). (step (state_now h) (change_of c.args.call)).file ≡ (state_now h).file) (sym c.self.view_is) c.requires in
    file_after_call _ _ c.self.inside.calls.items c.push.new.self.items c.args.call _ refl c.in_ok-push.ensures.items (stays ∙ c.self.invariant)
