use Rattle.std.proofs.Common.{List, ℕ, take, ap, sym, ◌∙◌}
use Rattle.ucon_disk.specs.Started.{start_of}
use Rattle.ucon_disk.proofs.Histories.{file_after_call}
use Rattle.ucon_disk.proofs.log.Log.cut.Goals as goal

pub invariant_of-self-2 : goal.invariant_of-self-2
invariant_of-self-2 c =
    let first = ap (λ (now : List ℕ). start_of c.self.inside.first now) c.deref.ensures.value in
    let taken = ap (λ (file : List ℕ). take c.args.len file) c.self.invariant in
    file_after_call _ _ c.self.inside.calls.items c.push.new.self.items _ _ (c.in_ok-keep_first.ensures.ok _ ∙ first)
    c.in_ok-push.ensures.items (taken ∙ sym c.truncate.ensures.items)
