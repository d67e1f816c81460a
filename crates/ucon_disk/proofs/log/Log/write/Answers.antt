use Rattle.std.proofs.Common.{◌≡◌, rules, true, List, [], ◌∷◌, ◌++◌, ℕ, ap, sym, ◌∙◌}
use Rattle.ucon_disk.specs.declared.log.Call.{Call}
use Rattle.ucon_disk.specs.declared.log.Call.TheVariants.{Write}
use Rattle.ucon_disk.specs.Disk.{overwritten}
use Rattle.ucon_disk.specs.Started.{start_of}
use Rattle.ucon_disk.proofs.Histories.{file_after_call}
use Rattle.ucon_disk.proofs.log.Log.write.Goals as goal

pub invariant_of-self-2 : goal.invariant_of-self-2
invariant_of-self-2 c =
    let first = ap (λ (now : List ℕ). start_of c.self.inside.first now) c.deref.ensures.value in
    let copied : c.in_ok-copy.copy.items ≡ c.args.bytes.now = search rules in
    let written = (λ i. overwritten c.args.at (copied i) (c.self.invariant i)) ∙ sym c.in_ok-overwrite.ensures.ok in
    let call = Write c.args.at c.in_ok-copy.copy true in
    let grown = c.in_ok-push.ensures.items ∙ ap (λ (calls : List Call). calls ++ call ∷ []) c.reserve.ensures.items in
    file_after_call _ _ c.self.inside.calls.items c.push.new.self.items call _ (c.in_ok-keep_first.ensures.ok _ ∙ first) grown written
