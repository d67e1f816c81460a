use Rattle.std.proofs.Common.{◌≡◌, ◌∙◌, ℤ, List, ap, refl}
use Rattle.std.specs.Prelude.{Option}
use Rattle.ucon_collections.specs.Deadlines.{Deadlines, deadline_of}
use Rattle.ucon_readers.specs.Timers.{by_replaced}
use Rattle.ucon_readers.proofs.timers.Timers.replace.Goals as goal

pub returns-clause-undo : goal.returns-clause-undo
returns-clause-undo c =
    let same : c.replace-before.result ≡ c.args.self.now.deadlines = search in
    by_replaced c.replace-before.result refl
    (λ n. ap (λ (v : Deadlines). deadline_of v.opening n) same ∙ ap (λ (ds : List (Option ℤ)). deadline_of ds n) c.requires.kept.none_changed)
