use Rattle.std.proofs.Common.{◌≡◌, ◌+◌, ◌*◌, ◌/◌, ◌%◌, ◌^◌, ap}
use Rattle.std.proofs.Math.Nat.{mod-add-mod}
use Rattle.ucon_model.specs.Generated.{next_x, below}
use Rattle.ucon_script.specs.declared.draws.Generator.{Generator}
use Rattle.ucon_script.proofs.draws.Generator.draw.Goals as goal

pub returns-clause-drawn : goal.returns-clause-drawn
unfolding next_x below
returns-clause-drawn c = ap (λ x. (x / 2 ^ 33) % c.args.k) (mod-add-mod (c.args.self.now.x * 6364136223846793005) (2 ^ 64) 1442695040888963407)

pub returns-clause-stepped : goal.returns-clause-stepped
unfolding next_x
returns-clause-stepped c =
    let stepped = λ (x : _). record c.args.self.now { x = x } in
    ap stepped (mod-add-mod (c.args.self.now.x * 6364136223846793005) (2 ^ 64) 1442695040888963407)
