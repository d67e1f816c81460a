-- How far a document is generated.
use Rattle.std.specs.Prelude.{◌+◌, ◌<◌, ◌≤◌, ◌^◌}
use Rattle.ucon_model.specs.Generated.{Generator as PlainGenerator}
use Rattle.ucon_script.specs.declared.draws.Generator.{Generator}

-- the generator, as the definition has it
abbrev pub generator_of : Generator → PlainGenerator
generator_of g = record { x = g.x; tick = g.tick; tries = g.tries }

-- there is room for one try more, and the tick may rise once more
pub record HasRoom (g : Generator) : Type 0 where
  pub tries : g.tries + 1 < 2 ^ 32
  pub tick : g.tick + 10 ≤ 1000000000000000
