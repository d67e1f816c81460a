-- What ties the four levels together. No public clause cites this module.
use Rattle.std.specs.Prelude.{◌≡◌, length}
use Rattle.ucon_collections.specs.Bits.{Summarizes}
use Rattle.ucon_collections.specs.declared.levels.Levels.TheInside.{Inside}

-- each level tells of the words of the level below, and the top level is one word
pub record IsSound (levels : Inside) : Type 0 where
  pub words : Summarizes levels.numbers levels.words
  pub blocks : Summarizes levels.words levels.blocks
  pub top : Summarizes levels.blocks levels.top
  pub one_word : length levels.top ≡ 1
