use Rattle.std.proofs.Common.{◌≡◌, ◌++◌, take}
use Rattle.std.specs.List.{flat_map}
use Rattle.ucon_converse.specs.Readings.{joint}
use Rattle.ucon_converse.proofs.reading_texts.put_joined.Given as goal

abbrev pub invariant-loop-byte : goal.invariant-loop-byte
invariant-loop-byte l = l.out.items ≡ l.initial.out.items ++ flat_map joint (take l.byte-index l.lines)
