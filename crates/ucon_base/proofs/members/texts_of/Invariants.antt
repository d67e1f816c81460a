use Rattle.std.proofs.Common.{◌≡◌, ◌++◌, drop, map}
use Rattle.ucon_base.specs.Members.{EachIsText}
use Rattle.ucon_base.proofs.members.texts_of.Given as goal

abbrev pub invariant-loop-t : goal.invariant-loop-t
invariant-loop-t l = record {
  texts : l.read.items ++ map (λ t. t.now) (drop l.t-index l.texts) ≡ map (λ t. t.now) l.texts;
  each : EachIsText (map (λ t. t.now) (drop l.t-index l.texts));
}
