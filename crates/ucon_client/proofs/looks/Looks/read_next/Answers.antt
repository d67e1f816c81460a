use Rattle.std.proofs.Common.{rules, ◌≡◌, Bool, true, false, refl}
use Rattle.ucon_client.specs.Answers.{AreHeld}
use Rattle.ucon_client.proofs.Held.{one_held, still_held}
use Rattle.ucon_client.proofs.looks.Looks.read_next.Goals as goal

pub returns-in-Look-clause-held : goal.returns-in-Look-clause-held
returns-in-Look-clause-held g c = by_result c.read.result refl
  where
    by_result : (b : Bool) → c.read.result ≡ b → AreHeld c.args.part.now c.read.new.self
    by_result true e =
        one_held c.args.part.now c.args.self.now c.read.new.self c.index-slice-place.result c.in-Look.session c.requires.part.0 c.requires.part.1 c.requires.more
        (search rules) (search rules) c.read.ensures.later.1 (c.read.ensures.read e)
    by_result false e =
        let same = c.read.ensures.not_read e in
        still_held c.args.part.now c.args.self.now c.read.new.self c.requires.part.1 same.0 same.1 c.read.ensures.later.1
