use Rattle.std.proofs.Common.{◌≡◌, refl, subst, sym}
use Rattle.ucon_readers.specs.Listing.{HoldsThose, IsKept, Listing, readers_in}
use Rattle.ucon_readers.specs.Lists.{first_in}
use Rattle.ucon_readers.specs.Readers.{by_replaced}
use Rattle.ucon_readers.proofs.readers.Readers.replace.Goals as goal

pub returns-clause-undo : goal.returns-clause-undo
returns-clause-undo c =
    let s : Listing = c.args.self.now.standing in
    let same : c.replace-before.result ≡ s = search in
    by_replaced c.replace-before.result refl (subst IsKept (sym same) c.requires.kept.at_rest)
    (subst (λ (x : Listing). HoldsThose x.lists.members x.index (readers_in s) (first_in s.lists.members)) (sym same) (record {
      stands = λ place. refl;
      firsts = λ n. refl;
      led = c.requires.kept.at_rest.led;
      nobody_hidden = c.requires.kept.at_rest.nobody_hidden;
    }))
