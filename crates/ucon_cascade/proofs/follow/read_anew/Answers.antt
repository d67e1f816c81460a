use Rattle.ucon_state.specs.Shown.{shown}
use Rattle.ucon_readers.specs.Readers.{first_of, readers_at}
use Rattle.ucon_cascade.proofs.Following.{exact_like, grouped_like}
use Rattle.ucon_cascade.proofs.follow.read_anew.Goals as goal

pub returns-in_err-all-clause-undo : goal.returns-in_err-all-clause-undo
returns-in_err-all-clause-undo c = c.undoing_gives_what_is_kept.ensures.readers c.args.readers.now c.requires.kept

pub returns-clause-exact : goal.returns-clause-exact
returns-clause-exact c =
    exact_like (shown c.args.state.now) (readers_at c.in_ok-all.all) (readers_at c.replace.new.self) c.replace.ensures.read c.in_ok-all.ensures.exact

pub returns-clause-grouped : goal.returns-clause-grouped
returns-clause-grouped c =
    grouped_like (shown c.args.state.now) (first_of c.in_ok-all.all) (first_of c.replace.new.self) c.replace.ensures.firsts c.in_ok-all.ensures.grouped
