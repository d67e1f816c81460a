use Rattle.ucon_model.specs.Usages.{going_on}
use Rattle.ucon_state.specs.Shown.{shown}
use Rattle.ucon_state.specs.Tables.{session_in}
use Rattle.ucon_readers.specs.Readers.{readers_at}
use Rattle.ucon_cascade.proofs.Anew.{all_stand, none_on, none_reads_next, not_yet, one_reads_next}
use Rattle.ucon_cascade.proofs.Begun.{begun_row, row_there}
use Rattle.ucon_cascade.proofs.Outcomes.{ok_three}
use Rattle.ucon_cascade.proofs.follow.add_accessing.Goals as goal

pub returns-then-not-goes_on : goal.returns-then-not-goes_on
returns-then-not-goes_on c =
    let s = shown c.args.state.now in
    none_reads_next s c.args.readers.now c.args.n c.requires.below (none_on (going_on (session_in s.tables c.args.n)) (c.goes_on.ensures.over c.if-not-goes_on.true))

pub add_reader-requires-clause-nowhere : goal.add_reader-requires-clause-nowhere
add_reader-requires-clause-nowhere c = not_yet (shown c.args.state.now) (readers_at c.args.readers.now) c.args.n c.requires.below.exact

pub add_reader-requires-clause-exact : goal.add_reader-requires-clause-exact
add_reader-requires-clause-exact c = all_stand (shown c.args.state.now) c.args.readers.now c.args.n c.requires.below

pub returns : goal.returns
returns c =
    let s = shown c.args.state.now in
    let goes = c.goes_on.ensures.on c.if-not-goes_on.false in
    let there = row_there (session_in s.tables c.args.n) goes in
    ok_three c.add_reader.result
    (λ comes first numbered. one_reads_next s c.args.readers.now c.add_reader.new.readers c.args.n there.0 c.requires.below
    (begun_row (session_in s.tables c.args.n) there.0 there.1 goes) (numbered there.0 there.1) (comes there.0 there.1) first)
    c.add_reader.ensures.comes c.add_reader.ensures.first c.add_reader.ensures.numbered
