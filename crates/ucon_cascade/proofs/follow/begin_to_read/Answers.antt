use Rattle.ucon_state.specs.Shown.{shown}
use Rattle.ucon_readers.specs.Readers.{first_of, readers_at}
use Rattle.ucon_cascade.proofs.Begun.{alone_begun, alone_itself, begins_from_nowhere, begun_there, exact_begun, exact_reading_nothing, grouped_begun, grouped_itself, others_stand}
use Rattle.ucon_cascade.proofs.Outcomes.{ok_both, ok_then}
use Rattle.ucon_cascade.proofs.follow.begin_to_read.Goals as goal

pub add_reader-requires-clause-nowhere : goal.add_reader-requires-clause-nowhere
add_reader-requires-clause-nowhere c = begins_from_nowhere (shown c.args.state.now) c.args.readers.now c.args.n c.requires.were

pub add_reader-requires-clause-exact : goal.add_reader-requires-clause-exact
add_reader-requires-clause-exact c = others_stand (shown c.args.state.now) c.args.readers.now c.args.n c.requires.were

pub returns-clause-exact : goal.returns-clause-exact
returns-clause-exact c =
    let there = begun_there (shown c.args.state.now) c.args.readers.now c.args.n c.requires.were in
    ok_both c.add_reader.result
    (λ comes numbered. exact_begun (shown c.args.state.now) c.args.readers.now c.args.n c.requires.were (readers_at c.add_reader.new.readers) there.0 there.1 (numbered there.0 there.1)
    (comes there.0 there.1))
    c.add_reader.ensures.comes c.add_reader.ensures.numbered

pub returns-clause-grouped : goal.returns-clause-grouped
returns-clause-grouped c =
    ok_then c.add_reader.result (grouped_begun (shown c.args.state.now) c.args.readers.now c.args.n c.requires.were (first_of c.add_reader.new.readers)) c.add_reader.ensures.first

pub returns-clause-alone : goal.returns-clause-alone
returns-clause-alone c =
    ok_then c.add_reader.result (alone_begun (shown c.args.state.now) c.args.readers.now c.args.n c.requires.were (first_of c.add_reader.new.readers)) c.add_reader.ensures.first

pub lead-requires-clause-nowhere : goal.lead-requires-clause-nowhere
lead-requires-clause-nowhere c = begins_from_nowhere (shown c.args.state.now) c.args.readers.now c.args.n c.requires.were

pub returns-then-not-asks_while_it_goes_on-clause-exact : goal.returns-then-not-asks_while_it_goes_on-clause-exact
returns-then-not-asks_while_it_goes_on-clause-exact c =
    ok_then c.lead.result
    (exact_reading_nothing (shown c.args.state.now) c.args.readers.now c.args.n c.requires.were (readers_at c.lead.new.self)
    (c.asks_while_it_goes_on.ensures.places c.if-not-asks_while_it_goes_on.true))
    c.lead.ensures.comes

pub returns-then-not-asks_while_it_goes_on-clause-grouped : goal.returns-then-not-asks_while_it_goes_on-clause-grouped
returns-then-not-asks_while_it_goes_on-clause-grouped c =
    ok_then c.lead.result (grouped_itself (shown c.args.state.now) c.args.readers.now c.args.n c.requires.were (first_of c.lead.new.self)) c.lead.ensures.alone

pub returns-then-not-asks_while_it_goes_on-clause-alone : goal.returns-then-not-asks_while_it_goes_on-clause-alone
returns-then-not-asks_while_it_goes_on-clause-alone c =
    ok_then c.lead.result (alone_itself (shown c.args.state.now) c.args.readers.now c.args.n c.requires.were (first_of c.lead.new.self)) c.lead.ensures.alone
