use Rattle.std.proofs.Common.{subst}
use Rattle.ucon_state.specs.Shown.{shown}
use Rattle.ucon_cascade.specs.Cascading.{WereExact}
use Rattle.ucon_readers.specs.Readers.{first_of, readers_at}
use Rattle.ucon_cascade.proofs.Following.{follow_ended, follow_quiet, group_ended, group_quiet}
use Rattle.ucon_cascade.proofs.follow.follow_head.Goals as goal

pub returns-in_err-hide-in-Ended-clause-undo : goal.returns-in_err-hide-in-Ended-clause-undo
returns-in_err-hide-in-Ended-clause-undo c =
    c.in_err-hide-in-Ended.ensures.undo (readers_at c.args.readers.now) (first_of c.args.readers.now) (c.undoing_gives_what_is_kept.ensures.readers c.args.readers.now c.requires.kept)

pub returns-in_ok-hide-in-Ended-clause-exact : goal.returns-in_ok-hide-in-Ended-clause-exact
returns-in_ok-hide-in-Ended-clause-exact c =
    let s = shown c.args.state.now in
    let standing = readers_at c.args.readers.now in
    let first = first_of c.args.readers.now in
    follow_ended s standing first c.in-Ended.n (subst (WereExact s standing first) c.in-Ended.is c.requires.were) (readers_at c.hide.new.self) c.in_ok-hide-in-Ended.ensures.read

pub returns-in_ok-hide-in-Ended-clause-grouped : goal.returns-in_ok-hide-in-Ended-clause-grouped
returns-in_ok-hide-in-Ended-clause-grouped c =
    let s = shown c.args.state.now in
    let standing = readers_at c.args.readers.now in
    let first = first_of c.args.readers.now in
    let left = c.in_ok-hide-in-Ended.ensures in
    group_ended s standing first c.in-Ended.n (subst (WereExact s standing first) c.in-Ended.is c.requires.were) (first_of c.hide.new.self) c.in_ok-hide-in-Ended.field-0
    left.low left.same left.next left.first left.stands

pub returns-in_ok-hide-in-Ended-clause-undo : goal.returns-in_ok-hide-in-Ended-clause-undo
returns-in_ok-hide-in-Ended-clause-undo c =
    c.in_ok-hide-in-Ended.ensures.undo (readers_at c.args.readers.now) (first_of c.args.readers.now) (c.undoing_gives_what_is_kept.ensures.readers c.args.readers.now c.requires.kept)

pub returns-in_default : goal.returns-in_default
returns-in_default c =
    let s = shown c.args.state.now in
    let standing = readers_at c.args.readers.now in
    let first = first_of c.args.readers.now in
    let head = c.args.head.now in
    record {
      exact = follow_quiet s standing first head c.requires.were c.in_default.not-Permitted c.in_default.not-Ended;
      grouped = group_quiet s standing first head c.requires.were c.in_default.not-Permitted c.in_default.not-Ended;
      alone = λ k n is. absurd (c.in_default.not-Permitted k is);
      undo = c.undoing_gives_what_is_kept.ensures.readers c.args.readers.now c.requires.kept;
    }
