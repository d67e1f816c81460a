use Rattle.std.proofs.Common.{rules, ◌≡◌, false, true}
use Rattle.ucon_model.specs.History.{changes, trace}
use Rattle.ucon_model.specs.Views.{reply_of}
use Rattle.ucon_audit.proofs.Taking.{both_ok, told_so, unchanged}
use Rattle.ucon_audit.proofs.keeping.Keeping.drafts.Goals as goal

pub returns-then-not-changes-clause-taken : goal.returns-then-not-changes-clause-taken
returns-then-not-changes-clause-taken g c = λ P H follows.
    let r = reply_of c.in_ok-drafted.drafted in
    let same : changes r ≡ false = search rules in
    unchanged c.steps_are_taken_as_spelled.ensures.taken c.steps_are_taken_as_spelled.ensures.unread P H c.args.payload.now c.args.entry.now
    r c.requires.short c.requires.told (c.in_ok-drafted.ensures.reply P (trace P H) follows) same

pub returns-clause-taken : goal.returns-clause-taken
returns-clause-taken g c =
    let payload = c.args.payload.now in
    let e = c.args.entry.now in
    let r = reply_of c.in_ok-drafted.drafted in
    let changed : changes r ≡ true = search rules in
    both_ok c.tells_reply.result _ _ _ (λ b same read P H follows.
    told_so c.steps_are_taken_as_spelled.ensures.taken c.steps_are_taken_as_spelled.ensures.unread P H payload e r
    c.requires.short c.requires.told (c.in_ok-drafted.ensures.reply P (trace P H) follows) changed
    b (same payload e c.requires.read) (λ yes. read yes payload e c.requires.read)) c.tells_reply.ensures.same c.tells_reply.ensures.read
