use Rattle.std.proofs.Common.{rules, ◌≡◌, ◌≢◌, false, true, sym, ◌∙◌, subst}
use Rattle.std.proofs.lemmas.Bool.{false≢true}
use Rattle.std.proofs.lemmas.Result.{IfOk-weaker}
use Rattle.std.proofs.lemmas.Slice.Eq.{bytes_eq-Decides}
use Rattle.ucon_model.specs.Action.{Trace}
use Rattle.ucon_model.specs.History.{changes, trace_from}
use Rattle.ucon_model.specs.Payload.{payload_spelling, told}
use Rattle.ucon_model.specs.Plain.{PlainPolicy}
use Rattle.ucon_model.specs.Views.{reply_of}
use Rattle.ucon_store.specs.Kept.{payload_in}
use Rattle.ucon_store.specs.Starts.{IsStart}
use Rattle.ucon_store.proofs.Stepping.{one_policy}
use Rattle.ucon_store.proofs.Taking.{drafted_taken, drafted_refused, refused_unless, unchanged_drafted}
use Rattle.ucon_store.proofs.loading.Loaded.drafts.Goals as goal

pub returns-then-not-changes-clause-wrong : goal.returns-then-not-changes-clause-wrong
returns-then-not-changes-clause-wrong g c = λ _ P T accepts start.
    let old = c.args.self.now in
    let text = old.policy.items in
    let H = old.entries in
    let payload = c.args.payload.now in
    let e = c.args.entry.now in
    let r = reply_of c.in_ok-drafted.drafted in
    let standing = c.requires.standing in
    let same = one_policy text standing.P P standing.accepts accepts in
    let stands = subst (λ (Q : PlainPolicy). (U : Trace) → IsStart Q (payload_in old.point) old.before U → g.E.Engine.follows old.engine Q (trace_from Q U H)) same standing.stands in
    let unchanged : changes r ≡ false = search rules in
    refused_unless T text P H payload e c.requires.told (λ reply is.
    unchanged_drafted c.texts_tell_changes.ensures c.payloads_are_read_back.ensures.read T text P H payload e reply r c.requires.short is
    (c.in_ok-drafted.ensures.reply P (trace_from P T H) (stands T start)) unchanged)

pub returns-clause-wrong : goal.returns-clause-wrong
returns-clause-wrong g c = IfOk-weaker c.tells_reply.result _ _ (λ b is no P T accepts start.
    let old = c.args.self.now in
    let text = old.policy.items in
    let H = old.entries in
    let payload = c.args.payload.now in
    let e = c.args.entry.now in
    let r = reply_of c.in_ok-drafted.drafted in
    let standing = c.requires.standing in
    let same = one_policy text standing.P P standing.accepts accepts in
    let stands = subst (λ (Q : PlainPolicy). (U : Trace) → IsStart Q (payload_in old.point) old.before U → g.E.Engine.follows old.engine Q (trace_from Q U H)) same standing.stands in
    let changed : changes r ≡ true = search rules in
    let differ : payload_spelling (told e r) ≢ payload = λ one.
    false≢true (sym no ∙ is payload e c.requires.read ∙ (bytes_eq-Decides (payload_spelling (told e r)) payload).1 one) in
    refused_unless T text P H payload e c.requires.told (λ reply read.
    drafted_refused c.texts_tell_changes.ensures c.payloads_are_read_back.ensures.read T text P H payload e reply r c.requires.short read
    (c.in_ok-drafted.ensures.reply P (trace_from P T H) (stands T start)) changed differ)) c.tells_reply.ensures.same

pub returns-clause-taken : goal.returns-clause-taken
returns-clause-taken g c = IfOk-weaker c.tells_reply.result _ _ (λ b is yes P T accepts start.
    let old = c.args.self.now in
    let text = old.policy.items in
    let H = old.entries in
    let payload = c.args.payload.now in
    let e = c.args.entry.now in
    let r = reply_of c.in_ok-drafted.drafted in
    let standing = c.requires.standing in
    let changed : changes r ≡ true = search rules in
    let read = is yes payload e c.requires.read in
    let same = one_policy text standing.P P standing.accepts accepts in
    let stands = subst (λ (Q : PlainPolicy). (U : Trace) → IsStart Q (payload_in old.point) old.before U → g.E.Engine.follows old.engine Q (trace_from Q U H)) same standing.stands in
    drafted_taken c.texts_tell_changes.ensures c.payloads_are_read_back.ensures.read T text P H payload e r r c.requires.short read
    (c.in_ok-drafted.ensures.reply P (trace_from P T H) (stands T start)) changed (c.payloads_are_read_back.ensures.read payload (told e r) read).0) c.tells_reply.ensures.read
