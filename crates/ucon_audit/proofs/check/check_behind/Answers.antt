use Rattle.std.proofs.Common.{◌≡◌, Some, None, refl, sym, ap, ◌∙◌}
use Rattle.ucon_journal.specs.Journal.{disk_of, gate_of, payload_of}
use Rattle.ucon_model.specs.Plain.{Bytes, PlainPolicy}
use Rattle.ucon_store.specs.Opening.{first_difference}
use Rattle.ucon_audit.specs.Checking.{IsChecking}
use Rattle.ucon_audit.proofs.Told.{idle_at_end, if_none, if_some, other_told, refused_told, whole_told}
use Rattle.ucon_audit.proofs.check.check_behind.Goals as goal

pub returns-in-Ok-None-clause-refused : goal.returns-in-Ok-None-clause-refused
returns-in-Ok-None-clause-refused g c =
    let o = (g.D.Disk.seen (disk_of c.args.journal.now)).contents in (
      refused_told o (payload_of c.args.journal.now) (gate_of c.args.journal.now) c.requires.counted
          (if_none _ _ c.in-Ok-None.field-0 c.in-Ok-None.field-0-is c.in-Ok-None.ensures),
      refl,
    )

pub take_all-requires-clause-checking : goal.take_all-requires-clause-checking
take_all-requires-clause-checking g c =
    let o = (g.D.Disk.seen (disk_of c.args.journal.now)).contents in
    let text = payload_of c.args.journal.now in
    let begun = if_some _ (λ k. (P : PlainPolicy) × IsChecking g.E.Engine.follows c.args.chain.kept text P k (gate_of c.args.journal.now) o)
    c.in-Ok-Some.field-0 c.in-Ok-Some.check c.in-Ok-Some.field-0-is c.in-Ok-Some.ensures in
    (c.args.chain.kept, text, begun.0, begun.1)

pub returns-in-Some-clause-refused : goal.returns-in-Some-clause-refused
returns-in-Some-clause-refused g c =
    let follows = g.E.Engine.follows in
    let kept = c.args.chain.kept in
    let o = (g.D.Disk.seen (disk_of c.args.journal.now)).contents in
    let text = payload_of c.args.journal.now in
    let begun = if_some _ (λ k. (P : PlainPolicy) × IsChecking follows kept text P k (gate_of c.args.journal.now) o)
    c.in-Ok-Some.field-0 c.in-Ok-Some.check c.in-Ok-Some.field-0-is c.in-Ok-Some.ensures in
    let end = c.in-Ok.ensures.taken kept text begun.0 begun.1 in
    let differs : first_difference text c.args.policy.now ≡ Some c.in-Some.place =
    ap (λ (t : Bytes). first_difference t c.args.policy.now) (sym c.payload.ensures) ∙ (sym c.first_difference-other.ensures ∙ c.in-Some.is) in (
      other_told follows kept text begun.0 c.take_all.new.self o (gate_of c.take_all.new.journal) c.args.policy.now c.in-Some.place end c.in-Ok.ensures.all differs,
      c.in-Ok.ensures.unfailed,
    )

pub returns-in-None-clause-whole : goal.returns-in-None-clause-whole
returns-in-None-clause-whole g c =
    let follows = g.E.Engine.follows in
    let kept = c.args.chain.kept in
    let o = (g.D.Disk.seen (disk_of c.args.journal.now)).contents in
    let text = payload_of c.args.journal.now in
    let begun = if_some _ (λ k. (P : PlainPolicy) × IsChecking follows kept text P k (gate_of c.args.journal.now) o)
    c.in-Ok-Some.field-0 c.in-Ok-Some.check c.in-Ok-Some.field-0-is c.in-Ok-Some.ensures in
    let end = c.in-Ok.ensures.taken kept text begun.0 begun.1 in
    let same : first_difference text c.args.policy.now ≡ None =
    ap (λ (t : Bytes). first_difference t c.args.policy.now) (sym c.payload.ensures) ∙ (sym c.first_difference-other.ensures ∙ c.in-None.is) in
    whole_told follows kept text begun.0 c.take_all.new.self o (gate_of c.take_all.new.journal) c.args.policy.now end c.in-Ok.ensures.all same

pub returns-in-None-clause-idle : goal.returns-in-None-clause-idle
returns-in-None-clause-idle g c =
    let follows = g.E.Engine.follows in
    let kept = c.args.chain.kept in
    let o = (g.D.Disk.seen (disk_of c.args.journal.now)).contents in
    let text = payload_of c.args.journal.now in
    let begun = if_some _ (λ k. (P : PlainPolicy) × IsChecking follows kept text P k (gate_of c.args.journal.now) o)
    c.in-Ok-Some.field-0 c.in-Ok-Some.check c.in-Ok-Some.field-0-is c.in-Ok-Some.ensures in
    let end = c.in-Ok.ensures.taken kept text begun.0 begun.1 in
    idle_at_end follows kept text begun.0 c.take_all.new.self o (gate_of c.take_all.new.journal) end
