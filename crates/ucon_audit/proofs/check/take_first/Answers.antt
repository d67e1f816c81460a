use Rattle.std.proofs.Common.{◌≡◌, ◌+◌, [], ◌∷◌, None, Some, sym, ap, ◌∙◌, subst}
use Rattle.std.specs.Prelude.{IfSome}
use Rattle.ucon_journal.specs.Journal.{disk_of, gate_of, payload_of}
use Rattle.ucon_model.specs.Plain.{Bytes, PlainPolicy}
use Rattle.ucon_syntax.specs.Policies.{accepted}
use Rattle.ucon_audit.specs.Checking.{IsChecking}
use Rattle.ucon_audit.specs.Keeping.{Keeps}
use Rattle.ucon_audit.proofs.Told.{added_told, ok_option, starts}
use Rattle.ucon_audit.proofs.check.take_first.Goals as goal

pub returns : goal.returns
returns g c =
    let journal = c.args.journal.now in
    let o = (g.D.Disk.seen (disk_of journal)).contents in
    let gate = gate_of journal in
    let follows = g.E.Engine.follows in
    let kept = c.args.chain.kept in
    let text = payload_of journal in
    let said = c.payload-text.result.now in
    let is : said ≡ text = c.payload-text.ensures in
    ok_option (accepted said ≡ None) (accepted text ≡ None)
    (λ k. (k.chain ≡ c.add.new.self) × (P : PlainPolicy) × (accepted said ≡ Some P) × Keeps follows k.keeping said P [])
    (λ k. (P : PlainPolicy) × IsChecking follows kept text P k gate o)
    (λ none. sym (ap accepted is) ∙ none)
    (λ k begun.
    let here : (accepted text ≡ Some begun.1) × Keeps follows k.keeping text begun.1 [] =
    subst (λ (t : Bytes). (accepted t ≡ Some begun.1) × Keeps follows k.keeping t begun.1 []) is (begun.2, begun.3) in (
      begun.1,
      starts follows kept text begun.1 k o c.add.new.self gate begun.0 here.0 here.1 (c.add.ensures.records ∙ ap (λ n. n + 1) c.requires.none)
          c.requires.short c.requires.gate c.requires.counted
          (subst (λ (t : Bytes). IfSome o (λ file. Rattle.ucon_audit.specs.Head.IsChain kept (Rattle.std.specs.Prelude.take 8 file) (t ∷ []) c.add.new.self)) is
          (added_told o kept c.args.chain c.add.new.self said (c.add.ensures.chain kept) c.requires.chained)),
    ))
    c.begin.result c.begin.ensures
