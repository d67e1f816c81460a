use Rattle.std.proofs.Common.{rules, ◌≡◌, ◌++◌, inl, inr, refl, sym, ◌∙◌}
use Rattle.std.specs.Prelude.{None, Some, is_some}
use Rattle.ucon_model.specs.History.{History}
use Rattle.ucon_model.specs.Plain.{Bytes, PlainPolicy}
use Rattle.ucon_store.specs.Whole.{IsFront}
use Rattle.ucon_syntax.specs.Policies.{accepted}
use Rattle.ucon_converse.specs.Holding.{stands}
use Rattle.ucon_converse.specs.Keeping.{IsDated}
use Rattle.ucon_converse.specs.Readings.{IsNoReading, line_told}
use Rattle.ucon_converse.specs.Replies.{IsToldSo}
use Rattle.ucon_converse.specs.Said.{fault_line}
use Rattle.ucon_converse.specs.Unasked.{IsToldUnasked}
use Rattle.ucon_converse.proofs.Faulty.{fault_told}
use Rattle.ucon_converse.proofs.OneLine.{fault_line_is}
use Rattle.ucon_converse.proofs.Tellings.{replied, replied_as}
use Rattle.ucon_converse.proofs.Unasked.{no_request}
use Rattle.ucon_converse.proofs.Unheard.{fault_unasked}
use Rattle.ucon_converse.proofs.telling.answer_unasked.Goals as goal

pub returns-in-Some : goal.returns-in-Some
returns-in-Some g c =
    let s = c.args.store.now in
    let reading = c.in-Some.reading in
    let Told : Bytes → Type 0 = λ reply. (P : PlainPolicy) (G : History) → accepted s.policy ≡ Some P → IsFront P s G
    → IsToldSo s.mark (line_told P s.policy (G ++ s.entries) reading) reply in
    replied_as c.tell_reading.result c.args.out.now.items c.tell_reading.new.out.items Told (IsToldUnasked g.D.Disk.seen s c.args.line.now)
    (λ reply told. record {
      said = λ P G points tried accepts front. inr (inr (inr (inl (record {
        reading = reading;
        asks = c.in-Some.ensures.told;
        told = told P G accepts front;
        same = refl;
      }))));
      unasked = inl (λ e q. no_request c.args.line.now reading e.caller q.text c.in-Some.ensures.told q.by);
    }) c.tell_reading.ensures

pub returns-in-None : goal.returns-in-None
returns-in-None g c =
    let s = c.args.store.now in
    let line = c.args.line.now in
    let fault = c.args.fault in
    let stopped = c.is_stopped.result in
    let is : is_some s.mark ≡ stopped = search rules in
    let unread : IsNoReading line = λ reading asks. let no : None ≡ Some reading = sym c.in-None.is ∙ c.read_reading.ensures.asked reading asks in cc no in
    replied c.put_fault.result c.args.out.now.items c.put_fault.new.out.items (fault_line fault stopped) (IsToldUnasked g.D.Disk.seen s line)
    (fault_line_is c.texts_lack_bytes.ensures.numbers line fault stopped c.requires.client)
    (record {
      said = λ P G points tried accepts front.
          fault_told line P s.policy (IsDated (g.D.Disk.seen s.disk).contents) (stands G points tried s) stopped is unread c.requires.unpointed fault c.requires.client
          c.requires.refused;
      unasked = fault_unasked line s.mark stopped is fault c.requires.client c.requires.refused;
    })
    c.put_fault.ensures
