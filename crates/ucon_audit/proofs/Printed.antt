-- What a full check tells, and what is printed of it.
use Rattle.std.proofs.Common.{◌≡◌, Bool, length, take, Option, Some, None, refl, sym, ap, ◌∙◌, subst}
use Rattle.std.specs.Prelude.{option_map, IfSome}
use Rattle.ucon_journal.specs.Found.{counted}
use Rattle.ucon_journal.specs.Opened.{opened}
use Rattle.ucon_model.specs.Action.{Trace}
use Rattle.ucon_model.specs.Found.{Finding}
use Rattle.ucon_model.specs.History.{History, trace}
use Rattle.ucon_model.specs.Plain.{Bytes, PlainPolicy}
use Rattle.ucon_store.specs.Found.{Tells}
use Rattle.ucon_audit.specs.declared.auditing.Audited.{Audited}
use Rattle.ucon_audit.specs.declared.check.Check.{Check}
use Rattle.ucon_audit.specs.declared.head.Kept.{Kept}
use Rattle.ucon_audit.specs.Audited.{IsAuditOf, IsPrinted, audit_spelling}
use Rattle.ucon_audit.specs.Checking.{IsWhole}
use Rattle.ucon_audit.specs.Head.{extends, extends_kept}
use Rattle.ucon_audit.specs.Lines.{audit_lines}
use Rattle.ucon_audit.specs.Report.{line_of, tree}
use Rattle.ucon_audit.proofs.Opened.{found_opened}

told_as : (kept : Option Kept) (magic : Bytes) (payloads : _) (b : Bool) → b ≡ extends kept magic payloads
    → option_map (λ _. b) kept ≡ option_map (λ k. extends_kept k magic payloads) kept
told_as None magic payloads b is = refl
told_as (Some k) magic payloads b is = ap Some is

-- what was checked is told
pub audit_told : {E : Type 0} (follows : E → PlainPolicy → Trace → Type 0) (kept : Option Kept) (text : Bytes) (check : Check E) (a : Audited E) (o : Option Bytes)
    → IfSome (option_map opened o) (IsWhole follows kept text check) → a.records ≡ check.chain.records → a.entries ≡ check.keeping.entries
    → a.head ≡ check.chain.head → a.extends ≡ option_map (λ _. check.chain.extends) check.chain.kept → a.engine ≡ check.keeping.engine
    → IfSome o (IsAuditOf follows kept text a)
audit_told follows kept text check a None h records entries head extending engine = tt
audit_told follows kept text check a (Some file) h records entries head extending engine = record {
  P = h.P;
  H = h.H;
  accepts = h.accepts;
  found = subst (λ (f : Finding). Tells f text h.H) (found_opened file) h.found;
  stands = subst (λ e. follows e h.P (trace h.P h.H)) (sym engine) h.keeps.stands;
  entries = entries ∙ h.keeps.count;
  records = records ∙ h.chained.records;
  head = head ∙ h.chained.head;
  extends = extending ∙ (ap (option_map (λ _. check.chain.extends)) h.chained.kept_is
      ∙ told_as kept (take 8 (opened file)) (counted (opened file)) check.chain.extends h.chained.extends_is);
}

module _ {E : Type 0} (follows : E → PlainPolicy → Trace → Type 0) (text : Bytes) (a : Audited E) (printed : Bytes) where
  -- the lines of an audit
  pub audit_printed : (kept : Option Kept) (o : Option Bytes) → IfSome o (IsAuditOf follows kept text a)
      → ((P : PlainPolicy) (T : Trace) → follows a.engine P T → printed ≡ audit_lines a.records a.entries a.head a.extends P T)
      → IfSome o (IsPrinted text (λ P H file. printed ≡ audit_spelling kept (opened file) P H))
  audit_printed kept None h says = tt
  audit_printed kept (Some file) h says = record {
    P = h.P;
    H = h.H;
    accepts = h.accepts;
    found = h.found;
    is = says h.P (trace h.P h.H) h.stands ∙ (λ i. audit_lines (h.records i) (h.entries i) (h.head i) (h.extends i) h.P (trace h.P h.H));
  }

  -- and a report
  pub report_printed : (kept : Option Kept) (o : Option Bytes) → IfSome o (IsAuditOf follows kept text a)
      → ((P : PlainPolicy) (H : History) → follows a.engine P (trace P H) → a.entries ≡ length H → printed ≡ line_of (tree P H))
      → IfSome o (IsPrinted text (λ P H file. printed ≡ line_of (tree P H)))
  report_printed kept None h says = tt
  report_printed kept (Some file) h says = record {
    P = h.P;
    H = h.H;
    accepts = h.accepts;
    found = h.found;
    is = says h.P h.H h.stands h.entries;
  }
