-- What a full check tells of a file, and what is printed of it.
use Rattle.std.specs.Prelude.{◌≡◌, Bool, length, take, Option, Some, option_map}
use Rattle.ucon_journal.specs.Found.{counted}
use Rattle.ucon_journal.specs.Opened.{opened}
use Rattle.ucon_model.specs.Action.{Trace}
use Rattle.ucon_model.specs.History.{History, trace}
use Rattle.ucon_model.specs.Plain.{Bytes, PlainPolicy}
use Rattle.ucon_store.specs.Found.{IsFoundBy}
use Rattle.ucon_store.specs.Points.{PolicyReading}
use Rattle.ucon_syntax.specs.Policies.{accepted}
use Rattle.ucon_audit.specs.declared.auditing.Audited.{Audited}
use Rattle.ucon_audit.specs.declared.head.Kept.{Kept}
use Rattle.ucon_audit.specs.Head.{extends_kept, head_after}
use Rattle.ucon_audit.specs.Lines.{audit_lines}

-- the head of a journal's file: after all its records, checkpoints among them
abbrev pub head_of : Bytes → Bytes
head_of file = head_after (take 8 file) (counted file)

-- whether a journal's file goes on from what was kept, if something was
abbrev pub extends_of : Option Kept → Bytes → Option Bool
extends_of kept file = option_map (λ k. extends_kept k (take 8 file) (counted file)) kept

-- The file is found as a history under the policy of this text. The engine is as after it. So many entries it has, and so many records and this
-- head the file, as it stands after opening; and it goes on from what was kept, or doesn't.
pub record IsAuditOf {E : Type 0} (follows : E → PlainPolicy → Trace → Type 0) (kept : Option Kept) (text : Bytes) (a : Audited E) (file : Bytes) : Type 0 where
  pub P : PlainPolicy
  pub H : History
  pub accepts : accepted text ≡ Some P
  pub found : IsFoundBy accepted text file H
  pub stands : follows a.engine P (trace P H)
  pub entries : a.entries ≡ length H
  pub records : a.records ≡ length (counted (opened file))
  pub head : a.head ≡ head_of (opened file)
  pub extends : a.extends ≡ extends_of kept (opened file)

-- what `audit` prints of a journal's file, as it stands after opening, in which a history is found
abbrev pub audit_spelling : Option Kept → Bytes → PlainPolicy → History → Bytes
audit_spelling kept file P H = audit_lines (length (counted file)) (length H) (head_of file) (extends_of kept file) P (trace P H)

-- the file is found as a history under the policy of this text, and of that and the file this is so
pub record IsPrintedBy (reads : PolicyReading) (text : Bytes) (so : PlainPolicy → History → Bytes → Type 0) (file : Bytes) : Type 0 where
  pub P : PlainPolicy
  pub H : History
  pub accepts : reads text ≡ Some P
  pub found : IsFoundBy reads text file H
  pub is : so P H file

-- the same by the program's own reading of policies
abbrev pub IsPrinted : Bytes → (PlainPolicy → History → Bytes → Type 0) → Bytes → Type 0
IsPrinted = IsPrintedBy accepted
