-- What a run from the empty history prints.
use Rattle.std.specs.Prelude.{◌≡◌, ◌+◌, false, List, [], map, IsSomeAnd}
use Rattle.ucon_model.specs.declared.command.Entry.{Entry}
use Rattle.ucon_model.specs.Plain.{Bytes, PlainPolicy}
use Rattle.ucon_base.specs.Elements.{Each}
use Rattle.ucon_model.specs.LegalRun.{Answered, IsLegalRun, in_text_order, is_disk_fault, is_stopped}
use Rattle.ucon_model.specs.Output.{output, answers_read}
use Rattle.ucon_model.specs.Summary.{LineReply, IsReplyRun, whole_run, answered, counts, summary}

-- no line met a disk fault, or was stopped by one
abbrev pub IsUnfaulted : List Answered → Type 0
IsUnfaulted told = Each (λ t. (is_disk_fault t.answer ≡ false) × (is_stopped t.answer ≡ false)) told

-- The text is the output of the answers that are read from it. These are a legal run of the lines from the empty history, in the order of the
-- text, and no disk failed in it.
abbrev pub IsRunOutput : PlainPolicy → List Entry → Bytes → Type 0
IsRunOutput P lines text = IsSomeAnd (answers_read lines text) (λ told. (text ≡ output told) × IsLegalRun P in_text_order [] told × IsUnfaulted told)

-- The text is the summary of the replies of a run of the lines from the empty history, in the order of the text. Their answers are a legal run in
-- which no disk failed. If each line was a step or refused, it is the one run in which there is memory for each line.
pub record IsRunSummary (P : PlainPolicy) (lines : List Entry) (text : Bytes) : Type 0 where
  pub told : List LineReply
  pub lines_are : map (λ t. t.line) told ≡ lines
  pub text_is : text ≡ summary (counts told)
  pub replies : IsReplyRun P [] told
  pub legal : IsLegalRun P in_text_order [] (map answered told)
  pub unfaulted : IsUnfaulted (map answered told)
  pub whole : (counts told).steps + (counts told).refused ≡ (counts told).lines → told ≡ whole_run P [] lines
