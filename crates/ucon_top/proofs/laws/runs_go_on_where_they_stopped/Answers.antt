use Rattle.std.proofs.Common.{◌≡◌, ⊎_elim, inl, List, [], ◌∷◌, ◌++◌, subst}
use Rattle.std.specs.Prelude.{Option, None, Some}
use Rattle.ucon_model.specs.declared.command.Entry.{Entry}
use Rattle.ucon_model.specs.History.{History}
use Rattle.ucon_model.specs.LegalRun.{Answered, IsNext, history_after}
use Rattle.ucon_model.specs.Plain.{PlainPolicy}
use Rattle.ucon_model.specs.StoredRun.{BreaksOff, LeadsTo}
use Rattle.ucon_top.proofs.laws.runs_go_on_where_they_stopped.Goals as goal

goes_on : (P : PlainPolicy) (G H K : History) (told more : List Answered) (failed : Option Entry) → LeadsTo P G told H None → LeadsTo P H more K failed → LeadsTo P G (told ++ more) K failed
goes_on P G H K [] more failed first then_more = subst (λ (h : History). LeadsTo P h more K failed) first.0 then_more
goes_on P G H K (t ∷ told) more failed first then_more = ⊎_elim
    (λ (next : IsNext P G t.line t.answer × LeadsTo P (history_after G t.line t.answer) told H None).
    inl (next.0, goes_on P (history_after G t.line t.answer) H K told more failed next.1 then_more))
    (λ (broken : BreaksOff P G t told × (H ≡ G) × (None ≡ Some t.line)). let bad = broken.1 in absurd (cc bad))
    first

pub returns : goal.returns
returns c = goes_on
