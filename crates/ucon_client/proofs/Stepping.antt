-- A store's step, as a step of its list.
use Rattle.std.proofs.Common.{◌≡◌, ◌≢◌, ◌↔◌, ◌+◌, Bool, true, false, List, [], ◌∷◌, ◌++◌, Option, Some, None, map, length, refl, sym, ap, ◌∙◌}
use Rattle.std.specs.Prelude.{IsSome, if◌then◌else◌}
use Rattle.std.specs.Option.{option_to_list}
use Rattle.std.proofs.lemmas.List.{append-nil, append_cancel_left, map-append}
use Rattle.ucon_base.specs.Elements.{Each}
use Rattle.ucon_turn.specs.Lists.{Continues}
use Rattle.ucon_model.specs.declared.command.Entry.{Entry}
use Rattle.ucon_model.specs.History.{History, changes}
use Rattle.ucon_model.specs.LegalRun.{Answer, no_memory, disk_fault, stopped, placed}
use Rattle.ucon_store.specs.declared.event.Event.{Event}
use Rattle.ucon_store.specs.declared.event.Event.TheVariants.{Done, Failed}
use Rattle.ucon_store.specs.Events.{events, number_of}
use Rattle.ucon_store.specs.Marks.{marked}
use Rattle.ucon_client.specs.Events.{marks_in, appended}
use Rattle.ucon_client.specs.Clients.{Replies, Stepped, Steps, Tells}
use Rattle.ucon_client.proofs.Listing.{entries_in-events, marks_in-events, ends_events}

-- ---- from the history and the mark to the list

done_grown : (b : Bool) (H : History) (line : Entry) → map Done (if b then H ++ line ∷ [] else H) ≡ map Done H ++ (if b then Done line ∷ [] else [])
done_grown true H line = map-append Done H (line ∷ [])
done_grown false H line = sym (append-nil (map Done H))

appends : (says : Replies) (line : Entry) (H : History) (mark : Option Entry) (later : History) (next : Option Entry) (a : Answer)
    → Stepped says line H mark later next a → events later (marked next) ≡ events H (marked mark) ++ appended line a
appends says line H mark later next no_memory s = (λ i. events (s.1 i) (marked ((s.2 ∙ sym s.0) i))) ∙ sym (append-nil (events H (marked mark)))
appends says line H mark later next stopped s = (λ i. events (s.1 i) (marked (s.2 i))) ∙ sym (append-nil (events H (marked mark)))
appends says line H mark later next disk_fault s = (λ i. events (s.2 i) (marked (s.3 i))) ∙ ap (λ m. events H (marked m) ++ Failed line ∷ []) (sym s.0)
appends says line H mark later next (placed place reply) s =
    (λ i. events (s.3 i) (marked (s.4 i))) ∙ (done_grown (changes (says H line.caller line.command)) H line
    ∙ (ap (λ reply. map Done H ++ (if changes reply then Done line ∷ [] else [])) (sym s.1) ∙ ap (λ m. events H (marked m) ++ appended line (placed place reply)) (sym s.0)))

no_marks : (H : History) (mark : Option Entry) → mark ≡ None → marks_in (events H (marked mark)) ≡ []
no_marks H mark e = marks_in-events H mark ∙ ap option_to_list e

some_mark : (H : History) (mark : Option Entry) → IsSome mark → marks_in (events H (marked mark)) ≢ []
some_mark H None some e = absurd (cc)
some_mark H (Some m) some e = absurd (let none = sym (marks_in-events H (Some m)) ∙ e in (cc))

tells : (says : Replies) (line : Entry) (H : History) (mark : Option Entry) (later : History) (next : Option Entry) (a : Answer)
    → Stepped says line H mark later next a → Tells says line (events H (marked mark)) (events later (marked next)) a
tells says line H mark later next no_memory s = no_marks H mark s.0
tells says line H mark later next stopped s = some_mark H mark s.0
tells says line H mark later next disk_fault s = (
  no_marks H mark s.0,
  ap (λ K. changes (says K line.caller line.command)) (entries_in-events H mark) ∙ s.1,
)
tells says line H mark later next (placed place reply) s = (
  no_marks H mark s.0,
  s.1 ∙ ap (λ K. says K line.caller line.command) (sym (entries_in-events H mark)),
  s.2 ∙ ap length (sym (entries_in-events later next)),
)

pub stepped : (says : Replies) (line : Entry) (H : History) (mark : Option Entry) (later : History) (next : Option Entry) (a : Answer)
    → Stepped says line H mark later next a → Steps says line (events H (marked mark)) (events later (marked next)) a
stepped says line H mark later next a s =
    record { ends = ends_events H mark; appends = appends says line H mark later next a s; tells = tells says line H mark later next a s }

-- ---- what is appended

no_mark_by : (b : Bool) (line : Entry) → (if b then Done line ∷ [] else []) ≢ Failed line ∷ []
no_mark_by true line e = absurd (cc)
no_mark_by false line e = absurd (cc)

marks_by_fault : (line : Entry) (a : Answer) → appended line a ≡ Failed line ∷ [] → a ≡ disk_fault
marks_by_fault line no_memory e = absurd (cc)
marks_by_fault line disk_fault e = refl
marks_by_fault line stopped e = absurd (cc)
marks_by_fault line (placed place reply) e = absurd (no_mark_by (changes reply) line e)

pub faults_are_marked : (says : Replies) (line : Entry) (before after : List Event) (a : Answer) → Steps says line before after a
    → (a ≡ disk_fault) ↔ (after ≡ before ++ Failed line ∷ [])
faults_are_marked says line before after a s = (
  λ e. s.appends ∙ ap (λ b. before ++ appended line b) e,
  λ e. marks_by_fault line a (append_cancel_left before (appended line a) (Failed line ∷ []) (sym s.appends ∙ e)),
)

own_by : (b : Bool) (line : Entry) → Each (λ i. number_of i ≡ line.caller.0 + 1) (if b then Done line ∷ [] else [])
own_by true line = (refl, tt)
own_by false line = tt

appended_own : (line : Entry) (a : Answer) → Each (λ i. number_of i ≡ line.caller.0 + 1) (appended line a)
appended_own line no_memory = tt
appended_own line disk_fault = (refl, tt)
appended_own line stopped = tt
appended_own line (placed place reply) = own_by (changes reply) line

pub step_appends_own : (says : Replies) (line : Entry) (before after : List Event) (a : Answer) → Steps says line before after a
    → Continues (λ i. number_of i ≡ line.caller.0 + 1) before after
step_appends_own says line before after a s = (appended line a, sym s.appends, appended_own line a)
