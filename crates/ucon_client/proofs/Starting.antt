-- A client none of whose lines is answered.
use Rattle.std.proofs.Common.{◌≡◌, ◌≢◌, ◌+◌, List, [], ◌++◌, None, map, sym, ap, ◌∙◌, subst}
use Rattle.ucon_turn.specs.Lists.{continues_refl}
use Rattle.ucon_model.specs.History.{History}
use Rattle.ucon_model.specs.LegalRun.{Answered}
use Rattle.ucon_store.specs.declared.event.Event.{Event}
use Rattle.ucon_store.specs.declared.event.Event.TheVariants.{Done}
use Rattle.ucon_client.specs.declared.part.Part.{Part}
use Rattle.ucon_store.specs.Kept.{Kept}
use Rattle.ucon_store.specs.Events.{events, events_behind, events_of, number_of}
use Rattle.ucon_turn.specs.Turns.{Opening}
use Rattle.ucon_client.specs.declared.answer.Answer.{Answer}
use Rattle.ucon_client.specs.declared.looks.Looks.{Looks}
use Rattle.ucon_client.specs.Answers.{HoldsLooks, IsPart, IsReaderAt, entry_of, answer_of, told_of}
use Rattle.ucon_client.specs.Boarded.{Sharing}
use Rattle.ucon_client.specs.Looks.{HasReached}
use Rattle.ucon_client.proofs.Held.{none_held}
use Rattle.ucon_client.specs.Clients.{AreRight, Replies, answered}
use Rattle.ucon_client.proofs.OneClient.{begins_right}
use Rattle.ucon_client.proofs.Counting.{answered_none}
use Rattle.ucon_client.proofs.Listing.{ends_events}

pub starts_right : (says : Replies) (G : History) {D : Type 0} (part : Part) (opened : Kept D) (seen : List Event) → opened.mark ≡ None → seen ≡ events_of opened
    → part.answers.items ≡ [] → AreRight says part.number (G ++ opened.entries) (map Done G ++ seen) (told_of part)
starts_right says G part opened seen unmarked is none =
    let H : History = G ++ opened.entries in
    let list : events H None ≡ map Done G ++ seen =
    events_behind G opened.entries None ∙ ap (λ (l : List Event). map Done G ++ l) (ap (events opened.entries) (sym unmarked) ∙ sym is) in
    let told : [] ≡ told_of part = sym (ap (λ l. answered (map entry_of part.lines.items) (map answer_of l)) none ∙ answered_none (map entry_of part.lines.items)) in
    subst (λ (z : List Event × List Answered). AreRight says part.number H z.0 z.1) (λ i. (list i, told i))
    (begins_right says part.number H (events H None) (continues_refl (λ i. number_of i ≢ part.number + 1) (events H None)) (ends_events H None))

-- its reader has read nothing yet
pub starts_holding : {D : Type 0} (turn : Opening (Sharing D)) (p : Part) (l : Looks) → IsPart p → p.answers.items ≡ [] → IsReaderAt turn.opened l.reader
    → l.held.items ≡ [] → HoldsLooks turn p l
starts_holding turn p l part none reader held =
    let told : [] ≡ told_of p = sym (ap (λ (a : List Answer). answered (map entry_of p.lines.items) (map answer_of a)) none ∙ answered_none (map entry_of p.lines.items)) in
    record { reader = reader; held = none_held p l part.first held (subst (HasReached l.last) told tt) }
