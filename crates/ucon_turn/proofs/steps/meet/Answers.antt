use Rattle.std.proofs.Common.{◌≡◌, ◌∷◌, rules, ap, subst, ◌∙◌, inl, inr, ⊎_elim}
use Rattle.ucon_turn.specs.Lists.{Begins, longer}
use Rattle.ucon_turn.specs.Rule.{MeetsBoth, LedTo}
use Rattle.ucon_turn.specs.declared.table.SeatView.{SeatView}
use Rattle.ucon_turn.proofs.Lists.{longer_is}
use Rattle.ucon_turn.proofs.Rounds.{looks}
use Rattle.ucon_turn.proofs.Joining.{joins}
use Rattle.ucon_turn.proofs.steps.meet.Goals as goal

pub join_seat-requires : goal.join_seat-requires
join_seat-requires g c = (search rules, search rules, search rules, search rules, joins g.E.Turned.caller (LedTo g.E.Turned.base g.E.Turned.stays) g.E.Turned.entries c.args.table.now.key.value _ _ _ _ c.requires.idle.0.0 c.requires.idle.1.0)

pub load-requires : goal.load-requires
load-requires g c = (search rules, search rules, looks g.E.Turned.caller (LedTo g.E.Turned.base g.E.Turned.stays) g.E.Turned.entries c.args.table.now.key.value _ _ _ (ap (λ m. m.0.stage) c.join_seat.ensures.2))

pub returns-clause-longer : goal.returns-clause-longer
returns-clause-longer g c =
    let v = c.args.seat.now.me.0 in
    let w = c.args.other.me.0 in
    let told = c.load.ensures.2 in
    let seen : c.load.new.seat.me.0.seen ≡ longer v.seen w.seen = ap (λ m. m.0.seen) told.1 ∙ ap (λ m. m.0.seen) c.join_seat.ensures.2 in
    let met : MeetsBoth g.E.Turned.caller v.number (w.number ∷ v.taken) v.seen w.seen (longer v.seen w.seen) = subst (λ (k : SeatView g.row.E.Denot g.row.E-Entry.Denot). MeetsBoth g.E.Turned.caller k.number k.taken k.ours k.theirs k.seen) (ap (λ m. m.0) c.join_seat.ensures.2) told.4 in
    ⊎_elim
    (λ (h : (longer v.seen w.seen ≡ v.seen) × Begins w.seen v.seen). inl (seen ∙ h.0))
    (λ (h : (longer v.seen w.seen ≡ w.seen) × Begins v.seen w.seen). inr (seen ∙ h.0))
    (longer_is v.seen w.seen (longer v.seen w.seen) (met.0.0, met.0.1) (met.1.0, met.1.1))
