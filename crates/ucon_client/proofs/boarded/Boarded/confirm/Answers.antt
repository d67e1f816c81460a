use Rattle.std.proofs.Common.{◌≡◌, ◌++◌, map, sym, ap, subst}
use Rattle.ucon_board.specs.Board.{Board, Written}
use Rattle.ucon_store.specs.declared.event.Event.TheVariants.{Done}
use Rattle.ucon_store.specs.Events.{events_of}
use Rattle.ucon_store.specs.Kept.{Kept}
use Rattle.ucon_client.specs.Answers.{SaysFromStore}
use Rattle.ucon_client.specs.Boarded.{IsShownBy, Sharing}
use Rattle.ucon_client.specs.Looks.{IsConfirmed}
use Rattle.ucon_client.specs.Events.{EndsAtMark}
use Rattle.ucon_client.proofs.Following.{confirmed, log_ends}
use Rattle.ucon_client.proofs.boarded.Boarded.confirm.Goals as goal

pub returns-in-Some-clause-confirmed : goal.returns-in-Some-clause-confirmed
returns-in-Some-clause-confirmed g c = λ yes says G from.
    let K = Kept g.row.D.Denot in
    let was : K = c.self.inside.store.value in
    let writer : Written = c.in-Some.writer in
    let here : was ≡ c.args.self.now.store = ap (λ (k : Sharing g.row.D.Denot). k.store) c.self.view_is in
    let shown = subst (IsShownBy was) c.in-Some.is c.self.invariant.1 in
    subst (λ (z : K × Board). IsConfirmed says (map Done G ++ events_of z.0) z.1) (λ i. (here i, sym (c.confirm.ensures.confirmed yes) i))
    (confirmed c.boards_show_entries.ensures.true_of c.replies_tell_states.ensures.look says G was writer.board c.self.invariant.0
    (subst (λ (k : K). SaysFromStore k says G) (sym here) from) shown)

pub returns-in-Some-clause-ends : goal.returns-in-Some-clause-ends
returns-in-Some-clause-ends g c = λ G.
    subst (λ (s : Sharing g.row.D.Denot). EndsAtMark (map Done G ++ events_of s.store)) c.self.view_is (log_ends c.self.inside.store.value c.self.invariant.0 G)

pub returns-in-None-clause-ends : goal.returns-in-None-clause-ends
returns-in-None-clause-ends g c = λ G.
    subst (λ (s : Sharing g.row.D.Denot). EndsAtMark (map Done G ++ events_of s.store)) c.self.view_is (log_ends c.self.inside.store.value c.self.invariant.0 G)
