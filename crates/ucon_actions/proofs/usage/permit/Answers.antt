use Rattle.std.proofs.Common.{refl, ◌<◌, ◌∷◌, [], ℕ, sym, subst, arith}
use Rattle.ucon_model.specs.declared.policy.When.TheVariants.{Before}
use Rattle.ucon_model.specs.declared.session.SessionState.TheVariants.{Requesting, Accessing}
use Rattle.ucon_model.specs.Action.{permit, extended}
use Rattle.ucon_model.specs.Updates.{session_writes}
use Rattle.ucon_state.specs.Following.{Follows}
use Rattle.ucon_state.specs.Shown.{shown}
use Rattle.ucon_state.specs.Tables.{accessing_among}
use Rattle.ucon_engine.specs.ReadOff.{accessing_same}
use Rattle.ucon_actions.proofs.Stepping.{leads_on}
use Rattle.ucon_actions.proofs.Updated.{on_ok}
use Rattle.ucon_actions.proofs.Deciding.{in_after, in_after_writes, accessing_after_writes, may_move}
use Rattle.ucon_actions.proofs.Keeping.{base_by, base_on, cells_after_move}
use Rattle.ucon_actions.proofs.usage.permit.Goals as goal

pub set_session-requires : goal.set_session-requires
set_session-requires c =
    let keep = c.tables_keep_what_is_followed.ensures in
    let s = shown c.args.state.now in
    let s1 = shown c.run_updates.new.state in
    let h = c.requires.following.follows in
    may_move s1.tables c.args.n Requesting Accessing refl
    (in_after_writes keep c.updates_write_their_targets.ensures.sessions s s1 c.requires.following.policy c.requires.following.trace c.args.n c.args.n Before Requesting h (c.in_ok-run_updates.ensures.leads c.requires.following.policy c.requires.following.trace h) c.requires.requesting)

pub returns-clause-leads : goal.returns-clause-leads
returns-clause-leads c =
    let keep = c.tables_keep_what_is_followed.ensures in
    let followed = c.each_action_is_followed.ensures.after in
    let s = shown c.args.state.now in
    let s1 = shown c.run_updates.new.state in
    let s2 = shown c.set_session.new.self in
    let h = c.requires.following.follows in
    let h1 = c.in_ok-run_updates.ensures.leads c.requires.following.policy c.requires.following.trace h in
    let requesting = in_after_writes keep c.updates_write_their_targets.ensures.sessions s s1 c.requires.following.policy c.requires.following.trace c.args.n c.args.n Before Requesting h h1 c.requires.requesting in
    let room : accessing_among s1.tables.sessions < 65536 = omega (arith, accessing_after_writes keep c.writes_leave_sessions.ensures.accessing s s1 c.requires.following.policy c.requires.following.trace c.args.n Before h h1, c.requires.room) in
    let extended-append = c.actions_are_done_in_order.ensures in
    on_ok c.set_session.result
    (λ leads P T h. subst (Follows s2 P) (sym (extended-append T (session_writes P c.args.n Before T) (permit c.args.n ∷ []))) (leads P (extended T (session_writes P c.args.n Before T)) (c.in_ok-run_updates.ensures.leads P T h)))
    (leads_on followed c.set_session.result s1 s2 (permit c.args.n) _ refl
    (λ P U h. (in_after keep s1 P U h c.args.n Requesting requesting, subst (λ (k : ℕ). k < 65536) (sym (accessing_same keep s1 P U h)) room)) refl c.set_session.ensures.ok)

pub returns-clause-base : goal.returns-clause-base
returns-clause-base c =
    let s1 = shown c.run_updates.new.state in
    let s2 = shown c.set_session.new.self in
    base_on (shown c.args.state.now) s1 s2 c.run_updates.ensures.base
    (base_by c.set_session.result s1 s2 _ (cells_after_move s1 c.args.n Accessing) c.set_session.ensures.ok c.set_session.ensures.err)
