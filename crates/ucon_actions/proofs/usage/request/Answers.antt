use Rattle.std.proofs.Common.{refl, ◌∷◌, ◌+◌, length, subst, sym}
use Rattle.ucon_model.specs.Action.{tries}
use Rattle.ucon_state.specs.Shown.{object_name, right_name, shown, subject_name}
use Rattle.ucon_actions.specs.Sessions.{IsIn}
use Rattle.ucon_model.specs.declared.session.SessionState.TheVariants.{Requesting}
use Rattle.ucon_actions.proofs.Stepping.{one_step}
use Rattle.ucon_actions.proofs.Deciding.{tries_legal, requests, request_made}
use Rattle.ucon_actions.proofs.Keeping.{base_on, changed_base}
use Rattle.ucon_actions.proofs.usage.request.Goals as goal

pub decide-requires-clause-following : goal.decide-requires-clause-following
decide-requires-clause-following c =
    let keep = c.tables_keep_what_is_followed.ensures in
    let followed = c.each_action_is_followed.ensures.after in
    let s = shown c.args.state.now in
    let P = c.requires.following.policy in
    let T = c.requires.following.trace in
    let h = c.requires.following.follows in
    record {
      policy = P;
      trace = tries (length s.tables.sessions + 1) c.args.caller (subject_name c.args.state.now c.args.subject) (right_name c.args.state.now c.args.right) (object_name c.args.state.now c.args.object) ∷ T;
      follows = one_step followed s (shown c.add_numbered_session.new.self) P T (tries (length s.tables.sessions + 1) c.args.caller (subject_name c.args.state.now c.args.subject) (right_name c.args.state.now c.args.right) (object_name c.args.state.now c.args.object)) _ refl h
          (tries_legal keep s P T h c.args.caller (right_name c.args.state.now c.args.right) (subject_name c.args.state.now c.args.subject) (object_name c.args.state.now c.args.object) c.requires.right c.requires.subject c.requires.object c.requires.few) c.in_ok-n.ensures.ok refl;
    }

pub decide-requires-clause-requesting : goal.decide-requires-clause-requesting
decide-requires-clause-requesting c =
    let keep = c.tables_keep_what_is_followed.ensures in
    let followed = c.each_action_is_followed.ensures.after in
    let s = shown c.args.state.now in
    let s1 = shown c.add_numbered_session.new.self in
    let P = c.requires.following.policy in
    let T = c.requires.following.trace in
    let h = c.requires.following.follows in
    let n = length s.tables.sessions + 1 in
    let requesting = requests keep s1 P T n c.args.caller (right_name c.args.state.now c.args.right) (subject_name c.args.state.now c.args.subject) (object_name c.args.state.now c.args.object)
    (one_step followed s s1 P T (tries n c.args.caller (subject_name c.args.state.now c.args.subject) (right_name c.args.state.now c.args.right) (object_name c.args.state.now c.args.object)) _ refl h
    (tries_legal keep s P T h c.args.caller (right_name c.args.state.now c.args.right) (subject_name c.args.state.now c.args.subject) (object_name c.args.state.now c.args.object) c.requires.right c.requires.subject c.requires.object c.requires.few) c.in_ok-n.ensures.ok refl) in
    subst (λ (m : _). IsIn s1.tables m Requesting) (sym c.in_ok-n.ensures.number) requesting

pub returns-clause-made : goal.returns-clause-made
returns-clause-made c =
    let keep = c.tables_keep_what_is_followed.ensures in
    let followed = c.each_action_is_followed.ensures.after in
    let s = shown c.args.state.now in
    let s1 = shown c.add_numbered_session.new.self in
    request_made keep c.decide.result s s1 (shown c.decide.new.state) c.in_ok-n.n c.args.caller (right_name c.args.state.now c.args.right) (subject_name c.args.state.now c.args.subject) (object_name c.args.state.now c.args.object) c.in_ok-n.ensures.number
    (λ P T h. one_step followed s s1 P T (tries (length s.tables.sessions + 1) c.args.caller (subject_name c.args.state.now c.args.subject) (right_name c.args.state.now c.args.right) (object_name c.args.state.now c.args.object)) _ refl h
    (tries_legal keep s P T h c.args.caller (right_name c.args.state.now c.args.right) (subject_name c.args.state.now c.args.subject) (object_name c.args.state.now c.args.object) c.requires.right c.requires.subject c.requires.object c.requires.few) c.in_ok-n.ensures.ok refl)
    c.decide.ensures.made

pub returns-clause-base : goal.returns-clause-base
returns-clause-base c =
    let s = shown c.args.state.now in
    let s1 = shown c.add_numbered_session.new.self in
    base_on s s1 (shown c.decide.new.state) (changed_base s s1 _ c.in_ok-n.ensures.ok (λ side name attr cell here. here)) c.decide.ensures.base
