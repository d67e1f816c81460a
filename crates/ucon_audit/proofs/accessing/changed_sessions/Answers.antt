use Rattle.std.proofs.Common.{◌∙◌, ℕ, ap, filter_map}
use denote.Exit.{no}
use denote.Param.Send.{arg_sync, param_sync}
use Rattle.ucon_audit.proofs.Shared.{state_sync}
use Rattle.rayon.proofs.ListFacts.{IfOk-then}
use Rattle.ucon_model.specs.declared.session.Verdict.{Verdict}
use Rattle.ucon_model.specs.Plain.{PlainPolicy}
use Rattle.ucon_model.specs.Readings.{in_force}
use Rattle.ucon_model.specs.Truth.{readings}
use Rattle.ucon_state.specs.Shown.{shown}
use Rattle.ucon_state.specs.Tables.{readings_in}
use Rattle.ucon_audit.specs.Recheck.{changed, unless_permitted}
use Rattle.ucon_audit.proofs.Judged.{judged_alike, no_sets_there}
use Rattle.ucon_audit.proofs.accessing.changed_sessions.Goals as goal

pub recheck-requires-clause-no_set : goal.recheck-requires-clause-no_set
recheck-requires-clause-no_set g c κs within =
    let f = c.requires.following in
    λ k d lt. no_sets_there c.typed_tests_make_no_set.ensures.all c.tables_keep_what_is_followed.ensures (shown c.args.state.now) f.policy f.trace f.follows _

pub recheck-requires-sync-V : goal.recheck-requires-sync-V
recheck-requires-sync-V g c κs within = param_sync _ _ (arg_sync _ no _ state_sync)

pub returns : goal.returns
returns g c =
    let s = shown c.args.state.now in
    let R = readings_in s.policy s.tables in
    let ns = c.args.sessions.now in
    IfOk-then c.recheck.result _ _ c.recheck.ensures (λ rows found P T h.
    let agree = (c.tables_keep_what_is_followed.ensures s P T h).readings_agree in
    let same : (n : ℕ) → _ = c.views_that_agree_decide_alike.ensures.verdict (in_force P T) R (readings P T) in
    found
    ∙ ap (λ (Q : PlainPolicy). changed Q R ns) h.policy
    ∙ ap (λ (judge : ℕ → Verdict). filter_map (λ (n : ℕ). unless_permitted n (judge n)) ns) (λ i n. judged_alike (in_force P T) R (readings P T) n (agree.row n) (same n agree) i))
