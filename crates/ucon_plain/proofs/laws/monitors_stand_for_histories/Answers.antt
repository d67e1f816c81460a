use Rattle.ucon_model.specs.History.{trace}
use Rattle.ucon_state.specs.Shown.{shown}
use Rattle.ucon_plain.proofs.laws.monitors_stand_for_histories.Goals as goal

pub returns : goal.returns
returns c = λ m P H h. record { policy_is = h.follows.policy; readings_are = (c.tables_keep_what_is_followed.ensures (shown m.state) P (trace P H) h.follows).readings_agree }
