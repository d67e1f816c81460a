use denote.Exit.{no}
use denote.Param.Send.{arg_send, param_send}
use Rattle.ucon_top.proofs.Crossing.{monitor_send}
use Rattle.ucon_top.proofs.LiveCompleting.{live_causes, live_left, live_made, lived_complete}
use Rattle.ucon_top.proofs.top.live_input.Goals as goal

pub live-requires-send-E : goal.live-requires-send-E
live-requires-send-E g c κs within = param_send _ _ (arg_send _ no _ monitor_send)

pub returns : goal.returns
returns g c = record {
  status = c.live.ensures.status;
  causes = live_causes _ _ c.live.result.outcome c.live.ensures.lived c.live.ensures.sink c.live.ensures.fault;
  made = live_made _ _ c.live.result.outcome c.live.ensures.lived;
  left = live_left _ _ c.live.result.outcome;
  complete = lived_complete _ _ c.opening_sees_one_thing.ensures.one c.accepted_documents_are_not_refused.ensures
      c.live.result.outcome c.live.ensures.lived c.live.ensures.sink c.live.ensures.fault;
}
