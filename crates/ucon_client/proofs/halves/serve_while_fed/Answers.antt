use denote.Exit.{no}
use denote.Param.Send.{arg_send, mut_send, param_send, shr_send}
use Rattle.std.proofs.Crossing.{Vec-send}
use Rattle.std.proofs.alloc.Global.TheSendSync as global
use Rattle.ucon_client.proofs.Crossing.{captures_send, live_client_send, turn_sync}
use Rattle.ucon_client.proofs.halves.serve_while_fed.Goals as goal

pub join_mut-fed-requires-send-F : goal.join_mut-fed-requires-send-F
join_mut-fed-requires-send-F g c κs within =
    param_send _ _ (arg_send _ no _ (captures_send _ _ _ _ _ _ (shr_send _ _ _ c.type_bounds.sync-R) (shr_send _ _ _ global.the_sync)
    (mut_send _ _ _ (Vec-send _ (live_client_send _ _ g.E.Engine g.D.Disk c.type_bounds.send-E c.type_bounds.send-D)))
    (shr_send _ _ _ (turn_sync _ _ g.E.Engine g.D.Disk c.type_bounds.send-E c.type_bounds.send-D)) (shr_send _ _ _ c.type_bounds.sync-G)))
