use Rattle.std.proofs.Common.{rules}
use denote.Exit.{no}
use denote.Param.Send.{arg_send, arg_sync, param_send, param_sync, shr_sync}
use Rattle.std.proofs.alloc.Global.TheSendSync as global
use Rattle.ucon_client.proofs.Crossing.{captures_sync, live_client_send, turn_sync}
use Rattle.ucon_client.proofs.halves.serve_all.Goals as goal

pub for_each_mut-requires-send-T : goal.for_each_mut-requires-send-T
for_each_mut-requires-send-T g c κs within =
    param_send _ _ (arg_send _ no _ (live_client_send _ _ g.E.Engine g.D.Disk c.type_bounds.send-E c.type_bounds.send-D))

pub for_each_mut-requires-sync-F : goal.for_each_mut-requires-sync-F
for_each_mut-requires-sync-F g c κs within =
    param_sync _ _ (arg_sync _ no _ (captures_sync _ _ _ _ _ (shr_sync _ _ _ c.type_bounds.sync-R) (shr_sync _ _ _ global.the_sync)
    (shr_sync _ _ _ (turn_sync _ _ g.E.Engine g.D.Disk c.type_bounds.send-E c.type_bounds.send-D)) (shr_sync _ _ _ c.type_bounds.sync-G)))

pub returns : goal.returns
returns g c = record { live = search rules; as_many = search rules; same = search rules }
