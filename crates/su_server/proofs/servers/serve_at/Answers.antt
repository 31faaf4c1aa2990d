use denote.Param.Send.{sendable}
use Rattle.std.proofs.Crossing.{crosses}
use Rattle.std.proofs.MapsCrossing as maps
use Rattle.std.proofs.MapsCrossingOver as over
use Rattle.su_shared.proofs.Crosses.{seat_send, shared_sync}
use Rattle.su_server.proofs.Sharing.{blocks_sync}
use Rattle.su_server.proofs.servers.serve_at.Goals as goal

pub serve_all-requires-send-S : goal.serve_all-requires-send-S
serve_all-requires-send-S g c κs within =
    let n = c.type_bounds.send-N in
    let k = c.type_bounds.send-K in
    let r = c.type_bounds.sync-R in
    let gate = c.type_bounds.sync-G in
    search (seat_send, shared_sync, blocks_sync, over.crosses, maps.crosses, crosses, sendable) depth 40 fits 30000
