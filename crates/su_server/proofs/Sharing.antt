-- What the threads of a server share. (A `search` that goes down through all of it runs out of steps.)
use denote.Param.Send.{IsSync, sendable}
use Rattle.std.proofs.Crossing as std
use Rattle.std.proofs.MapsCrossing as maps
use Rattle.std.proofs.MapsCrossingOver as over
use Rattle.lru.proofs.list.List.TheSendSync as List
use Rattle.lru.proofs.entry.Deed.TheSendSync as Deed
use Rattle.lru.proofs.key_ref.KeyRef.TheSendSync as Key
use Rattle.su_shared_items.specs.contracts.shared.SharedBlocks as SharedBlocks

pub blocks_sync : IsSync SharedBlocks.the_row
blocks_sync = search (List.the_send, Deed.the_send, Key.the_send, List.the_sync, Deed.the_sync, Key.the_sync, over.crosses, maps.crosses, std.crosses, sendable) depth 60 fits 30000
