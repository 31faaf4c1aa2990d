use Rattle.std.proofs.Common.{◌≡◌, map, take}
use Rattle.su_table.specs.Handle.{handle}
use Rattle.su_desk_script.specs.Session.{desk_tree}
use Rattle.su_desk_script.proofs.session.all_handles.Given as goal

abbrev pub invariant-loop-principal : goal.invariant-loop-principal
invariant-loop-principal l = l.digests.items ≡ map (handle (desk_tree l.desk.settled)) (take l.principal-index l.principal-items)
