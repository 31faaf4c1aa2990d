use Rattle.std.proofs.Common.{◌≡◌, [], map, take}
use Rattle.su_desk.specs.Version.{numbered}
use Rattle.su_stored_desk.proofs.versions.first_versions.Given as goal

abbrev pub invariant-loop-principal : goal.invariant-loop-principal
invariant-loop-principal l = l.versions.items ≡ map (numbered l.fn.roster []) (take l.principal-index l.principal-items)
