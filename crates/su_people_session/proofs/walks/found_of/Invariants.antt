use Rattle.std.proofs.Common.{◌≡◌, map, take}
use Rattle.su_people_session.proofs.walks.found_of.Given as goal

abbrev pub invariant-loop-name : goal.invariant-loop-name
invariant-loop-name l = map (λ it. it.file) l.all.items ≡ map (λ name. name.1) (take l.name-index l.names)
