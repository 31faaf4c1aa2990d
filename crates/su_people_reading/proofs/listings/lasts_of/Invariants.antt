use Rattle.std.proofs.Common.{◌≡◌, map, take}
use Rattle.su_people_session.specs.declared.walks.Found.{Found}
use Rattle.su_people_reading.proofs.listings.lasts_of.Given as goal

abbrev pub invariant-loop-found : goal.invariant-loop-found
invariant-loop-found l = l.files.items ≡ map (λ (found : Found). found.file) (take l.found-index l.all)
