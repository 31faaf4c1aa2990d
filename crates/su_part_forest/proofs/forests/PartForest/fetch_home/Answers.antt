use Rattle.std.proofs.Common.{sym, subst}
use Rattle.su_part_forest.specs.Reading.{HasHomeOf}
use Rattle.su_part_forest.proofs.Lifting.{on_ok}
use Rattle.su_part_forest.proofs.forests.PartForest.fetch_home.Goals as goal

pub returns-in-User-clause-has : goal.returns-in-User-clause-has
returns-in-User-clause-has g c = on_ok c.fetch.result (λ has. subst (λ file. HasHomeOf file c.fetch.new.self) (sym c.in-User.is) has) c.fetch.ensures.has

pub returns-in-Group-clause-has : goal.returns-in-Group-clause-has
returns-in-Group-clause-has g c = on_ok c.fetch_pointer.result (λ has. subst (λ file. HasHomeOf file c.fetch_pointer.new.self) (sym c.in-Group.is) has) c.fetch_pointer.ensures.has
