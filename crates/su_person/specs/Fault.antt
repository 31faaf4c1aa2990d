-- Which faults come of commits.
use Rattle.std.specs.Prelude.{⊤}
use Rattle.su_person.specs.declared.faults.Fault.{Fault}
use Rattle.su_person.specs.declared.faults.Fault.TheVariants.{Changed}

-- it tells no change that isn't seen
abbrev pub TellsNoChange : Fault → Type 0
TellsNoChange (Changed n author) = ⊥
TellsNoChange e = ⊤
