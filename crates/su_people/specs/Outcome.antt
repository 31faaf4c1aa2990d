-- How a command of people ends.
use Rattle.std.specs.Prelude.{ℕ}
use Rattle.su_people.specs.declared.outcomes.Outcome.{Outcome}
use Rattle.su_people.specs.declared.outcomes.Outcome.TheVariants.{Done, Refused, Lied}

-- the exit status of the program
abbrev pub code_of : Outcome → ℕ
code_of Done = 0
code_of Refused = 1
code_of Lied = 3
