-- The steps of a log that no memory holds. (This project's own.)
use Rattle.std.specs.Prelude.{List, map}
use Rattle.su_book.specs.declared.steps.Step.{Step}

-- the steps among its pairs
abbrev pub steps_in : List (Step × Unit {0}) → List Step
steps_in pairs = map (λ pair. pair.0) pairs
