use Rattle.std.proofs.Common.{◌≡◌, List}
use Rattle.su_version.specs.Commit.{Commit}
use Rattle.su_book.specs.Machine.{last_numbers_below}
use Rattle.su_book.specs.Kept.{AreLast}
use Rattle.su_book.proofs.keeping.last_numbers.Given as goal

abbrev pub invariant-loop-number : goal.invariant-loop-number
invariant-loop-number l =
    (cs : List Commit) → AreLast cs l.last.items → l.numbers.items ≡ last_numbers_below l.number cs
