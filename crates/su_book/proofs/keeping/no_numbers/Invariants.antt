use Rattle.std.proofs.Common.{◌≡◌, ℕ, length, get_or, None}
use Rattle.su_book.proofs.keeping.no_numbers.Given as goal

abbrev pub invariant-loop : goal.invariant-loop
invariant-loop l =
    (length l.last.items ≡ l.counter) × ((u : ℕ) → get_or l.last.items u None ≡ None)
