use Rattle.std.proofs.Common.{◌≡◌, ◌<◌, ℕ, length, None}
use Rattle.su_bytes.specs.RosterBytes.{user_key}
use Rattle.su_chain.specs.ChainEnd.{user_at}
use Rattle.su_chain.proofs.KeyLemmas.{AreGood}
use Rattle.su_chain.proofs.ends.keys_of.Given as goal

abbrev pub invariant-loop-number : goal.invariant-loop-number
invariant-loop-number l =
    (length l.users.items ≡ l.number)
    × ((u : ℕ) → u < l.number → (user_at l.users.items u).key ≡ user_key l.fn.roster u)
    × ((u : ℕ) → (user_at l.users.items u).leaf ≡ None)
    × AreGood l.fn.roster l.number
