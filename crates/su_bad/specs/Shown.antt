-- What a server that misbehaves shows. (This project's own.)
use Rattle.std.specs.Prelude.{ℕ, Bool, List, Option}

-- The bytes of a commit, or none, under each number from 1 on; what is told of the users' last
-- commits with the turn; the items that are held; the digests for which other bytes are given; and
-- whether all replies are beside what was asked.
pub record Shown : Type 0 where
  pub records : List (Option (List ℕ))
  pub last : List (ℕ × ℕ)
  pub items : List (List ℕ)
  pub wrong : List (List ℕ)
  pub is_mute : Bool
