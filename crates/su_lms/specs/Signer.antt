-- What a contract sees of a signer.
use Rattle.std.specs.Prelude.{ℕ}
use Rattle.su_lms.specs.PrivateKey.{PrivateKey}

-- its key, the leaf that signs next, and the store that keeps that number
pub record SignerState (S : Type 0) : Type 0 where
  pub key : PrivateKey
  pub next : ℕ
  pub store : S
