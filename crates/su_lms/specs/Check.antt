-- Checks of signatures.
use Rattle.std.specs.Prelude.{ℕ, ◌≡◌, ◌≤◌, ◌<◌, ◌↔◌, List, IsTrue, length, slice_index_or}
use Rattle.su_lms.specs.ParameterSets.{chain_count}
use Rattle.su_lms.specs.Signature.{AreEnds, HasShape, IsSigned, ots_of}
use Rattle.su_lms.specs.declared.checks.Check.{Check}

-- what is checked stays, and the verdict is whether the message is signed so
pub record IsChecked (before after : Check) : Type 0 where
  pub same : after ≡ record before { is_signed = after.is_signed }
  pub verdict : IsTrue after.is_signed
      ↔ IsSigned after.key.now after.message.now after.signature.now

-- the chains end where the signature leads to, if its shape is the key's
abbrev pub EndsSo : Check → (ℕ → List ℕ) → Type 0
EndsSo check end =
    HasShape check.key.now check.signature.now
    → AreEnds check.key.now check.message.now check.signature.now end

-- none of the signatures has more chains
abbrev pub HaveAtMost : List Check → ℕ → Type 0
HaveAtMost checks most =
    (k : ℕ) (d : Check) → k < length checks
    → chain_count (ots_of (slice_index_or checks k d).key.now) ≤ most
