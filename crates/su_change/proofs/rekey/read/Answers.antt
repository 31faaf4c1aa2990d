use Rattle.std.proofs.Common.{sym}
use Rattle.su_format.specs.Format.{part}
use Rattle.su_format.specs.Part.{bytes_part}
use Rattle.su_format.proofs.Public.{then_took, first_refused, made, handed_on}
use Rattle.su_change.specs.Rekey.{rekey_fields}
use Rattle.su_change.proofs.rekey.read.Goals as goal

pub returns-in_err-bytes : goal.returns-in_err-bytes
unfolding rekey_fields
returns-in_err-bytes c = handed_on _ _ c.from_residual.ensures.1 (first_refused _ _ c.in_err-bytes.ensures.refused.0)

pub copy_from_slice-requires : goal.copy_from_slice-requires
unfolding bytes_part part
copy_from_slice-requires c = sym c.in_ok-bytes.ensures.found.spelled.0

pub returns : goal.returns
unfolding rekey_fields
returns c = rw c.copy_from_slice.ensures.after (then_took _ _ c.in_ok-bytes.ensures.found (made _ _))
