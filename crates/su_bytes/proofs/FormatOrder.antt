-- The order of formats.
use Rattle.std.proofs.Common.{◌≡◌, true, refl}
use Rattle.su_bytes.specs.Format.{is_as_new}
use Rattle.su_bytes.specs.declared.formats.Format.{Format}
use Rattle.su_bytes.specs.declared.formats.Format.TheVariants.{V1, V2, V3, V4}
use Rattle.su_bytes.specs.declared.formats.TheConstants.{NEWEST_FORMAT}

-- no format is newer than the newest
pub newest : (format : Format) → is_as_new NEWEST_FORMAT format ≡ true
newest V1 = refl
newest V2 = refl
newest V3 = refl
newest V4 = refl
