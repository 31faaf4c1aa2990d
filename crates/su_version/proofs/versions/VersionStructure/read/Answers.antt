use Rattle.su_format.proofs.Public.{goes_on, first_refused, handed_on}
use Rattle.su_version.specs.Version.{version_format}
use Rattle.su_version.proofs.versions.VersionStructure.read.Goals as goal

pub returns-in_err-format : goal.returns-in_err-format
unfolding version_format
returns-in_err-format c = handed_on _ _ c.from_residual.ensures.1 (first_refused _ _ c.in_err-format.ensures)

pub returns : goal.returns
unfolding version_format
returns c = goes_on _ _ _ _ _ _ _ c.in_ok-format.ensures c.read_body.ensures
