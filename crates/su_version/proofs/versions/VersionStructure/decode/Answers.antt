use Rattle.std.specs.Prelude.{Ok}
use Rattle.su_format.specs.Reading.{Decodes}
use Rattle.su_format.proofs.Public.{decoded, left_over, undecoded, handed_on_to, found_by, only_by}
use Rattle.su_version.specs.Version.{version_format}
use Rattle.su_version.proofs.Spelling.{version_makes}
use Rattle.su_version.proofs.versions.VersionStructure.decode.Goals as goal

pub returns-in_err-version-clause-decodes : goal.returns-in_err-version-clause-decodes
returns-in_err-version-clause-decodes c =
    handed_on_to (Decodes version_format c.args.bytes.now) _ _ c.from_residual.ensures.1
    (undecoded version_format c.args.bytes.now c.read.new.reader _ (rw c.new-reader.ensures at c.in_err-version.ensures))

pub returns-in_err-version-clause-only : goal.returns-in_err-version-clause-only
returns-in_err-version-clause-only c = only_by version_makes c.args.bytes.now c.from_residual.result (returns-in_err-version-clause-decodes c)

pub returns-in_err-finish-clause-decodes : goal.returns-in_err-finish-clause-decodes
returns-in_err-finish-clause-decodes c =
    handed_on_to (Decodes version_format c.args.bytes.now) _ _ c.from_residual-in_err-finish.ensures.1
    (left_over version_format c.args.bytes.now c.in_ok-version.version c.read.new.reader _ (rw c.new-reader.ensures at c.in_ok-version.ensures) c.in_err-finish.ensures.refused.1 c.in_err-finish.ensures.refused.0)

pub returns-in_err-finish-clause-only : goal.returns-in_err-finish-clause-only
returns-in_err-finish-clause-only c = only_by version_makes c.args.bytes.now c.from_residual-in_err-finish.result (returns-in_err-finish-clause-decodes c)

pub returns-clause-decodes : goal.returns-clause-decodes
returns-clause-decodes c =
    decoded version_format c.args.bytes.now c.in_ok-version.version c.read.new.reader (rw c.new-reader.ensures at c.in_ok-version.ensures) c.in_ok-finish.ensures.found

pub returns-clause-found : goal.returns-clause-found
returns-clause-found c = found_by version_makes c.args.bytes.now c.in_ok-version.version (returns-clause-decodes c)

pub returns-clause-only : goal.returns-clause-only
returns-clause-only c = only_by version_makes c.args.bytes.now (Ok c.in_ok-version.version) (returns-clause-decodes c)
