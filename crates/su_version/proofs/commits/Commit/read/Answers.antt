use Rattle.su_format.proofs.Public.{then_took, then_refused, first_refused, made, handed_on}
use Rattle.su_format.specs.Reading.{Took}
use Rattle.su_version.specs.Commit.{commit_format}
use Rattle.su_version.proofs.CommitSpelling.{commit_of}
use Rattle.su_version.proofs.commits.Commit.read.Goals as goal

pub returns-in_err-version : goal.returns-in_err-version
unfolding commit_format
returns-in_err-version c = handed_on _ _ c.from_residual.ensures.1 (first_refused _ _ c.in_err-version.ensures)

pub returns-in_err-size : goal.returns-in_err-size
unfolding commit_format
returns-in_err-size c =
    handed_on _ _ c.from_residual-in_err-size.ensures.1
    (then_refused _ _ c.in_ok-version.ensures
    (first_refused _ _ c.in_err-size.ensures))

pub returns-in_err-bytes : goal.returns-in_err-bytes
unfolding commit_format
returns-in_err-bytes c =
    handed_on _ _ c.from_residual-in_err-bytes.ensures.1
    (then_refused _ _ c.in_ok-version.ensures
    (then_refused _ _ c.in_ok-size.ensures
    (first_refused _ _ c.in_err-bytes.ensures.refused.0)))

pub invariant_of-result : goal.invariant_of-result
unfolding commit_format
invariant_of-result c =
    let took : Took commit_format c.args.reader.now _ c.take_bytes.new.self =
    then_took _ _ c.in_ok-version.ensures (then_took _ _ c.in_ok-size.ensures (then_took _ _ c.in_ok-bytes.ensures.found (made _ _))) in
    rw c.in_ok-signature.ensures.items (commit_of.spelled _ _ _ took.spelled).0

pub returns : goal.returns
unfolding commit_format
returns c = rw c.in_ok-signature.ensures.items (then_took _ _ c.in_ok-version.ensures (then_took _ _ c.in_ok-size.ensures (then_took _ _ c.in_ok-bytes.ensures.found (made _ _))))
