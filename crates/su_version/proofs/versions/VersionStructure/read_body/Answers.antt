use Rattle.su_format.proofs.Public.{then_took, then_refused, first_refused, made, handed_on, format_of}
use Rattle.su_format.specs.Reading.{Took}
use Rattle.su_version.specs.Version.{body_format}
use Rattle.su_version.proofs.Spelling.{body_of}
use Rattle.su_version.proofs.versions.VersionStructure.read_body.Goals as goal

pub returns-in_err-author : goal.returns-in_err-author
unfolding body_format
returns-in_err-author c = handed_on _ _ c.from_residual.ensures.1 (first_refused _ _ c.in_err-author.ensures.takes)

pub returns-in_err-prev : goal.returns-in_err-prev
unfolding body_format
returns-in_err-prev c =
    handed_on _ _ c.from_residual-in_err-prev.ensures.1
    (then_refused _ _ c.in_ok-author.ensures.takes
    (first_refused _ _ c.in_err-prev.ensures.takes))

pub returns-in_err-change : goal.returns-in_err-change
unfolding body_format
returns-in_err-change c =
    handed_on _ _ c.from_residual-in_err-change.ensures.1
    (then_refused _ _ c.in_ok-author.ensures.takes
    (then_refused _ _ c.in_ok-prev.ensures.takes
    (first_refused _ _ c.in_err-change.ensures.takes)))

pub returns-in_err-handle : goal.returns-in_err-handle
unfolding body_format
returns-in_err-handle c =
    handed_on _ _ c.from_residual-in_err-handle.ensures.1
    (then_refused _ _ c.in_ok-author.ensures.takes
    (then_refused _ _ c.in_ok-prev.ensures.takes
    (then_refused _ _ c.in_ok-change.ensures.takes
    (first_refused _ _ c.in_err-handle.ensures.takes))))

pub returns-in_err-groups : goal.returns-in_err-groups
unfolding body_format
returns-in_err-groups c =
    handed_on _ _ c.from_residual-in_err-groups.ensures.1
    (then_refused _ _ c.in_ok-author.ensures.takes
    (then_refused _ _ c.in_ok-prev.ensures.takes
    (then_refused _ _ c.in_ok-change.ensures.takes
    (then_refused _ _ c.in_ok-handle.ensures.takes
    (first_refused _ _ c.in_err-groups.ensures.refused)))))

pub returns-in_err-vector : goal.returns-in_err-vector
unfolding body_format
returns-in_err-vector c =
    handed_on _ _ c.from_residual-in_err-vector.ensures.1
    (then_refused _ _ c.in_ok-author.ensures.takes
    (then_refused _ _ c.in_ok-prev.ensures.takes
    (then_refused _ _ c.in_ok-change.ensures.takes
    (then_refused _ _ c.in_ok-handle.ensures.takes
    (then_refused _ _ c.in_ok-groups.ensures.found
    (first_refused _ _ c.in_err-vector.ensures))))))

pub returns-in_err-next_key : goal.returns-in_err-next_key
unfolding body_format
returns-in_err-next_key c =
    handed_on _ _ c.from_residual-in_err-next_key.ensures.1
    (then_refused _ _ c.in_ok-author.ensures.takes
    (then_refused _ _ c.in_ok-prev.ensures.takes
    (then_refused _ _ c.in_ok-change.ensures.takes
    (then_refused _ _ c.in_ok-handle.ensures.takes
    (then_refused _ _ c.in_ok-groups.ensures.found
    (then_refused _ _ c.in_ok-vector.ensures
    (first_refused _ _ c.in_err-next_key.ensures)))))))

pub invariant_of-result : goal.invariant_of-result
unfolding body_format
invariant_of-result c =
    let took : Took (body_format c.args.format) c.args.reader.now _ c.read_key.new.reader =
    then_took _ _ c.in_ok-author.ensures.takes
    (then_took _ _ c.in_ok-prev.ensures.takes
    (then_took _ _ c.in_ok-change.ensures.takes
    (then_took _ _ c.in_ok-handle.ensures.takes
    (then_took _ _ c.in_ok-groups.ensures.found
    (then_took _ _ c.in_ok-vector.ensures
    (then_took _ _ c.in_ok-next_key.ensures (made _ _))))))) in
    ((format_of (body_of c.args.format)).spelled _ _ _ took.spelled).0.1

pub returns : goal.returns
unfolding body_format
returns c =
    then_took _ _ c.in_ok-author.ensures.takes
    (then_took _ _ c.in_ok-prev.ensures.takes
    (then_took _ _ c.in_ok-change.ensures.takes
    (then_took _ _ c.in_ok-handle.ensures.takes
    (then_took _ _ c.in_ok-groups.ensures.found
    (then_took _ _ c.in_ok-vector.ensures
    (then_took _ _ c.in_ok-next_key.ensures (made _ _)))))))
