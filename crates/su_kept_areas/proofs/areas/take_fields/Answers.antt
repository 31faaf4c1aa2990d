use Rattle.std.proofs.Common.{IfErr}
use Rattle.su_format.specs.Reading.{Refuses}
use Rattle.su_format.proofs.Public.{then_took, then_refused, first_refused, made, handed_on_to}
use Rattle.su_kept_areas.specs.declared.kinds.AreaKind.TheVariants.{Inode, Pointer}
use Rattle.su_kept_areas.specs.Format.{fields_format}
use Rattle.su_kept_areas.proofs.areas.take_fields.Goals as goal

pub returns-in_err-file-in-Pointer-clause-refused : goal.returns-in_err-file-in-Pointer-clause-refused
unfolding fields_format
returns-in_err-file-in-Pointer-clause-refused c =
    rw c.in-Pointer.is
    (handed_on_to (λ r. IfErr r (λ e. Refuses (fields_format Pointer) c.args.reader.now e)) _ _ c.from_residual.ensures.1 (first_refused _ _ c.in_err-file-in-Pointer.ensures.takes))

pub returns-in_ok-file-in-Pointer-clause-value : goal.returns-in_ok-file-in-Pointer-clause-value
unfolding fields_format
returns-in_ok-file-in-Pointer-clause-value c = rw c.in-Pointer.is (then_took _ _ c.in_ok-file-in-Pointer.ensures.takes (made _ _))

pub returns-in_err-place-in-Inode-clause-refused : goal.returns-in_err-place-in-Inode-clause-refused
unfolding fields_format
returns-in_err-place-in-Inode-clause-refused c =
    rw c.in-Inode.is
    (handed_on_to (λ r. IfErr r (λ e. Refuses (fields_format (Inode c.in-Inode.kind)) c.args.reader.now e)) _ _ c.from_residual-in_err-place-in-Inode.ensures.1 (first_refused _ _ c.in_err-place-in-Inode.ensures.takes))

pub returns-in-Ok-clause-value : goal.returns-in-Ok-clause-value
unfolding fields_format
returns-in-Ok-clause-value c = rw c.in-Inode.is (then_took _ _ c.in_ok-place-in-Inode.ensures.takes (then_took _ _ c.in-Ok.ensures.value (made _ _)))

pub returns-in-Err-clause-refused : goal.returns-in-Err-clause-refused
unfolding fields_format
returns-in-Err-clause-refused c = rw c.in-Inode.is (then_refused _ _ c.in_ok-place-in-Inode.ensures.takes (first_refused _ _ c.in-Err.ensures.refused))
