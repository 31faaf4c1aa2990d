use Rattle.su_format.specs.Reading.{Decodes}
use Rattle.su_format.proofs.Public.{decoded, left_over, undecoded, handed_on_to}
use Rattle.su_change.specs.Outline.{outline_format}
use Rattle.su_change.proofs.outlines.decode.Goals as goal

pub returns-in_err-batch : goal.returns-in_err-batch
returns-in_err-batch c =
    handed_on_to (Decodes outline_format c.args.bytes.now) _ _ c.from_residual.ensures.1
    (undecoded outline_format c.args.bytes.now c.read.new.reader _ (rw c.new-reader.ensures at c.in_err-batch.ensures))

pub returns-in_err-finish : goal.returns-in_err-finish
returns-in_err-finish c =
    handed_on_to (Decodes outline_format c.args.bytes.now) _ _ c.from_residual-in_err-finish.ensures.1
    (left_over outline_format c.args.bytes.now c.in_ok-batch.batch c.read.new.reader _ (rw c.new-reader.ensures at c.in_ok-batch.ensures) c.in_err-finish.ensures.refused.1 c.in_err-finish.ensures.refused.0)

pub returns : goal.returns
returns c =
    decoded outline_format c.args.bytes.now c.in_ok-batch.batch c.read.new.reader (rw c.new-reader.ensures at c.in_ok-batch.ensures) c.in_ok-finish.ensures.found
