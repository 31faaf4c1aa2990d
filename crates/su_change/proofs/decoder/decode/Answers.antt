use Rattle.std.specs.Prelude.{Ok}
use Rattle.su_format.specs.Reading.{Decodes}
use Rattle.su_format.proofs.Public.{decoded, left_over, undecoded, handed_on_to}
use Rattle.su_change.specs.Item.{item_format}
use Rattle.su_change.proofs.Items.{found, only}
use Rattle.su_change.proofs.decoder.decode.Goals as goal

pub returns-in_err-change-clause-decodes : goal.returns-in_err-change-clause-decodes
returns-in_err-change-clause-decodes c =
    handed_on_to (Decodes item_format c.args.bytes.now) _ _ c.from_residual.ensures.1
    (undecoded item_format c.args.bytes.now c.read_item.new.reader _ (rw c.new-reader.ensures at c.in_err-change.ensures))

pub returns-in_err-change-clause-only : goal.returns-in_err-change-clause-only
returns-in_err-change-clause-only c = only c.args.bytes.now c.from_residual.result (returns-in_err-change-clause-decodes c)

pub returns-in_err-finish-clause-decodes : goal.returns-in_err-finish-clause-decodes
returns-in_err-finish-clause-decodes c =
    handed_on_to (Decodes item_format c.args.bytes.now) _ _ c.from_residual-in_err-finish.ensures.1
    (left_over item_format c.args.bytes.now c.in_ok-change.change c.read_item.new.reader _ (rw c.new-reader.ensures at c.in_ok-change.ensures) c.in_err-finish.ensures.refused.1 c.in_err-finish.ensures.refused.0)

pub returns-in_err-finish-clause-only : goal.returns-in_err-finish-clause-only
returns-in_err-finish-clause-only c = only c.args.bytes.now c.from_residual-in_err-finish.result (returns-in_err-finish-clause-decodes c)

pub returns-clause-decodes : goal.returns-clause-decodes
returns-clause-decodes c =
    decoded item_format c.args.bytes.now c.in_ok-change.change c.read_item.new.reader (rw c.new-reader.ensures at c.in_ok-change.ensures) c.in_ok-finish.ensures.found

pub returns-clause-found : goal.returns-clause-found
returns-clause-found c = found c.args.bytes.now c.in_ok-change.change (returns-clause-decodes c)

pub returns-clause-only : goal.returns-clause-only
returns-clause-only c = only c.args.bytes.now (Ok c.in_ok-change.change) (returns-clause-decodes c)
