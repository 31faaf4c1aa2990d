use Rattle.std.proofs.Common.{◌∙◌, ap, option_map, sym}
use Rattle.su_desk_lines.specs.Desk.{row_said}
use Rattle.su_desk_lines.proofs.ReadingBatches.{read_more, read_none}
use Rattle.su_desk_lines.proofs.parse.read_batch.Goals as goal

pub returns-in_default : goal.returns-in_default
returns-in_default c =
    read_none c.deref-operation-items.result.now c.loop-operation.operation-index _ c.loop-operation.verbs.items _ _ c.loop-operation-test.true (ap (option_map row_said) (sym c.in_default.is) ∙ c.in_ok-verb.ensures) c.loop-operation.invariant

pub loop-operation-preserved : goal.loop-operation-preserved
loop-operation-preserved c =
    read_more c.deref-operation-items.result.now c.loop-operation.operation-index _ c.loop-operation.verbs.items _ c.in-Some.verb c.loop-operation.values.items _ c.in-Some.said.items _ c.loop-operation-test.true c.in_ok-push.ensures.items c.in_ok-append.ensures.items
    (ap (option_map row_said) (sym c.in-Some.is) ∙ c.in_ok-verb.ensures) c.loop-operation.invariant
