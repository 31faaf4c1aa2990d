-- A change as a history keeps it in memory.
use Rattle.su_op.specs.declared.operations.Change.{Change}
use Rattle.su_op.specs.declared.operations.Change.TheVariants.{Do, Undo, Rekey}
use Rattle.su_desk.specs.declared.kept_changes.KeptChange.{KeptChange}
use Rattle.su_desk.specs.declared.kept_changes.KeptChange.TheVariants.{Do as KeptDo, Undo as KeptUndo, Rekey as KeptRekey}

-- the whole change, of which that is kept
abbrev pub whole : KeptChange → Change
whole (KeptDo ops) = Do ops
whole (KeptUndo n) = Undo n
whole (KeptRekey key) = Rekey key.value
