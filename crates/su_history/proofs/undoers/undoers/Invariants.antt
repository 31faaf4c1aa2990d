use Rattle.std.proofs.Common.{◌≤◌, length}
use Rattle.su_history.proofs.UndoerLemmas.{AreUndoersFrom}
use Rattle.su_history.proofs.undoers.undoers.Given as goal

abbrev pub invariant-loop-index : goal.invariant-loop-index
invariant-loop-index l = record {
  within : l.index ≤ length l.entries;
  undoers : AreUndoersFrom l.entries l.index l.undoers.items;
}
