use Rattle.std.proofs.Common.{◌≡◌, map, take}
use Rattle.su_table.specs.Tree.{Tree, genesis}
use Rattle.su_stored_forest.specs.Shows.{Holds}
use Rattle.su_stored_desk.proofs.TrialLemmas.{handles_among}
use Rattle.su_stored_desk.proofs.versions.carried_handles.Given as goal

abbrev pub invariant-loop-principal : goal.invariant-loop-principal
invariant-loop-principal g l = record {
  groups : map (λ x. x.0) l.groups.items ≡ map (λ x. x.0) (handles_among genesis l.written (take l.principal-index l.principal-items));
  value : (T : Tree) → Holds l.stored T → l.groups.items ≡ handles_among T l.written (take l.principal-index l.principal-items);
}
