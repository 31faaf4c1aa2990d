-- The value is that of the node so many levels above the leaf.
use Rattle.std.proofs.Common.{◌≡◌}
use Rattle.su_lms.specs.MerkleTree.{climb}
use Rattle.su_lms.specs.Signature.{path_value_of}
use Rattle.su_lms.proofs.public_keys.root_from.Given as goal

abbrev pub invariant-loop-level : goal.invariant-loop-level
invariant-loop-level l = l.value ≡ climb l.id (path_value_of l.ots l.signature) l.leaf l.initial.value l.level
