use Rattle.std.proofs.Common.{◌≡◌, length}
use Rattle.std.specs.List.{AllByRecursion}
use Rattle.su_lms.specs.Signature.{IsPublicKey}
use Rattle.su_audit.proofs.keys.read_keys.Given as goal

abbrev pub invariant-loop-path : goal.invariant-loop-path
invariant-loop-path l = record {
  number : length l.keys.items ≡ l.path-index;
  are_keys : AllByRecursion IsPublicKey l.keys.items;
}
