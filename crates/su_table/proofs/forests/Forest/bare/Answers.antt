use Rattle.std.proofs.Common.{arith}
use Rattle.su_bytes.specs.Place.{Place}
use Rattle.su_bytes.specs.Principal.{is_user, is_group}
use Rattle.su_node.specs.Digest.{inode_digest}
use Rattle.su_table.proofs.KeptTables.{few_groups, few_users, kept_none}
use Rattle.su_table.proofs.forests.Forest.bare.Goals as goal

pub invariant_of-result : goal.invariant_of-result
invariant_of-result c = (
  kept_none inode_digest is_user _ c.new.result.entries c.in_ok-empty.field-0 (λ u h. omega (arith, few_users u h, c.from.ensures, c.number.ensures.value)) c.new.ensures.empty c.in_ok-empty.ensures,
  kept_none (λ (p : Place). p) is_group _ c.new-2.result.entries c.in_ok-empty-2.field-0 (λ g h. omega (arith, few_groups g h, c.from-2.ensures, c.number-2.ensures.value)) c.new-2.ensures.empty c.in_ok-empty-2.ensures,
)
