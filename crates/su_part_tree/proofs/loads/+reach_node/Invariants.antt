use Rattle.std.proofs.Common.{◌-◌}
use Rattle.su_part_tree.proofs.loads.+reach_node.Given as goal

abbrev pub decreases-reach_node : goal.decreases-reach_node
decreases-reach_node g l = 65537 - l.least
