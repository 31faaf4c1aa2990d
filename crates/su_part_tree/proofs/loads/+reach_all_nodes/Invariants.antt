use Rattle.std.proofs.Common.{◌-◌}
use Rattle.su_part_tree.proofs.loads.+reach_all_nodes.Given as goal

abbrev pub decreases-reach_all_nodes : goal.decreases-reach_all_nodes
decreases-reach_all_nodes g l = 65537 - l.least
