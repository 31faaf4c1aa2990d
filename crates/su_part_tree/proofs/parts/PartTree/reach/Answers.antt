use Rattle.su_hash_tree.proofs.Sorts.{sort_of}
use Rattle.su_part_tree.proofs.Loading.{begin_alike}
use Rattle.su_part_tree.proofs.parts.PartTree.reach.Goals as goal

pub returns-clause-malformed : goal.returns-clause-malformed
returns-clause-malformed g c is m h free = c.reach_node.ensures.malformed is m (begin_alike (sort_of g.K.TreeKey g.V.TreeValue) m) h free
