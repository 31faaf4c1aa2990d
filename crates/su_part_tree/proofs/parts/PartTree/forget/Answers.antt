use Rattle.su_hash_tree.proofs.Sorts.{sort_of}
use Rattle.su_hash_tree.proofs.Standing.{stands_map}
use Rattle.su_part_tree.proofs.parts.PartTree.forget.Goals as goal

pub returns : goal.returns
returns g c m h = rw c.kept.ensures (stands_map (sort_of g.K.TreeKey g.V.TreeValue) _ m h)
