use Rattle.std.proofs.Common.{◌∙◌}
use Rattle.su_hash_tree.proofs.Sorts.{sort_of}
use Rattle.su_part_tree.proofs.Seeing.{seen_agrees}
use Rattle.su_part_tree.proofs.parts.PartTree.find.Goals as goal

pub returns-clause-there : goal.returns-clause-there
returns-clause-there g c m h is = c.find_node.ensures m h ∙ seen_agrees (sort_of g.K.TreeKey g.V.TreeValue) c.args.key.now c.args.self.now.root m h is
