use Rattle.su_hash_tree.proofs.Sorts.{sort_of}
use Rattle.su_part_tree.proofs.Loading.{encoding}
use Rattle.su_part_tree.proofs.Putting.{item_in, whole_has, root_has}
use Rattle.su_part_tree.proofs.parts.PartTree.shed.Goals as goal

pub returns-clause-hashed : goal.returns-clause-hashed
returns-clause-hashed g c m h s i = item_in (sort_of g.K.TreeKey g.V.TreeValue) (encoding g.K.TreeKey.bits g.K.TreeKey.bytes g.K.TreeKey.is_key g.V.TreeValue.bytes g.V.TreeValue.is_value g.met.K.TreeKey.short g.met.K.TreeKey.small g.met.K.TreeKey.told g.met.V.TreeValue.told) c.args.self.now.root m h s i

pub returns-clause-all : goal.returns-clause-all
returns-clause-all g c m h w s i = whole_has (sort_of g.K.TreeKey g.V.TreeValue) (encoding g.K.TreeKey.bits g.K.TreeKey.bytes g.K.TreeKey.is_key g.V.TreeValue.bytes g.V.TreeValue.is_value g.met.K.TreeKey.short g.met.K.TreeKey.small g.met.K.TreeKey.told g.met.V.TreeValue.told) c.args.self.now.root m h w s i

pub returns-clause-root : goal.returns-clause-root
returns-clause-root g c m h w = root_has (sort_of g.K.TreeKey g.V.TreeValue) (encoding g.K.TreeKey.bits g.K.TreeKey.bytes g.K.TreeKey.is_key g.V.TreeValue.bytes g.V.TreeValue.is_value g.met.K.TreeKey.short g.met.K.TreeKey.small g.met.K.TreeKey.told g.met.V.TreeValue.told) c.args.self.now.root m h w
