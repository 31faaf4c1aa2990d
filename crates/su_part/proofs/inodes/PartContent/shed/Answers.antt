use Rattle.su_part.specs.Part.{name_sort}
use Rattle.su_part.proofs.ShedParts.{bytes_sheds, names_sheds, tree_sheds}
use Rattle.su_part.proofs.inodes.PartContent.shed.Goals as goal

pub returns-in-Bytes-clause-sheds : goal.returns-in-Bytes-clause-sheds
returns-in-Bytes-clause-sheds g c = bytes_sheds c.args.self.now c.in-Bytes.bytes c.shed.new.self c.in-Bytes.is c.shed.ensures.sheds

pub returns-in-Names-clause-sheds : goal.returns-in-Names-clause-sheds
returns-in-Names-clause-sheds g c =
    names_sheds c.args.self.now c.in-Names.names c.shed-in-Names.new.self c.in-Names.is
    (tree_sheds name_sort g.S.BlockSource.may_give g.S.BlockSource.failed g.S.BlockSource.follows g.S.BlockSource.puts c.in-Names.names c.shed-in-Names.new.self c.args.source.now c.shed-in-Names.new.source c.shed-in-Names.result
    c.shed-in-Names.ensures.stands c.shed-in-Names.ensures.none c.shed-in-Names.ensures.not_lost c.shed-in-Names.ensures.more c.shed-in-Names.ensures.hashed c.shed-in-Names.ensures.failed c.shed-in-Names.ensures.refused c.shed-in-Names.ensures.follows)
