use Rattle.su_part.specs.Bytes.{number_sort}
use Rattle.su_part.proofs.ShedLemmas.{on_ok, sheds_on}
use Rattle.su_part.proofs.ShedParts.{table_sheds, tree_sheds}
use Rattle.su_part.proofs.users.UserPart.shed.Goals as goal

pub returns-clause-sheds : goal.returns-clause-sheds
returns-clause-sheds g c =
    sheds_on g.met.S.BlockSource.follows_itself g.met.S.BlockSource.follows_on c.in_ok-shed_inodes.ensures.sheds
    (table_sheds c.shed_inodes.new.self c.shed.new.self
    (tree_sheds number_sort g.S.BlockSource.may_give g.S.BlockSource.failed g.S.BlockSource.follows g.S.BlockSource.puts c.shed_inodes.new.self.table c.shed.new.self c.shed_inodes.new.source c.shed.new.source c.shed.result
    c.shed.ensures.stands c.shed.ensures.none c.shed.ensures.not_lost c.shed.ensures.more c.shed.ensures.hashed c.shed.ensures.failed c.shed.ensures.refused c.shed.ensures.follows))

pub returns-clause-none : goal.returns-clause-none
returns-clause-none g c = on_ok c.shed.result _ _ (λ none. record { table = none; inodes = c.in_ok-shed_inodes.ensures.no_inode }) c.shed.ensures.none
