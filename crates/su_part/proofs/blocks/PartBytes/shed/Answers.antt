use Rattle.su_part.proofs.ShedLemmas.{digests_shed, sheds_on}
use Rattle.su_part.proofs.blocks.PartBytes.shed.Goals as goal

pub returns-clause-sheds : goal.returns-clause-sheds
returns-clause-sheds g c =
    sheds_on g.met.S.BlockSource.follows_itself g.met.S.BlockSource.follows_on c.in_ok-shed_blocks.ensures.sheds
    (digests_shed g.S.BlockSource.may_give g.S.BlockSource.failed g.S.BlockSource.follows g.S.BlockSource.puts c.shed_blocks.new.self c.shed.new.self c.shed_blocks.new.source c.shed.new.source c.shed.result
    c.shed.ensures.stands c.shed.ensures.none c.shed.ensures.not_lost c.shed.ensures.more c.shed.ensures.failed c.shed.ensures.refused c.shed.ensures.follows)
