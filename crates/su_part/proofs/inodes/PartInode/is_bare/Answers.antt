use Rattle.su_part.proofs.ContentLemmas.{bare_got}
use Rattle.su_part.proofs.inodes.PartInode.is_bare.Goals as goal

pub returns-in-Names : goal.returns-in-Names
returns-in-Names c i h = bare_got c.args.self.now i h c.in-Names.names c.in-Names.is c.is_empty.result c.is_empty.ensures
