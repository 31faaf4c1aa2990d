use Rattle.su_part.proofs.SeenLemmas.{bare_found}
use Rattle.su_part.proofs.inodes.PartInode.shows_no_names.Goals as goal

pub returns-in-Names : goal.returns-in-Names
returns-in-Names c i h = bare_found c.args.self.now c.in-Names.names c.in-Names.is c.lists_none.result c.lists_none.ensures
