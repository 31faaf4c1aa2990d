use Rattle.std.proofs.Common.{◌∙◌}
use Rattle.su_part.proofs.SeenLemmas.{name_found}
use Rattle.su_part.proofs.inodes.PartInode.name_find.Goals as goal

pub returns-in-Names : goal.returns-in-Names
returns-in-Names c i h = name_found c.args.self.now i h c.in-Names.names c.in-Names.is c.args.name.now c.copied.result c.byte_count-bytes.ensures.key (λ m s. c.copied.ensures ∙ c.find.ensures.value m s)
