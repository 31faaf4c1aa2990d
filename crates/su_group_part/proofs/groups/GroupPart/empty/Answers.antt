use Rattle.std.proofs.Common.{sym, subst}
use Rattle.su_part_tree.specs.Part.{StandsFor}
use Rattle.su_group_part.specs.Part.{place_sort}
use Rattle.su_group_part.proofs.LoadedLemmas.{none_table}
use Rattle.su_group_part.proofs.groups.GroupPart.empty.Goals as goal

pub returns-clause-stands : goal.returns-clause-stands
returns-clause-stands c g T none = subst (StandsFor place_sort c.empty.result) (sym (none_table g T none)) c.empty.ensures.stands
