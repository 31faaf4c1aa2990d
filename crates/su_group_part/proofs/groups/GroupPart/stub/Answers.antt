use Rattle.std.proofs.Common.{sym, subst}
use Rattle.su_hash_tree.specs.Stands.{IsMap}
use Rattle.su_table.specs.Handle.{group_table}
use Rattle.su_group_part.specs.Part.{place_sort}
use Rattle.su_group_part.proofs.TableLemmas.{table_map}
use Rattle.su_group_part.proofs.groups.GroupPart.stub.Goals as goal

pub returns : goal.returns
returns c g T meant is = c.stub.ensures (group_table T g) (subst (λ d. IsMap place_sort d (group_table T g)) (sym is) (table_map g T meant))
