use Rattle.std.proofs.Common.{◌≡◌, ◌∙◌, subst}
use Rattle.std.specs.FinMap.{find}
use Rattle.std.specs.Ordering.{nat_cmp}
use Rattle.su_part_tree.specs.Part.{loaded}
use Rattle.su_table.specs.Handle.{group_table}
use Rattle.su_group_part.proofs.GroupLemmas.{small_number}
use Rattle.su_group_part.proofs.LoadedLemmas.{loaded_value}
use Rattle.su_group_part.proofs.groups.GroupPart.find.Goals as goal

pub returns : goal.returns
returns c g T h =
    let small = small_number c.number.result c.number.ensures.range.1 in
    subst (λ n. c.copied.result ≡ find nat_cmp n (loaded c.args.self.now.table)) c.number.ensures.value
    (c.copied.ensures ∙ c.find.ensures.value (group_table T g) h ∙ loaded_value c.number.result c.args.self.now.table (group_table T g) h small)
