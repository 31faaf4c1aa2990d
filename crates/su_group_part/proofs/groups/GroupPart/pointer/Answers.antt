use Rattle.std.proofs.Common.{◌≡◌, ◌∙◌, subst}
use Rattle.su_table.specs.Cell.{Cell.Pointer, place_value, val}
use Rattle.su_table.specs.Handle.{group_table}
use Rattle.su_group_part.proofs.GroupLemmas.{small_number, cell_value}
use Rattle.su_group_part.proofs.groups.GroupPart.pointer.Goals as goal

pub returns : goal.returns
returns c g T h =
    let small = small_number c.number.result c.number.ensures.range.1 in
    subst (λ n. place_value c.copied.result ≡ val T (Pointer (g, n))) c.number.ensures.value
    (cell_value g c.number.result T c.args.self.now.table h small c.copied.result (c.copied.ensures ∙ c.get.ensures (group_table T g) h))
