use Rattle.std.proofs.Common.{None, sym, subst}
use Rattle.su_part_tree.specs.Part.{StandsFor}
use Rattle.su_table.specs.Edit.{Edit.Pointers, edit}
use Rattle.su_table.specs.Handle.{group_table}
use Rattle.su_group_part.specs.Part.{place_sort, KnowsPointer}
use Rattle.su_group_part.proofs.GroupLemmas.{small_number, known_there, pointer_stays, table_removed}
use Rattle.su_group_part.proofs.groups.GroupPart.remove_pointer.Goals as goal

pub returns-clause-stands : goal.returns-clause-stands
returns-clause-stands c g T h known =
    let key = c.number.result in
    let table = c.args.self.now.table in
    let small = small_number key c.number.ensures.range.1 in
    let there = known_there g key T table h small (subst (λ n. KnowsPointer g T n c.args.self.now) (sym c.number.ensures.value) known) in
    subst (λ n. StandsFor place_sort c.take.new.self (group_table (edit T (Pointers (g, n) None)) g)) c.number.ensures.value
    (subst (StandsFor place_sort c.take.new.self) (table_removed g key T table h small) (c.take.ensures.stands (group_table T g) h there))

pub returns-clause-known : goal.returns-clause-known
returns-clause-known c g T h known n before =
    let key = c.number.result in
    let table = c.args.self.now.table in
    let small = small_number key c.number.ensures.range.1 in
    let there = known_there g key T table h small (subst (λ m. KnowsPointer g T m c.args.self.now) (sym c.number.ensures.value) known) in
    subst (λ m. KnowsPointer g (edit T (Pointers (g, m) None)) n (record { table = c.take.new.self })) c.number.ensures.value
    (pointer_stays g key n T table c.take.new.self h small (c.take.ensures.stands (group_table T g) h there) (c.take.ensures.stays (group_table T g) h there n) before)
