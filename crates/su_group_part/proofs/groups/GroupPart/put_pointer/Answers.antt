use Rattle.std.proofs.Common.{◌≡◌, true, Some, OnErr, subst}
use Rattle.std.specs.Prelude.{Result, Ok, Err}
use Rattle.su_part_tree.specs.Part.{StandsFor}
use Rattle.su_table.specs.Cell.{Cell.Pointer, val}
use Rattle.su_table.specs.Edit.{Edit.Pointers, edit}
use Rattle.su_table.specs.Handle.{group_table}
use Rattle.su_table.specs.Query.{is_nothing}
use Rattle.su_group_part.specs.Part.{place_sort}
use Rattle.su_group_part.proofs.GroupLemmas.{small_number, cell_nothing, table_put}
use Rattle.su_group_part.proofs.groups.GroupPart.put_pointer.Goals as goal

on_err : {X E A : Type 0} (r : Result X E) → A → OnErr r A
on_err (Ok x) a = tt
on_err (Err e) a = a

pub returns-in_err-put-clause-absent : goal.returns-in_err-put-clause-absent
returns-in_err-put-clause-absent c g T h =
    let small = small_number c.number.result c.number.ensures.range.1 in
    on_err c.from_residual.result (subst (λ n. is_nothing (val T (Pointer (g, n))) ≡ true) c.number.ensures.value
    (cell_nothing g c.number.result T c.args.self.now.table h small (c.in_err-put.ensures.absent (group_table T g) h)))

pub returns-clause-ok : goal.returns-clause-ok
returns-clause-ok c g T h =
    let small = small_number c.number.result c.number.ensures.range.1 in
    subst (λ n. StandsFor place_sort c.put.new.self (group_table (edit T (Pointers (g, n) (Some c.args.place))) g)) c.number.ensures.value
    (subst (StandsFor place_sort c.put.new.self) (table_put g c.number.result T c.args.self.now.table h small c.args.place) (c.in_ok-put.ensures.ok (group_table T g) h))
