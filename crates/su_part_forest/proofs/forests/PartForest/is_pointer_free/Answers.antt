use Rattle.std.proofs.Common.{◌∙◌, ap, sym}
use Rattle.su_table.specs.Cell.{place_value, val}
use Rattle.su_table.specs.Query.{is_nothing, is_pointer_free}
use Rattle.su_table.proofs.Stores.{is_nothing-place_value}
use Rattle.su_part_forest.specs.Seen.{seen}
use Rattle.su_part_forest.proofs.Asked.{is_none-is}
use Rattle.su_part_forest.proofs.forests.PartForest.is_pointer_free.Goals as goal

pub returns-in-Group : goal.returns-in-Group
unfolding val
returns-in-Group c sound =
    is_none-is c.is_none.result _ c.is_none.ensures ∙ sym (is_nothing-place_value c.pointer.result) ∙ ap (λ o. is_nothing (place_value o)) (c.pointer.ensures sound)
    ∙ ap (is_pointer_free (seen c.args.self.now)) (sym c.in-Group.is)
