use Rattle.std.proofs.Common.{◌∙◌, ap, sym, not}
use Rattle.std.specs.Option.{option_map, option_copied}
use Rattle.su_node.specs.Field.{Field.KindOf}
use Rattle.su_table.specs.Query.{is_nothing}
use Rattle.su_table.proofs.Stores.{is_nothing-field_value}
use Rattle.su_part.specs.Seen.{seen_inode}
use Rattle.su_part_forest.proofs.Asked.{cell_seen, is_none-is, still_some}
use Rattle.su_part_forest.proofs.forests.PartForest.is_free.Goals as goal

pub returns : goal.returns
returns c =
    is_none-is c.is_none.result _ c.is_none.ensures ∙ ap not (sym (still_some c.inode.result)) ∙ sym (is_nothing-field_value (option_map seen_inode (option_copied c.inode.result)))
    ∙ sym (ap is_nothing (cell_seen c.args.self.now c.args.place KindOf (option_copied c.inode.result) c.inode.ensures.loaded))
