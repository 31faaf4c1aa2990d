use Rattle.std.proofs.Common.{◌∙◌, ap, sym, None, Some}
use Rattle.su_table.specs.Query.{is_nothing}
use Rattle.su_node.specs.Field.{Field.NameOf}
use Rattle.su_table.proofs.Stores.{is_nothing-file_value}
use Rattle.su_part_forest.proofs.Asked.{loaded_stands, cell_seen, is_none-is}
use Rattle.su_part_forest.proofs.forests.PartForest.is_name_free.Goals as goal

pub returns-in-Some : goal.returns-in-Some
returns-in-Some c sound =
    let found = c.in-Some.ensures.loaded in
    let x = loaded_stands c.args.self.now sound c.args.place c.in-Some.inode.now found in
    is_none-is c.is_none.result _ c.is_none.ensures ∙ sym (is_nothing-file_value c.name_find.result)
    ∙ ap is_nothing (c.name_find.ensures x.0 x.1) ∙ sym (ap is_nothing (cell_seen c.args.self.now c.args.place (NameOf c.args.name.now) (Some c.in-Some.inode.now) found))

pub returns-in-None : goal.returns-in-None
returns-in-None c sound = sym (ap is_nothing (cell_seen c.args.self.now c.args.place (NameOf c.args.name.now) None c.in-None.ensures.loaded))
