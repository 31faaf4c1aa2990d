use Rattle.std.proofs.Common.{◌∙◌, ap, sym, None, Some}
use Rattle.su_table.specs.Query.{is_link_to}
use Rattle.su_node.specs.Field.{Field.NameOf}
use Rattle.su_table.proofs.Stores.{is_link_to-derived}
use Rattle.su_part_forest.proofs.Asked.{loaded_stands, cell_seen}
use Rattle.su_part_forest.proofs.forests.PartForest.leads_to.Goals as goal

pub returns-in-Some : goal.returns-in-Some
returns-in-Some c sound =
    let found = c.in-Some.ensures.loaded in
    let x = loaded_stands c.args.self.now sound c.args.place c.in-Some.inode.now found in
    c.eq.ensures ∙ is_link_to-derived c.name_find.result c.args.file ∙ ap (λ v. is_link_to v c.args.file) (c.name_find.ensures x.0 x.1)
    ∙ sym (ap (λ v. is_link_to v c.args.file) (cell_seen c.args.self.now c.args.place (NameOf c.args.name.now) (Some c.in-Some.inode.now) found))

pub returns-in-None : goal.returns-in-None
returns-in-None c sound = sym (ap (λ v. is_link_to v c.args.file) (cell_seen c.args.self.now c.args.place (NameOf c.args.name.now) None c.in-None.ensures.loaded))
