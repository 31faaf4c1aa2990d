use Rattle.std.proofs.Common.{◌∙◌, ap, sym, None}
use Rattle.su_table.specs.Query.{value_number}
use Rattle.su_node.specs.Field.{Field.LinksOf}
use Rattle.su_part_forest.proofs.Asked.{loaded_stands, cell_seen, links_is}
use Rattle.su_part_forest.proofs.forests.PartForest.links.Goals as goal

pub returns-in-Some : goal.returns-in-Some
returns-in-Some c sound =
    let found = c.in-Some.ensures.loaded in
    let x = loaded_stands c.args.self.now sound c.args.place c.in-Some.inode.now found in
    c.links.ensures x.0 x.1 ∙ sym (ap value_number (links_is c.args.self.now c.args.place c.in-Some.inode.now found x.0 x.1))

pub returns-in-None : goal.returns-in-None
returns-in-None c sound = sym (ap value_number (cell_seen c.args.self.now c.args.place LinksOf None c.in-None.ensures.loaded))
