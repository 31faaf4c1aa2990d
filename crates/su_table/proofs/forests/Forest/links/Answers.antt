use Rattle.std.proofs.Common.{◌∙◌, ap, sym}
use Rattle.su_table.specs.Query.{value_number}
use Rattle.su_node.specs.Field.{Field.LinksOf}
use Rattle.su_table.proofs.Stores.{val-At}
use Rattle.su_table.proofs.forests.Forest.links.Goals as goal

pub returns-in-Some : goal.returns-in-Some
returns-in-Some c = c.links.ensures ∙ sym (ap value_number (val-At c.self.inside.inodes.entries _ c.args.self.now c.self.view_is c.args.place LinksOf _ c.in-Some.ensures.value))

pub returns-in-None : goal.returns-in-None
returns-in-None c = sym (ap value_number (val-At c.self.inside.inodes.entries _ c.args.self.now c.self.view_is c.args.place LinksOf _ c.in-None.ensures.value))
