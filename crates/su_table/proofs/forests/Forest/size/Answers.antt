use Rattle.std.proofs.Common.{◌∙◌, ap, sym}
use Rattle.su_table.specs.Query.{value_number}
use Rattle.su_node.specs.Field.{Field.SizeOf}
use Rattle.su_table.proofs.Stores.{val-At}
use Rattle.su_table.proofs.forests.Forest.size.Goals as goal

pub returns-in-Some : goal.returns-in-Some
returns-in-Some c = c.size.ensures ∙ sym (ap value_number (val-At c.self.inside.inodes.entries _ c.args.self.now c.self.view_is c.args.place SizeOf _ c.in-Some.ensures.value))

pub returns-in-None : goal.returns-in-None
returns-in-None c = sym (ap value_number (val-At c.self.inside.inodes.entries _ c.args.self.now c.self.view_is c.args.place SizeOf _ c.in-None.ensures.value))
