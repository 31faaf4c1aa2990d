use Rattle.std.proofs.Common.{◌∙◌, ap, sym, refl, not}
use Rattle.su_table.specs.Query.{is_nothing}
use Rattle.su_node.specs.Field.{Field.KindOf}
use Rattle.su_table.proofs.Stores.{val-At, is_nothing-field_value}
use Rattle.su_table.proofs.forests.Forest.is_free.Goals as goal

pub returns : goal.returns
returns c = ap not c.contains_key.ensures ∙ sym (is_nothing-field_value _) ∙ sym (ap is_nothing (val-At c.self.inside.inodes.entries _ c.args.self.now c.self.view_is c.args.place KindOf _ refl))
