use Rattle.std.proofs.Common.{◌≡◌, ◌∙◌, ap, sym, not, Bool, true, false}
use Rattle.su_table.specs.Query.{is_nothing}
use Rattle.su_node.specs.Field.{Field.NameOf}
use Rattle.su_table.proofs.Stores.{val-At, is_nothing-file_value}
use Rattle.su_table.proofs.forests.Forest.is_name_free.Goals as goal

pub returns-in-Some : goal.returns-in-Some
returns-in-Some c = is_none-is c.is_none.result _ c.is_none.ensures ∙ sym (is_nothing-file_value c.name_get.result) ∙ ap is_nothing c.name_get.ensures ∙ sym (ap is_nothing (val-At c.self.inside.inodes.entries _ c.args.self.now c.self.view_is c.args.place (NameOf c.args.name.now) _ c.in-Some.ensures.value))
  where
    is_none-is : (b : Bool) (d : Bool) → d ≡ not b → b ≡ not d
    is_none-is true d e = ap not (sym e)
    is_none-is false d e = ap not (sym e)

pub returns-in-None : goal.returns-in-None
returns-in-None c = sym (ap is_nothing (val-At c.self.inside.inodes.entries _ c.args.self.now c.self.view_is c.args.place (NameOf c.args.name.now) _ c.in-None.ensures.value))
