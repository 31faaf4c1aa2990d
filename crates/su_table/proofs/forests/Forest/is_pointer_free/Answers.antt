use Rattle.std.proofs.Common.{◌∙◌, ap, sym, refl, not}
use Rattle.su_table.specs.Query.{is_nothing}
use Rattle.su_table.proofs.Stores.{val-Pointer, is_nothing-place_value}
use Rattle.su_table.specs.Query.{is_pointer_free}
use Rattle.su_table.proofs.forests.Forest.is_pointer_free.Goals as goal

pub returns-in-Group : goal.returns-in-Group
returns-in-Group c = ap not c.contains_key.ensures ∙ sym (is_nothing-place_value _)
    ∙ sym (ap is_nothing (val-Pointer _ c.self.inside.pointers.entries c.args.self.now c.self.view_is (c.in-Group.group, c.in-Group.number) _ refl))
    ∙ ap (is_pointer_free c.args.self.now) (sym c.in-Group.is)
