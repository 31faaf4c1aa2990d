use Rattle.std.proofs.Common.{◌∙◌, ap, sym, Some}
use Rattle.su_node.specs.Field.{Field.NameOf, file_value, content_value, field_value}
use Rattle.su_node.specs.Inode.{Inode}
use Rattle.su_node.specs.View.{content_of}
use Rattle.std.specs.FinMap.{get-from_entries}
use Rattle.su_node.proofs.NameOrder.{name_cmp_total}
use Rattle.su_node.proofs.inodes.Inode.name_get.Goals as goal

pub returns-in-Names : goal.returns-in-Names
returns-in-Names c =
    ap file_value (c.copied.ensures ∙ c.get.ensures ∙ sym (get-from_entries name_cmp_total c.in-Names.names.entries c.args.name.now))
    ∙ ap (λ s. content_value (content_of s) c.self.inside.links c.self.inside.home (NameOf c.args.name.now)) (sym c.in-Names.is)
    ∙ ap (λ (i : Inode). field_value (Some i) (NameOf c.args.name.now)) c.self.view_is
