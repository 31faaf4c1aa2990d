use Rattle.std.proofs.Common.{◌∙◌, ap, sym, Some}
use Rattle.su_node.specs.View.{content_of}
use Rattle.su_node.specs.Inode.{Inode}
use Rattle.su_node.specs.Inode.{names_of}
use Rattle.su_node.proofs.Maps.{entries-from_entries}
use Rattle.su_node.proofs.NameOrder.{name_cmp_total}
use Rattle.su_node.proofs.inodes.Inode.names.Goals as goal

pub returns-in_ok-entries-in-Names-clause-value : goal.returns-in_ok-entries-in-Names-clause-value
returns-in_ok-entries-in-Names-clause-value c =
    let named = c.in_ok-entries-in-Names.ensures in
    ap Some (named.value ∙ sym (entries-from_entries name_cmp_total c.in-Names.names.entries named.ordered))
    ∙ ap (λ s. names_of (Some (record { home = c.self.inside.home; links = c.self.inside.links; content = content_of s }))) (sym c.in-Names.is)
    ∙ ap (λ (i : Inode). names_of (Some i)) c.self.view_is
