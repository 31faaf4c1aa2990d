use Rattle.std.proofs.Common.{◌∙◌, ap, sym, Some}
use Rattle.su_node.specs.View.{content_of}
use Rattle.su_node.specs.Inode.{Inode}
use Rattle.su_node.specs.Inode.{has_no_names}
use Rattle.su_node.proofs.Names.{has_none}
use Rattle.su_node.proofs.inodes.Inode.is_bare.Goals as goal

pub returns-in-Names : goal.returns-in-Names
returns-in-Names c =
    has_none c.is_empty.result c.in-Names.names.entries c.is_empty.ensures.value c.is_empty.ensures.ordered
    ∙ ap (λ s. has_no_names (Some (record { home = c.self.inside.home; links = c.self.inside.links; content = content_of s }))) (sym c.in-Names.is)
    ∙ ap (λ (i : Inode). has_no_names (Some i)) c.self.view_is
