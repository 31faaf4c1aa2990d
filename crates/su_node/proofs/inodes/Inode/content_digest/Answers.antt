use Rattle.std.proofs.Common.{sym, ap, ◌∙◌}
use Rattle.su_bytes.specs.FileId.{file_id_bytes}
use Rattle.su_tree.specs.Digest.{digest}
use Rattle.su_tree.specs.Name.{names}
use Rattle.su_node.specs.Digest.{content_digest}
use Rattle.su_node.specs.Inode.{Inode}
use Rattle.su_node.specs.View.{content_of}
use Rattle.su_node.proofs.Maps.{entries-from_entries}
use Rattle.su_node.proofs.NameOrder.{name_cmp_total}
use Rattle.su_node.proofs.inodes.Inode.content_digest.Goals as goal

pub returns-in-Names : goal.returns-in-Names
returns-in-Names c =
    c.digest-in-Names.ensures.value ∙ ap (digest (names file_id_bytes)) (sym (entries-from_entries name_cmp_total c.in-Names.names.entries c.digest-in-Names.ensures.ordered))
    ∙ ap (λ s. content_digest (content_of s)) (sym c.in-Names.is) ∙ ap (λ (i : Inode). content_digest i.content) c.self.view_is
