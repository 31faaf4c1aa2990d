use Rattle.std.proofs.Common.{◌∙◌, ap, sym, Some, None, Option}
use Rattle.su_node.specs.Inode.{Inode, Content, Content.Names}
use Rattle.std.specs.FinMap.{from_entries}
use Rattle.su_node.specs.View.{content_of}
use Rattle.su_node.specs.InodeChange.{with_name}
use Rattle.su_node.proofs.Names.{name_taken, with_name-file}
use Rattle.su_node.proofs.inodes.Inode.name_remove.Goals.{in-Names, in_default}
use Rattle.su_node.proofs.inodes.Inode.name_remove.Goals as goal

pub returns : goal.returns
returns c =
    let was = ap (λ (i : Inode). Some (record i { content = with_name c.args.name.now None i.content })) (sym c.self.view_is) in
    let with : Content → Option Inode = λ d. Some (record { home = c.self.inside.home; links = c.self.inside.links; content = d }) in
    elim c.match-self.branch [
      | in-Names w ↦ rw w.self-inside-is (was ∙ ap with (ap (λ s. with_name c.args.name.now None (content_of s)) w.in-Names.is ∙ name_taken w.in-Names.names.entries c.args.name.now ∙ ap (λ es. Names (from_entries es)) (sym w.remove.ensures.new)))
      | in_default w ↦ rw w.self-inside-is (was ∙ ap with (with_name-file c.args.name.now None c.self.inside.content w.in_default.not-Names))
    ]
