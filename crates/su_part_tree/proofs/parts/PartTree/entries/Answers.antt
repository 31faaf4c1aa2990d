use Rattle.std.proofs.Common.{◌++◌, ◌∙◌, ap, sym}
use Rattle.su_hash_tree.specs.Stands.{pairs}
use Rattle.su_hash_tree.proofs.Sorts.{sort_of}
use Rattle.su_hash_tree.proofs.Wholes.{whole_is}
use Rattle.su_part_tree.proofs.parts.PartTree.entries.Goals as goal

pub returns : goal.returns
returns g c m h =
    c.in_ok-list.ensures
    ∙ ap (λ xs. xs ++ pairs c.args.self.now.root) c.new-list.ensures.items
    ∙ sym (whole_is (sort_of g.K.TreeKey g.V.TreeValue) c.args.self.now.root m c.requires.all h)
