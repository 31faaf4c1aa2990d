use Rattle.su_hash_tree.proofs.Sorts.{sort_of}
use Rattle.su_part_tree.proofs.Seeing.{none_there, nothing_here}
use Rattle.su_part_tree.proofs.parts.PartTree.is_empty.Goals as goal

pub returns : goal.returns
returns g c m h =
    let t = sort_of g.K.TreeKey g.V.TreeValue in
    (λ e. none_there t c.args.self.now.root m h (c.is_empty.ensures.0 e), λ e. c.is_empty.ensures.1 (nothing_here t c.args.self.now.root m h c.requires e))
