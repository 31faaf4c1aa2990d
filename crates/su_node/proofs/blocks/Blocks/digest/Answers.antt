use Rattle.std.proofs.Common.{◌∙◌, ap}
use Rattle.std.specs.List.{concat}
use Rattle.su_tree.specs.Digest.{digest}
use Rattle.su_tree.specs.Number.{numbers}
use Rattle.su_node.specs.Digest.{block_digests}
use Rattle.su_node.proofs.Hashed.{hashed-bytes}
use Rattle.su_node.proofs.blocks.Blocks.digest.Goals as goal

pub returns : goal.returns
returns c = c.digest.ensures ∙ ap (digest (numbers (λ d. d))) (hashed-bytes c.self.inside.blocks (concat c.self.inside.blocks) c.self.invariant.blocks_of ∙ ap block_digests c.self.view_is)
