use Rattle.std.proofs.Common.{◌∙◌, arith}
use Rattle.su_lms.specs.KeyFile.{private_key_of}
use Rattle.su_lms.proofs.NodeTables.{node_table}
use Rattle.su_lms.proofs.trees.set_inner_nodes.Goals as goal

pub returns : goal.returns
returns c =
    node_table (private_key_of c.args.file.now) c.set_parents.new.nodes (omega arith)
    (λ r low high. c.set_parents.ensures.leaves r (omega arith) ∙ c.requires.set r low high)
    (λ r low high. c.set_parents.ensures.inner r low (omega arith))
