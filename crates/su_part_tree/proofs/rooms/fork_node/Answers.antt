use Rattle.std.proofs.Common.{◌∙◌, sym}
use Rattle.su_hash_tree.proofs.Sorts.{sort_of}
use Rattle.su_hash_tree.proofs.Changing.{forked_on_left, forked_on_right}
use Rattle.su_part_tree.proofs.rooms.fork_node.Goals as goal

pub returns-then-right-clause-stands : goal.returns-then-right-clause-stands
returns-then-right-clause-stands g c m h above =
    rw (c.replace.ensures.value)
    (forked_on_right (sort_of g.K.TreeKey g.V.TreeValue) _ m _ _ _ _ _ h c.pair-digest.ensures.meant above (sym c.bit-right.ensures ∙ c.if-right.true) c.pair-digest.ensures.hash (rw c.kept-kept.ensures at c.split-whole.ensures.hash))

pub returns-else-right-clause-stands : goal.returns-else-right-clause-stands
returns-else-right-clause-stands g c m h above =
    rw (c.replace.ensures.value)
    (forked_on_left (sort_of g.K.TreeKey g.V.TreeValue) _ m _ _ _ _ _ h c.pair-digest.ensures.meant above (sym c.bit-right.ensures ∙ c.if-right.false) c.pair-digest.ensures.hash (rw c.kept-kept.ensures at c.split-whole-else-right.ensures.hash))
