use Rattle.std.proofs.lemmas.Result.{err_from_is_err_and, on_ok_weaker}
use Rattle.su_hash_tree.proofs.Sorts.{sort_of}
use Rattle.su_hash_tree.proofs.Standing.{at_Split}
use Rattle.su_part_tree.proofs.Loading.{encoding, failed_left, failed_right}
use Rattle.su_part_tree.proofs.Putting.{at_Empty, at_Leaf, taken_or_own, safe_left, safe_right, safe_split, took_split}
use Rattle.su_part_tree.proofs.sheds.+shed_node.Goals as goal

pub returns-in_err-shed_node-in-Split-clause-failed : goal.returns-in_err-shed_node-in-Split-clause-failed
returns-in_err-shed_node-in-Split-clause-failed g t c m h =
    let j = at_Split (sort_of g.K.TreeKey g.V.TreeValue) m c.in-Split.is h in
    let p = err_from_is_err_and c.from_residual.result c.from_residual.ensures.1 in
    rw (p.1, p.2) (failed_left (sort_of g.K.TreeKey g.V.TreeValue) (encoding g.K.TreeKey.bits g.K.TreeKey.bytes g.K.TreeKey.is_key g.V.TreeValue.bytes g.V.TreeValue.is_value g.met.K.TreeKey.short g.met.K.TreeKey.small g.met.K.TreeKey.told g.met.V.TreeValue.told) _ _ _ _ m j (g.S.BlockSource.failed c.shed_node.new.source) _ (c.in_err-shed_node-in-Split.ensures.failed j.left (rw c.deref_mut.ensures.value j.in_left)))

pub returns-in_err-shed_node-in-Split-2-clause-failed : goal.returns-in_err-shed_node-in-Split-2-clause-failed
returns-in_err-shed_node-in-Split-2-clause-failed g t c m h =
    let j = at_Split (sort_of g.K.TreeKey g.V.TreeValue) m c.in-Split.is h in
    let p = err_from_is_err_and c.from_residual-in_err-shed_node-in-Split-2.result c.from_residual-in_err-shed_node-in-Split-2.ensures.1 in
    rw (p.1, p.2) (failed_right (sort_of g.K.TreeKey g.V.TreeValue) (encoding g.K.TreeKey.bits g.K.TreeKey.bytes g.K.TreeKey.is_key g.V.TreeValue.bytes g.V.TreeValue.is_value g.met.K.TreeKey.short g.met.K.TreeKey.small g.met.K.TreeKey.told g.met.V.TreeValue.told) _ _ _ _ m j (g.S.BlockSource.failed c.shed_node-in-Split.new.source) _ (c.in_err-shed_node-in-Split-2.ensures.failed j.right (rw c.deref_mut-in-Split.ensures.value j.in_right)))

pub returns-in_ok-shed_node-in-Split-2-clause-put : goal.returns-in_ok-shed_node-in-Split-2-clause-put
returns-in_ok-shed_node-in-Split-2-clause-put g t c =
    let left_stub = rw c.deref_mut.ensures.value at c.in_ok-shed_node-in-Split.ensures.stub in
    let right_stub = rw c.deref_mut-in-Split.ensures.value at c.in_ok-shed_node-in-Split-2.ensures.stub in
    let left = rw c.deref_mut.ensures.value at c.in_ok-shed_node-in-Split.ensures.put in
    let right = rw c.deref_mut-in-Split.ensures.value at c.in_ok-shed_node-in-Split-2.ensures.put in
    on_ok_weaker c.put_node-in-Split.result
    (λ own s i.
    took_split g.S.BlockSource.follows g.S.BlockSource.puts g.met.S.BlockSource.follows_on (sort_of g.K.TreeKey g.V.TreeValue) c.in-Split.is c.shed_node.new.node c.shed_node-in-Split.new.node left_stub right_stub
    c.args.source.now c.shed_node.new.source c.shed_node-in-Split.new.source c.put_node-in-Split.new.source
    g.met.S.BlockSource.follows_itself c.in_ok-shed_node-in-Split.ensures.follows c.in_ok-shed_node-in-Split-2.ensures.follows c.put_node-in-Split.ensures.follows
    left right own s i)
    c.put_node-in-Split.ensures.put

pub returns-in-Empty-clause-not_lost : goal.returns-in-Empty-clause-not_lost
returns-in-Empty-clause-not_lost g t c s i = taken_or_own (sort_of g.K.TreeKey g.V.TreeValue) c.put_node.new.node s _ (c.put_node.ensures.not_lost s (at_Empty (sort_of g.K.TreeKey g.V.TreeValue) s c.in-Empty.is i))

pub returns-in-Leaf-clause-not_lost : goal.returns-in-Leaf-clause-not_lost
returns-in-Leaf-clause-not_lost g t c s i = taken_or_own (sort_of g.K.TreeKey g.V.TreeValue) c.put_node-in-Leaf.new.node s _ (c.put_node-in-Leaf.ensures.not_lost s (at_Leaf (sort_of g.K.TreeKey g.V.TreeValue) s c.in-Leaf.is i))

pub returns-in_err-shed_node-in-Split-clause-not_lost : goal.returns-in_err-shed_node-in-Split-clause-not_lost
returns-in_err-shed_node-in-Split-clause-not_lost g t c s i =
    let left_kept = rw c.deref_mut.ensures.value at c.shed_node.ensures.kept in
    let left = rw c.deref_mut.ensures.value at c.shed_node.ensures.not_lost in
    safe_left g.S.BlockSource.follows g.S.BlockSource.puts g.met.S.BlockSource.follows_on (sort_of g.K.TreeKey g.V.TreeValue) c.in-Split.is c.shed_node.new.node left_kept c.args.source.now c.shed_node.new.source left s i

pub returns-in_err-shed_node-in-Split-2-clause-not_lost : goal.returns-in_err-shed_node-in-Split-2-clause-not_lost
returns-in_err-shed_node-in-Split-2-clause-not_lost g t c s i =
    let left_kept = rw c.deref_mut.ensures.value at c.shed_node.ensures.kept in
    let right_kept = rw c.deref_mut-in-Split.ensures.value at c.shed_node-in-Split.ensures.kept in
    let left = rw c.deref_mut.ensures.value at c.in_ok-shed_node-in-Split.ensures.put in
    let right = rw c.deref_mut-in-Split.ensures.value at c.shed_node-in-Split.ensures.not_lost in
    safe_right g.S.BlockSource.follows g.S.BlockSource.puts g.met.S.BlockSource.follows_on (sort_of g.K.TreeKey g.V.TreeValue) c.in-Split.is c.shed_node.new.node c.shed_node-in-Split.new.node left_kept right_kept c.args.source.now c.shed_node.new.source c.shed_node-in-Split.new.source
    g.met.S.BlockSource.follows_itself c.in_ok-shed_node-in-Split.ensures.follows c.shed_node-in-Split.ensures.follows left right s i

pub returns-in_ok-shed_node-in-Split-2-clause-not_lost : goal.returns-in_ok-shed_node-in-Split-2-clause-not_lost
returns-in_ok-shed_node-in-Split-2-clause-not_lost g t c s i =
    let left_kept = rw c.deref_mut.ensures.value at c.shed_node.ensures.kept in
    let right_kept = rw c.deref_mut-in-Split.ensures.value at c.shed_node-in-Split.ensures.kept in
    let left = rw c.deref_mut.ensures.value at c.in_ok-shed_node-in-Split.ensures.put in
    let right = rw c.deref_mut-in-Split.ensures.value at c.in_ok-shed_node-in-Split-2.ensures.put in
    safe_split g.S.BlockSource.follows g.S.BlockSource.puts g.met.S.BlockSource.follows_on (sort_of g.K.TreeKey g.V.TreeValue) c.in-Split.is c.shed_node.new.node c.shed_node-in-Split.new.node c.put_node-in-Split.new.node left_kept right_kept
    c.args.source.now c.shed_node.new.source c.shed_node-in-Split.new.source c.put_node-in-Split.new.source
    g.met.S.BlockSource.follows_itself c.in_ok-shed_node-in-Split.ensures.follows c.in_ok-shed_node-in-Split-2.ensures.follows c.put_node-in-Split.ensures.follows
    left right c.put_node-in-Split.ensures.not_lost s i
