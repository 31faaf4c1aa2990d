use Rattle.std.proofs.lemmas.Result.{err_from_is_err_and}
use Rattle.su_hash_tree.proofs.Sorts.{sort_of}
use Rattle.su_hash_tree.proofs.Standing.{stands_map}
use Rattle.su_part_tree.proofs.Loading.{encoding}
use Rattle.su_part_tree.proofs.Putting.{failed_put}
use Rattle.su_part_tree.proofs.sheds.put_node.Goals as goal

pub returns-in_err-put-clause-failed : goal.returns-in_err-put-clause-failed
returns-in_err-put-clause-failed g c m h =
    let p = err_from_is_err_and c.from_residual-in_err-put.result c.from_residual-in_err-put.ensures.1 in
    let counted = rw c.as_slice.ensures.value at c.in_err-put.ensures.counted in
    rw (p.1, p.2) (failed_put (sort_of g.K.TreeKey g.V.TreeValue) (encoding g.K.TreeKey.bits g.K.TreeKey.bytes g.K.TreeKey.is_key g.V.TreeValue.bytes g.V.TreeValue.is_value g.met.K.TreeKey.short g.met.K.TreeKey.small g.met.K.TreeKey.told g.met.V.TreeValue.told) c.args.node.now m h c.in_ok-item.item.items c.in_ok-item.ensures.value _ (g.S.BlockSource.failed c.args.source.now) _ counted)

pub returns-clause-stands : goal.returns-clause-stands
returns-clause-stands g c m h = rw c.kept.ensures (stands_map (sort_of g.K.TreeKey g.V.TreeValue) c.args.node.now m h)
