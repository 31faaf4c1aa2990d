use Rattle.std.proofs.lemmas.Result.{err_from_is_err_and}
use Rattle.su_hash_tree.proofs.Sorts.{sort_of}
use Rattle.su_hash_tree.proofs.Standing.{at_Stub}
use Rattle.su_part_tree.proofs.Loading.{encoding, failed_here, loaded_stands, not_malformed}
use Rattle.su_part_tree.proofs.loads.load_node.Goals as goal

pub returns-in_default-2-clause-malformed : goal.returns-in_default-2-clause-malformed
returns-in_default-2-clause-malformed g c is m h free =
    let bars = rw (c.in_default-2.is, c.as_slice.ensures.value) at c.in_ok-item-2.ensures.node in
    not_malformed (sort_of g.K.TreeKey g.V.TreeValue) (encoding g.K.TreeKey.bits g.K.TreeKey.bytes g.K.TreeKey.is_key g.V.TreeValue.bytes g.V.TreeValue.is_value g.met.K.TreeKey.short g.met.K.TreeKey.small g.met.K.TreeKey.told g.met.V.TreeValue.told) _ _ _ m (at_Stub (sort_of g.K.TreeKey g.V.TreeValue) m c.in-Some.ensures h) (c.in_ok-item.ensures.checked c.requires.checked) c.in_ok-item.ensures.given free bars

pub returns-clause-stands : goal.returns-clause-stands
returns-clause-stands g c m h free =
    let spells = rw (c.in-Some-2.is, c.as_slice.ensures.value) at c.in_ok-item-2.ensures.node in
    loaded_stands (sort_of g.K.TreeKey g.V.TreeValue) (encoding g.K.TreeKey.bits g.K.TreeKey.bytes g.K.TreeKey.is_key g.V.TreeValue.bytes g.V.TreeValue.is_value g.met.K.TreeKey.short g.met.K.TreeKey.small g.met.K.TreeKey.told g.met.V.TreeValue.told) _ _ _ m (at_Stub (sort_of g.K.TreeKey g.V.TreeValue) m c.in-Some.ensures h) (c.in_ok-item.ensures.checked c.requires.checked) c.in_ok-item.ensures.given free _ _ spells c.in_ok-node.ensures.value

pub returns-in_err-item-clause-failed : goal.returns-in_err-item-clause-failed
returns-in_err-item-clause-failed g c m h =
    let p = err_from_is_err_and c.from_residual.result c.from_residual.ensures.1 in
    rw (p.1, p.2) (failed_here (sort_of g.K.TreeKey g.V.TreeValue) (encoding g.K.TreeKey.bits g.K.TreeKey.bytes g.K.TreeKey.is_key g.V.TreeValue.bytes g.V.TreeValue.is_value g.met.K.TreeKey.short g.met.K.TreeKey.small g.met.K.TreeKey.told g.met.V.TreeValue.told) _ m (at_Stub (sort_of g.K.TreeKey g.V.TreeValue) m c.in-Some.ensures h) _ (g.S.BlockSource.failed c.args.source.now) _ c.in_err-item.ensures.counted)
