use Rattle.std.proofs.Common.{◌∙◌, sym, ap}
use Rattle.su_tree.specs.MapKind.{map_kind}
use Rattle.su_tree.specs.Digest.{digest}
use Rattle.su_tree.proofs.Public.{digest_one}
use Rattle.su_hash_tree.specs.Edits.{with_value}
use Rattle.su_part_tree.proofs.Seeing.{none_there, with_none}
use Rattle.su_hash_tree.proofs.Sorts.{sort_of}
use Rattle.su_part_tree.proofs.parts.PartTree.put_in.Goals as goal

pub returns-then-is_empty-clause-stands : goal.returns-then-is_empty-clause-stands
returns-then-is_empty-clause-stands g c m h =
    let none = none_there (sort_of g.K.TreeKey g.V.TreeValue) c.args.self.now.root m h (c.is_empty.ensures.0 c.if-is_empty.true) in
    let e = ap (with_value g.K.TreeKey.bits c.args.key c.args.value) none ∙ with_none g.K.TreeKey.bits c.args.key c.args.value in
    (e, c.pair-digest.ensures.meant, ap (digest (map_kind g.K.TreeKey.bits g.K.TreeKey.bytes g.V.TreeValue.bytes)) e ∙ digest_one _ _ ∙ sym c.pair-digest.ensures.hash)
