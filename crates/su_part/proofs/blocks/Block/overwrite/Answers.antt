use Rattle.std.proofs.Common.{◌∙◌, ap, length, arith}
use Rattle.su_node.specs.InodeChange.{with_bytes_at}
use Rattle.su_node.proofs.Contents.{copied_over}
use Rattle.su_part.proofs.blocks.Block.overwrite.Goals as goal

pub returns : goal.returns
returns c =
    let held = c.deref_mut.ensures.value ∙ c.self.view_is in
    let same = c.copy_from_slice.ensures.after in
    let long = ap length same in
    let size = ap length held in
    let size_of = c.deref_mut.ensures.len in
    copied_over c.copy_from_slice.new.self c.deref_mut.result.now _ c.args.start _ _ (omega (arith, long, size, c.requires)) (omega (arith, long)) (omega (arith, size_of))
    ∙ (λ i. with_bytes_at c.args.start (same i) (held i))
