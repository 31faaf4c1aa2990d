use Rattle.std.proofs.Common.{◌≡◌, ◌∙◌, ap, arith, ◌+◌, ◌-◌, ◌*◌, length, take, drop, min, max}
use Rattle.std.proofs.lemmas.List.{length-drop, length-take}
use Rattle.su_node.specs.InodeChange.{with_size, with_bytes_at}
use Rattle.su_node.proofs.Contents.{length-with_size}
use Rattle.su_part.proofs.WriteLemmas.{block_grown, block_written}
use Rattle.su_part.proofs.blocks.Block.write.Goals as goal

pub returns-then-last-first : goal.returns-then-last-first
returns-then-last-first c n bs start_is old size_is =
    let full_is : c.min.result ≡ min 4096 (c.args.size - 4096 * n) = omega (arith, c.min.ensures, start_is) in
    let first_is : c.max-first.result ≡ max c.args.off (4096 * n) = omega (arith, c.max-first.ensures, start_is) in
    let last_is : c.min-last.result ≡ min (c.args.off + length c.args.bytes.now) (4096 * n + 4096) = omega (arith, c.min-last.ensures, start_is) in
    c.in_ok-resize.ensures ∙ ap (with_size c.min.result) old
    ∙ block_grown n c.args.off c.args.size c.min.result c.max-first.result c.min-last.result c.args.bytes.now bs size_is full_is first_is last_is c.if-last-first.true

pub overwrite-requires : goal.overwrite-requires
overwrite-requires c =
    let l = ap length c.in_ok-resize.ensures ∙ length-with_size c.min.result c.args.self.now in
    let d = length-drop (c.max-first.result - c.args.off) c.args.bytes.now in
    let t = length-take (c.min-last.result - c.args.off - (c.max-first.result - c.args.off)) (drop (c.max-first.result - c.args.off) c.args.bytes.now) in
    omega (arith, l, d, t, c.min.ensures, c.max-first.ensures, c.min-last.ensures, c.if-last-first.false, c.requires.within, c.requires.there)

pub returns : goal.returns
returns c n bs start_is old size_is =
    let full_is : c.min.result ≡ min 4096 (c.args.size - 4096 * n) = omega (arith, c.min.ensures, start_is) in
    let first_is : c.max-first.result ≡ max c.args.off (4096 * n) = omega (arith, c.max-first.ensures, start_is) in
    let last_is : c.min-last.result ≡ min (c.args.off + length c.args.bytes.now) (4096 * n + 4096) = omega (arith, c.min-last.ensures, start_is) in
    let at : c.max-first.result - c.args.start ≡ c.max-first.result - 4096 * n = omega (arith, start_is) in
    let many : c.min-last.result - c.args.off - (c.max-first.result - c.args.off) ≡ c.min-last.result - c.max-first.result = omega (arith, c.max-first.ensures) in
    let grown = c.in_ok-resize.ensures ∙ ap (with_size c.min.result) old in
    c.overwrite.ensures ∙ (λ i. with_bytes_at (at i) (take (many i) (drop (c.max-first.result - c.args.off) c.args.bytes.now)) (grown i))
    ∙ block_written n c.args.off c.args.size c.min.result c.max-first.result c.min-last.result c.args.bytes.now bs size_is full_is first_is last_is c.if-last-first.false
