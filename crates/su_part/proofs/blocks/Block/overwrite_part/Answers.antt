use Rattle.std.proofs.Common.{◌≡◌, ◌∙◌, ap, arith, ◌+◌, ◌-◌, ◌*◌, length, take, drop, min, max}
use Rattle.su_node.specs.InodeChange.{with_bytes_at}
use Rattle.su_part.proofs.InPlaceLemmas.{part_kept, part_written}
use Rattle.su_part.proofs.blocks.Block.overwrite_part.Goals as goal

pub returns-then-last-first : goal.returns-then-last-first
returns-then-last-first c n bs start_is old within =
    let l = ap length c.as_slice-len.ensures.value in
    let first_is : c.max-first.result ≡ max c.args.off (n * 4096) = omega (arith, c.max-first.ensures, start_is) in
    let last_is : c.min-last.result ≡ min (c.args.off + length c.args.bytes.now) (n * 4096 + length c.args.self.now) = omega (arith, c.min-last.ensures, start_is, l) in
    part_kept n c.args.off c.max-first.result c.min-last.result c.args.bytes.now c.args.self.now bs old within first_is last_is c.if-last-first.true

pub returns : goal.returns
returns c n bs start_is old within =
    let l = ap length c.as_slice-len.ensures.value in
    let first = c.max-first.result in
    let last = c.min-last.result in
    let first_is : first ≡ max c.args.off (n * 4096) = omega (arith, c.max-first.ensures, start_is) in
    let last_is : last ≡ min (c.args.off + length c.args.bytes.now) (n * 4096 + length c.args.self.now) = omega (arith, c.min-last.ensures, start_is, l) in
    part_written n c.args.off first last c.args.bytes.now c.args.self.now bs c.overwrite.new.self old within first_is last_is c.if-last-first.false
    (c.overwrite.ensures ∙ ap (λ s. with_bytes_at (first - s) (take (last - c.args.off - (first - c.args.off)) (drop (first - c.args.off) c.args.bytes.now)) c.args.self.now) start_is)
