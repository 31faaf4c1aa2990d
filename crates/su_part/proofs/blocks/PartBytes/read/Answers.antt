use Rattle.std.proofs.Common.{◌≡◌, ◌∙◌, refl, ap, arith, ◌+◌, ◌-◌, ◌*◌, ◌≤◌, ◌<◌, ◌++◌, length, min, take, drop}
use Rattle.su_node.specs.Field.{block}
use Rattle.su_node.proofs.Contents.{read_all}
use Rattle.su_part.proofs.BytesLemmas.{found_block, read_on}
use Rattle.su_part.proofs.blocks.PartBytes.read.Goals as goal

pub loop-number-preserved : goal.loop-number-preserved
loop-number-preserved c bs h =
    let n = c.loop-number.number in
    let start = c.min-start.result in
    let last = c.min-start.result + c.min.result in
    let within : 4096 * n < last = omega (arith, c.loop-number-test.true, c.count_for-number-end.ensures) in
    let high : last ≤ length bs = omega (arith, c.min-start.ensures, c.min.ensures, h.size) in
    let reached : start < 4096 * (n + 1) = omega (arith, c.loop-number.auto.number) in
    let some = c.requires n (omega (arith, c.min-start.ensures, c.min.ensures, c.if-until-start.false, c.loop-number.auto.number)) (omega (arith, c.min-start.ensures, c.min.ensures, within)) (omega (arith, high, within, h.size)) in
    read_on bs (block n bs) c.loop-number.bytes.items c.extend_from_slice.new.self.items start last n (n * 4096) (c.max.result - n * 4096) (c.min-in-loop-number.result - n * 4096)
    refl (omega arith) high reached within refl (ap (λ m. m - n * 4096) c.max.ensures) (ap (λ m. m - n * 4096) c.min-in-loop-number.ensures) (c.loop-number.invariant bs h)
    (c.in_ok-extend_from_slice.ensures.items ∙ ap (λ xs. c.loop-number.bytes.items ++ xs) (c.part-part.ensures (block n bs) (found_block bs n _ some (h.blocks n))))

pub returns : goal.returns
returns c bs h =
    let all : min (c.min-start.result + c.min.result) (4096 * c.loop-number.number) - c.min-start.result ≡ c.min.result = omega (arith, c.loop-number-test.false, c.count_for-number-end.ensures) in
    c.loop-number.invariant bs h ∙ ap (λ k. take k (drop c.min-start.result bs)) all
    ∙ read_all bs c.args.off c.args.len c.min-start.result c.min.result (c.min-start.ensures ∙ ap (min c.args.off) h.size) (c.min.ensures ∙ ap (λ s. min c.args.len (s - c.min-start.result)) h.size)
