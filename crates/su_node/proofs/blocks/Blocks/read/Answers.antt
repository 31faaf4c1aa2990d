use Rattle.std.proofs.Common.{◌≡◌, ◌∙◌, sym, ap, arith, ◌+◌, ◌-◌, ◌*◌, ◌≤◌, ◌<◌, ◌++◌, length, min, max, take, drop, List, ℕ}
use Rattle.std.specs.List.{concat}
use Rattle.su_node.specs.Field.{block}
use Rattle.su_node.specs.Stored.{AreStored}
use Rattle.su_node.proofs.Contents.{reaches, read_more, read_all, length-block}
use Rattle.su_node.proofs.blocks.Blocks.read.Goals as goal

-- the part of a block lies in it
part_in : (start last n size len : ℕ) → len ≡ min 4096 (size - 4096 * n) → start ≤ last → last ≤ size → start < 4096 * (n + 1) → 4096 * n < last
    → max start (n * 4096) - n * 4096 ≤ min last (n * 4096 + len) - n * 4096
part_in start last n size len len_is low high reached within = omega (arith, len_is)

read_there : (blocks : List (List ℕ)) (size start last n first end_ : ℕ) (b was new : List ℕ) → AreStored blocks size → b ≡ block n (concat blocks)
    → start ≤ last → last ≤ size → start < 4096 * (n + 1) → 4096 * n < last → first ≡ max start (n * 4096) → end_ ≡ min last (n * 4096 + length b)
    → was ≡ take (min last (4096 * n) - start) (drop start (concat blocks)) → new ≡ was ++ take (end_ - n * 4096 - (first - n * 4096)) (drop (first - n * 4096) b)
    → new ≡ take (min last (4096 * (n + 1)) - start) (drop start (concat blocks))
read_there blocks size start last n first end_ b was new are b_is low high reached within first_is end_is was_is new_is =
    new_is ∙ ap (λ xs. xs ++ take (end_ - n * 4096 - (first - n * 4096)) (drop (first - n * 4096) b)) was_is
    ∙ read_more (concat blocks) b start last n (first - n * 4096) (end_ - n * 4096) b_is low (let e = are.size_of in omega (arith, e)) reached within (ap (λ m. m - n * 4096) first_is) (ap (λ m. m - n * 4096) end_is)

pub get-block-requires : goal.get-block-requires
get-block-requires c =
    reaches c.self.inside.blocks (concat c.self.inside.blocks) c.self.invariant.blocks_of c.loop-number.number (omega (arith, c.self.invariant.size_of, c.loop-number-test.true, c.count_for-number-end.ensures, c.min-start.ensures, c.min.ensures))

pub slice_bounds-part-count : goal.slice_bounds-part-count
slice_bounds-part-count c =
    let within : 4096 * c.loop-number.number < c.min-start.result + c.min.result = omega (arith, c.loop-number-test.true, c.count_for-number-end.ensures) in
    let high : c.min-start.result + c.min.result ≤ c.self.inside.size = omega (arith, c.min-start.ensures, c.min.ensures) in
    let b = c.get-block.ensures ∙ c.self.invariant.blocks_of.each c.loop-number.number in
    let l = ap length b ∙ length-block c.loop-number.number (concat c.self.inside.blocks) ∙ ap (λ s. min 4096 (s - 4096 * c.loop-number.number)) (sym c.self.invariant.size_of) in
    let p = part_in c.min-start.result (c.min-start.result + c.min.result) c.loop-number.number c.self.inside.size (length c.get-block.result.now) l (omega arith) high (omega (arith, c.loop-number.auto.number)) within in
    omega (arith, p, c.max.ensures, c.min-in-loop-number.ensures)

pub slice_bounds-part-start : goal.slice_bounds-part-start
slice_bounds-part-start c =
    let within : 4096 * c.loop-number.number < c.min-start.result + c.min.result = omega (arith, c.loop-number-test.true, c.count_for-number-end.ensures) in
    let high : c.min-start.result + c.min.result ≤ c.self.inside.size = omega (arith, c.min-start.ensures, c.min.ensures) in
    let b = c.get-block.ensures ∙ c.self.invariant.blocks_of.each c.loop-number.number in
    let l = ap length b ∙ length-block c.loop-number.number (concat c.self.inside.blocks) ∙ ap (λ s. min 4096 (s - 4096 * c.loop-number.number)) (sym c.self.invariant.size_of) in
    let p = part_in c.min-start.result (c.min-start.result + c.min.result) c.loop-number.number c.self.inside.size (length c.get-block.result.now) l (omega arith) high (omega (arith, c.loop-number.auto.number)) within in
    omega (arith, p, c.max.ensures, c.min-in-loop-number.ensures)

pub loop-number-preserved : goal.loop-number-preserved
loop-number-preserved c =
    let within : 4096 * c.loop-number.number < c.min-start.result + c.min.result = omega (arith, c.loop-number-test.true, c.count_for-number-end.ensures) in
    let high : c.min-start.result + c.min.result ≤ c.self.inside.size = omega (arith, c.min-start.ensures, c.min.ensures) in
    let b = c.get-block.ensures ∙ c.self.invariant.blocks_of.each c.loop-number.number in
    read_there c.self.inside.blocks c.self.inside.size c.min-start.result (c.min-start.result + c.min.result) c.loop-number.number c.max.result c.min-in-loop-number.result c.get-block.result.now c.loop-number.bytes.items c.extend_from_slice.new.self.items
    c.self.invariant b (omega arith) high (omega (arith, c.loop-number.auto.number)) within c.max.ensures c.min-in-loop-number.ensures c.loop-number.invariant c.in_ok-extend_from_slice.ensures.items

pub returns : goal.returns
returns c =
    let all : min (c.min-start.result + c.min.result) (4096 * c.loop-number.number) - c.min-start.result ≡ c.min.result = omega (arith, c.loop-number-test.false, c.count_for-number-end.ensures) in
    let size = c.self.invariant.size_of in
    record {
      value = c.loop-number.invariant ∙ ap (λ k. take k (drop c.min-start.result (concat c.self.inside.blocks))) all
          ∙ read_all (concat c.self.inside.blocks) c.args.off c.args.len c.min-start.result c.min.result (c.min-start.ensures ∙ ap (min c.args.off) size) (c.min.ensures ∙ ap (λ s. min c.args.len (s - c.min-start.result)) size)
          ∙ ap (λ bs. take c.args.len (drop c.args.off bs)) c.self.view_is;
    }
