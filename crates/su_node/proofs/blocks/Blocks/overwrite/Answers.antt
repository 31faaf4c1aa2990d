use Rattle.std.proofs.Common.{◌≡◌, ◌∙◌, sym, refl, ap, subst, arith, ◌+◌, ◌-◌, ◌*◌, ◌/◌, ◌≤◌, ◌<◌, length, min, max, take, drop, get_or, set, [], List, ℕ}
use Rattle.std.proofs.lemmas.List.{length-take, take_all}
use Rattle.su_node.specs.InodeChange.{with_bytes_at}
use Rattle.su_node.specs.Cost.{blocks_touched}
use Rattle.su_node.specs.Stored.{AreBlocksOf}
use Rattle.su_node.proofs.Costs.{cost_both, cost_less}
use Rattle.su_node.proofs.Contents.{count_is, stored, reaches, concat_blocks, written_nothing, written_blocks, length-with_bytes_at, length-block}
use Rattle.su_node.proofs.blocks.Blocks.overwrite.Goals as goal

-- a file keeps its size where what is written lies within it
length-kept : (off k : ℕ) (xs bs : List ℕ) → off + length xs ≤ length bs → length (with_bytes_at off (take k xs) bs) ≡ length bs
length-kept off k xs bs fits = let l = length-with_bytes_at off (take k xs) bs in let t = length-take k xs in omega (arith, l, t)

-- the length of the block that is written to
length-at_block : (blocks : List (List ℕ)) (off k n : ℕ) (xs bs : List ℕ) → off + length xs ≤ length bs → AreBlocksOf blocks (with_bytes_at off (take k xs) bs)
    → length (get_or blocks n []) ≡ min 4096 (length bs - 4096 * n)
length-at_block blocks off k n xs bs fits are =
    ap length (are.each n) ∙ length-block n (with_bytes_at off (take k xs) bs) ∙ ap (λ l. min 4096 (l - 4096 * n)) (length-kept off k xs bs fits)

length-part : (off first last : ℕ) (xs : List ℕ) → last ≤ off + length xs → length (take (last - off - (first - off)) (drop (first - off) xs)) ≤ last - off - (first - off)
length-part off first last xs le = let l = length-take (last - off - (first - off)) (drop (first - off) xs) in omega (arith, l)

part_fits : (off n first last len size : ℕ) → first ≡ max off (n * 4096) → last ≡ min (off + len) ((n + 1) * 4096) → off + len ≤ size → 4096 * n < off + len → off < 4096 * (n + 1)
    → first - n * 4096 + (last - off - (first - off)) ≤ min 4096 (size - 4096 * n)
part_fits off n first last len size first_is last_is fits within reached = omega (arith, first_is, last_is)

written_there : (blocks new : List (List ℕ)) (off n first last : ℕ) (xs bs : List ℕ) → off + length xs ≤ length bs → first ≡ max off (n * 4096) → last ≡ min (off + length xs) ((n + 1) * 4096)
    → off < 4096 * (n + 1) → 4096 * n < off + length xs
    → AreBlocksOf blocks (with_bytes_at off (take (min (length xs) (4096 * n - off)) xs) bs)
    → new ≡ set blocks n (with_bytes_at (first - n * 4096) (take (last - off - (first - off)) (drop (first - off) xs)) (get_or blocks n []))
    → AreBlocksOf new (with_bytes_at off (take (min (length xs) (4096 * (n + 1) - off)) xs) bs)
written_there blocks new off n first last xs bs fits first_is last_is reached within are new_is =
    let start : first - n * 4096 ≡ first - 4096 * n = omega arith in
    let count : last - off - (first - off) ≡ last - first = omega (arith, first_is) in
    let e = new_is ∙ (λ i. set blocks n (with_bytes_at (start i) (take (count i) (drop (first - off) xs)) (get_or blocks n []))) in
    subst (λ ys. AreBlocksOf ys (with_bytes_at off (take (min (length xs) (4096 * (n + 1) - off)) xs) bs)) (sym e)
    (written_blocks bs xs off fits n (min (length xs) (4096 * n - off)) (min (length xs) (4096 * (n + 1) - off)) first last refl refl (omega (arith, first_is)) (omega (arith, last_is)) reached within blocks are)

pub loop-number-init : goal.loop-number-init
loop-number-init c =
    let none : min (length c.args.bytes.now) (4096 * (c.args.off / 4096) - c.args.off) ≡ 0 = omega arith in
    (refl, subst (AreBlocksOf c.self.inside.blocks) (c.self.view_is ∙ written_nothing c.args.off c.args.self.now (omega (arith, c.requires)) ∙ ap (λ k. with_bytes_at c.args.off (take k c.args.bytes.now) c.args.self.now) (sym none)) c.self.invariant.blocks_of, λ bits small. omega arith)

pub invariant_of-self : goal.invariant_of-self
invariant_of-self c =
    let l = length-kept c.args.off (min (length c.args.bytes.now) (4096 * c.loop-number.number - c.args.off)) c.args.bytes.now c.args.self.now c.requires in
    stored c.loop-number.self-inside.blocks _ _ c.loop-number.invariant.1 (c.loop-number.invariant.0 ∙ c.self.invariant.size_of ∙ ap length c.self.view_is ∙ sym l)

pub returns-clause-value : goal.returns-clause-value
returns-clause-value c =
    concat_blocks c.loop-number.self-inside.blocks _ c.loop-number.invariant.1
    ∙ ap (λ ys. with_bytes_at c.args.off ys c.args.self.now) (take_all (min (length c.args.bytes.now) (4096 * c.loop-number.number - c.args.off)) c.args.bytes.now (omega (arith, c.loop-number-test.false, c.count_for-number-end.ensures)))

pub overwrite-made-requires-clause-there : goal.overwrite-made-requires-clause-there
overwrite-made-requires-clause-there c =
    let l = length-kept c.args.off (min (length c.args.bytes.now) (4096 * c.loop-number.number - c.args.off)) c.args.bytes.now c.args.self.now c.requires in
    let within : 4096 * c.loop-number.number < c.args.off + length c.args.bytes.now = omega (arith, c.loop-number-test.true, c.count_for-number-end.ensures) in
    reaches c.loop-number.self-inside.blocks _ c.loop-number.invariant.1 c.loop-number.number (omega (arith, l, c.requires, within))

pub overwrite-made-requires-clause-fits : goal.overwrite-made-requires-clause-fits
overwrite-made-requires-clause-fits c =
    let within : 4096 * c.loop-number.number < c.args.off + length c.args.bytes.now = omega (arith, c.loop-number-test.true, c.count_for-number-end.ensures) in
    let reached : c.args.off < 4096 * (c.loop-number.number + 1) = omega (arith, c.loop-number.auto.number) in
    let l = length-at_block c.loop-number.self-inside.blocks c.args.off _ c.loop-number.number c.args.bytes.now c.args.self.now c.requires c.loop-number.invariant.1 in
    let p = length-part c.args.off c.max-first.result c.min-last.result c.args.bytes.now (omega (arith, c.min-last.ensures)) in
    let f = part_fits c.args.off c.loop-number.number c.max-first.result c.min-last.result (length c.args.bytes.now) (length c.args.self.now) c.max-first.ensures c.min-last.ensures c.requires within reached in
    grind (arith, l, p, f)

pub loop-number-preserved : goal.loop-number-preserved
loop-number-preserved c =
    let within : 4096 * c.loop-number.number < c.args.off + length c.args.bytes.now = omega (arith, c.loop-number-test.true, c.count_for-number-end.ensures) in
    let reached : c.args.off < 4096 * (c.loop-number.number + 1) = omega (arith, c.loop-number.auto.number) in (
      c.loop-number.invariant.0,
      written_there c.loop-number.self-inside.blocks c.overwrite-made.new.self c.args.off c.loop-number.number c.max-first.result c.min-last.result c.args.bytes.now c.args.self.now
          c.requires c.max-first.ensures c.min-last.ensures reached within c.loop-number.invariant.1 c.overwrite-made.ensures.value,
      λ bits small.
          let kept = length-kept c.args.off (min (length c.args.bytes.now) (4096 * c.loop-number.number - c.args.off)) c.args.bytes.now c.args.self.now c.requires in
          let count = count_is c.loop-number.self-inside.blocks _ c.loop-number.invariant.1 in
          let made = c.overwrite-made.ensures.hashes bits (omega (arith, count, kept, small)) in
          cost_both (bits + 2) (c.loop-number.number - c.args.off / 4096) 1 (c.loop-number.number + 1 - c.args.off / 4096) c.loop-number.hashes c.overwrite-made.result c.saturating_add-hashes.result
          (omega (arith, c.loop-number.auto.number)) (c.loop-number.invariant.2 bits small) made (omega (arith, c.saturating_add-hashes.ensures)),
    )

pub returns-clause-hashes : goal.returns-clause-hashes
returns-clause-hashes c = λ bits small.
    let touched : c.loop-number.number - c.args.off / 4096 ≤ blocks_touched c.args.off (length c.args.bytes.now) = omega (arith, c.loop-number.auto.number, c.loop-number-test.false, c.count_for-number-end.ensures) in
    cost_less (bits + 2) _ _ c.loop-number.hashes touched (c.loop-number.invariant.2 bits small)
