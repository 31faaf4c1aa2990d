use Rattle.std.proofs.Common.{◌≡◌, ◌∙◌, arith, ap, subst, sym, ◌<◌, length}
use Rattle.su_node.specs.Digest.{block_count}
use Rattle.su_node.proofs.Contents.{resized_same}
use Rattle.su_part.specs.Bytes.{StandsBytes}
use Rattle.su_part.specs.InPlace.{HasJust, half_cut}
use Rattle.su_part.proofs.InPlaceLemmas.{cut_done}
use Rattle.su_part.proofs.blocks.PartBytes.cut.Goals as goal

pub returns-then-self-size-clause-stands : goal.returns-then-self-size-clause-stands
returns-then-self-size-clause-stands c bs h le =
    let size = h.size in
    subst (StandsBytes c.args.self.now) (resized_same c.args.size bs (omega (arith, size, le, c.if-self-size.true))) h

pub take_blocks-requires-clause-paths : goal.take_blocks-requires-clause-paths
take_blocks-requires-clause-paths c n low high =
    c.cut_through.ensures.keeps.paths n (c.requires.paths n (omega (arith, low, c.count_for-first.ensures)) (omega (arith, high, c.count_for-until.ensures)))

pub returns-clause-stands : goal.returns-clause-stands
returns-clause-stands c bs h le =
    let f = half_cut c.args.size bs in
    let until : block_count (length bs) ≡ c.count_for-until.result = ap block_count (sym h.size) ∙ sym c.count_for-until.ensures in
    let begun = subst (λ k. HasJust f k c.cut_through.new.self) until (c.cut_through.ensures.just bs h) in
    cut_done c.args.size bs le c.take_blocks.new.self (subst (λ k. HasJust f k c.take_blocks.new.self) c.count_for-first.ensures (c.take_blocks.ensures.just f begun))

pub returns-clause-keeps : goal.returns-clause-keeps
returns-clause-keeps c bs h le n lt there =
    let f = half_cut c.args.size bs in
    let until : block_count (length bs) ≡ c.count_for-until.result = ap block_count (sym h.size) ∙ sym c.count_for-until.ensures in
    let begun = subst (λ k. HasJust f k c.cut_through.new.self) until (c.cut_through.ensures.just bs h) in
    let below = c.take_blocks.ensures.keeps f begun in
    let mid = c.cut_through.ensures.keeps.blocks n there in
    let first : n < c.count_for-first.result = omega (arith, lt, c.count_for-first.ensures) in
    let same = c.cut_through.ensures.keeps.size in
    let more = c.if-self-size.false in
    record {
      path = below.paths n first mid.path;
      there = λ low. below.loaded n first (mid.there (omega (arith, low, same, more)));
    }
