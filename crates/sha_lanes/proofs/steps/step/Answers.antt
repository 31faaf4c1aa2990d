use Rattle.std.proofs.Common.{◌+◌, ◌*◌, ◌/◌, ◌%◌, ◌^◌, slice_index, refl, sym, ap, ap₂, ◌∙◌}
use Rattle.std.proofs.lemmas.Simd.{get_or-replicate}
use Rattle.sha_lanes.specs.Lanes.{lane}
use Rattle.sha_lanes.proofs.LaneLemmas.{word_of_lane}
use Rattle.sha_lanes.proofs.OneBlock.{one_block}
use Rattle.sha_lanes.proofs.BlockWords.{block_of, below_sixteen, size, word_0, word_1, word_2, word_3, word_4, word_5, word_6, word_7, word_8, word_9, word_10, word_11, word_12, word_13, word_14, word_15}
use Rattle.sha_lanes.proofs.steps.step.Goals as goal

pub returns : goal.returns
returns c = λ l low small place before in_place in_value.
    let leaf = lane l c.args.leaf.now in
    let value = lane l c.args.value.now in
    let index = slice_index c.args.index l in
    let number = slice_index c.args.step l in
    let f = word_of_lane c.args.leaf.now l in
    let g = word_of_lane c.args.value.now l in
    rw (
      in_place,
      in_value,
      one_block _ (size leaf value index number),
      ← c.hash_blocks.ensures l low (block_of leaf index number value) (below_sixteen _
          (c.whole-word0.ensures l low ∙ ap (λ x. x % 2 ^ 32) (sym (f 0)) ∙ sym (word_0 leaf value index number))
          (c.whole-word1.ensures l low ∙ ap (λ x. x % 2 ^ 32) (sym (f 1)) ∙ sym (word_1 leaf value index number))
          (c.whole-word2.ensures l low ∙ ap (λ x. x % 2 ^ 32) (sym (f 2)) ∙ sym (word_2 leaf value index number))
          (c.whole-word3.ensures l low ∙ ap (λ x. x % 2 ^ 32) (sym (f 3)) ∙ sym (word_3 leaf value index number))
          (c.whole-word4.ensures l low ∙ ap (λ x. x % 2 ^ 32) (sym (f 4)) ∙ sym (word_4 leaf value index number))
          (c.middle-word5.ensures l low small ∙ ap (λ x. index % 2 ^ 16 * 2 ^ 16 + number * 2 ^ 8 + x / 2 ^ 24 % 2 ^ 8) (sym (g 0)) ∙ sym (word_5 leaf value index number))
          (c.join-word6.ensures l low ∙ ap₂ (λ x y. x % 2 ^ 24 * 2 ^ 8 + y / 2 ^ 24 % 2 ^ 8) (sym (g 0)) (sym (g 1)) ∙ sym (word_6 leaf value index number))
          (c.join-word7.ensures l low ∙ ap₂ (λ x y. x % 2 ^ 24 * 2 ^ 8 + y / 2 ^ 24 % 2 ^ 8) (sym (g 1)) (sym (g 2)) ∙ sym (word_7 leaf value index number))
          (c.join-word8.ensures l low ∙ ap₂ (λ x y. x % 2 ^ 24 * 2 ^ 8 + y / 2 ^ 24 % 2 ^ 8) (sym (g 2)) (sym (g 3)) ∙ sym (word_8 leaf value index number))
          (c.join-word9.ensures l low ∙ ap₂ (λ x y. x % 2 ^ 24 * 2 ^ 8 + y / 2 ^ 24 % 2 ^ 8) (sym (g 3)) (sym (g 4)) ∙ sym (word_9 leaf value index number))
          (c.join-word10.ensures l low ∙ ap₂ (λ x y. x % 2 ^ 24 * 2 ^ 8 + y / 2 ^ 24 % 2 ^ 8) (sym (g 4)) (sym (g 5)) ∙ sym (word_10 leaf value index number))
          (c.join-word11.ensures l low ∙ ap₂ (λ x y. x % 2 ^ 24 * 2 ^ 8 + y / 2 ^ 24 % 2 ^ 8) (sym (g 5)) (sym (g 6)) ∙ sym (word_11 leaf value index number))
          (c.join-word12.ensures l low ∙ ap₂ (λ x y. x % 2 ^ 24 * 2 ^ 8 + y / 2 ^ 24 % 2 ^ 8) (sym (g 6)) (sym (g 7)) ∙ sym (word_12 leaf value index number))
          (c.end-word13.ensures l low ∙ ap (λ x. x % 2 ^ 24 * 2 ^ 8 + 0x80) (sym (g 7)) ∙ sym (word_13 leaf value index number))
          (get_or-replicate 8 l 0 0 low ∙ sym (word_14 leaf value index number))
          (get_or-replicate 8 l 440 0 low ∙ sym (word_15 leaf value index number))),
    ) refl
