use Rattle.std.proofs.Common.{◌≡◌, arith, ◌+◌, ◌/◌, ◌<◌, ◌≤◌, length, min}
use Rattle.su_node.specs.Digest.{block_count}
use Rattle.su_node.specs.InodeChange.{with_bytes_at}
use Rattle.su_part.specs.Bytes.{HasBlock, loaded_block}
use Rattle.su_part.proofs.BytesLemmas.{all_blocks_itself, all_blocks_on, found_block}
use Rattle.su_part.proofs.WriteLemmas.{begun, finished}
use Rattle.su_part.proofs.InPlaceLemmas.{stepped_in}
use Rattle.su_part.proofs.blocks.PartBytes.overwrite.Goals as goal

pub loop-number-init : goal.loop-number-init
loop-number-init c = record {
  midway = λ bs h. begun c.args.self.now c.args.off c.args.bytes.now bs (c.args.off / 4096) h (omega (arith, c.requires.within));
  keeps = all_blocks_itself c.args.self.now;
}

pub overwrite_block-requires-clause-there : goal.overwrite_block-requires-clause-there
overwrite_block-requires-clause-there c =
    let n = c.loop-number.number in
    let until = c.count_for-until.ensures in
    let low : min c.args.off c.args.self.now.size / 4096 ≤ n = omega (arith, c.requires.within) in
    let high : n < block_count (c.args.off + length c.args.bytes.now) = omega (arith, until) in
    c.loop-number.invariant.keeps.blocks n (c.requires.there n low high)

pub loop-number-preserved : goal.loop-number-preserved
loop-number-preserved c =
    let n = c.loop-number.number in
    let part = c.loop-number.self in
    let until = c.count_for-until.ensures in
    let low : min c.args.off c.args.self.now.size / 4096 ≤ n = omega (arith, c.requires.within) in
    let high : n < block_count (c.args.off + length c.args.bytes.now) = omega (arith, until) in
    let there : HasBlock n part = c.loop-number.invariant.keeps.blocks n (c.requires.there n low high) in
    record {
      midway = λ bs h.
          let m = c.loop-number.invariant.midway bs h in
          let size = h.size in
          let long = m.size in
          let loaded = found_block bs n (loaded_block part n) (there.there (omega (arith, high, c.requires.within, size, long))) (m.rest n (omega arith)) in
          stepped_in bs (with_bytes_at c.args.off c.args.bytes.now bs) n part c.overwrite_block.new.self m (c.overwrite_block.ensures.stands bs loaded (omega (arith, c.requires.within, size))) (omega (arith, high, c.requires.within))
          (omega (arith, high, c.requires.within, size));
      keeps = all_blocks_on c.args.self.now part c.overwrite_block.new.self c.loop-number.invariant.keeps c.overwrite_block.ensures.keeps;
    }

pub returns-clause-stands : goal.returns-clause-stands
returns-clause-stands c bs h =
    let m = c.loop-number.invariant.midway bs h in
    let long = m.size in
    let size = h.size in
    let first : c.args.off / 4096 ≤ c.count_for-until.result = omega (arith, c.count_for-until.ensures) in
    let last : c.loop-number.number ≤ c.count_for-until.result = c.loop-number.auto.number-end first in
    let k_is : c.loop-number.number ≡ block_count (c.args.off + length c.args.bytes.now) = omega (arith, last, c.loop-number-test.false, c.count_for-until.ensures) in
    finished c.loop-number.self c.args.off c.args.bytes.now bs c.loop-number.number c.loop-number.self.size m k_is (omega (arith, long, size, c.requires.within))
