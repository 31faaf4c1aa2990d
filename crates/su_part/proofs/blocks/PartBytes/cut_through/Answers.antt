use Rattle.std.proofs.Common.{arith, ◌/◌, ◌%◌, ◌<◌}
use Rattle.su_node.specs.Field.{block}
use Rattle.su_part.specs.Bytes.{loaded_block}
use Rattle.su_part.proofs.BytesLemmas.{found_block}
use Rattle.su_part.proofs.InPlaceLemmas.{cut_none, cut_one}
use Rattle.su_part.proofs.blocks.PartBytes.cut_through.Goals as goal

pub returns-then-len-eq0-clause-just : goal.returns-then-len-eq0-clause-just
returns-then-len-eq0-clause-just c bs h =
    let size = h.size in
    cut_none c.args.size bs (omega (arith, size, c.requires.below)) c.args.self.now (omega arith) h

pub cut_block-requires : goal.cut_block-requires
cut_block-requires c = c.requires.there.paths (c.args.size / 4096) (omega arith) (omega (arith, c.requires.below))

pub returns-clause-just : goal.returns-clause-just
returns-clause-just c bs h =
    let size = h.size in
    let k = c.args.size / 4096 in
    let some : 0 < c.args.size % 4096 = omega arith in
    let loaded = found_block bs k (loaded_block c.args.self.now k) (c.requires.there.block k (omega (arith, some)) (omega arith) c.requires.below) (h.blocks k) in
    cut_one c.args.size bs (omega (arith, size, c.requires.below)) c.args.self.now c.cut_block.new.self k (c.args.size % 4096) (omega arith) (omega arith) some (omega (arith, size, c.requires.below)) (omega arith) h
    (c.cut_block.ensures.replaced (block k bs) loaded)
