use Rattle.std.proofs.Common.{[], arith}
use Rattle.su_lms.specs.KeyFile.{private_key_of}
use Rattle.su_lms.proofs.NodeTables.{among_leaves}
use Rattle.su_lms.proofs.trees.set_leaves_in_parts.Goals as goal

pub returns : goal.returns
returns g c = λ k low.
    let chunk = (c.for_each_chunk_mut.ensures.by_index k [] (omega (arith, c.for_each_chunk_mut.auto.s))).1 in
    among_leaves (private_key_of c.args.file.now) chunk.start chunk.offset k chunk.after_call.now _ chunk.call.1
    (omega (arith, chunk.offset_in_chunk, chunk.call.0)) chunk.start_plus_offset chunk.new_element
