use Rattle.std.proofs.Common.{refl}
use Rattle.su_part.proofs.BytesLemmas.{found_block}
use Rattle.su_part.proofs.WriteLemmas.{places_stand}
use Rattle.su_part.proofs.blocks.PartBytes.ready_block.Goals as goal

pub returns-clause-ready : goal.returns-clause-ready
returns-clause-ready c bs h size_is =
    let after = places_stand c.args.self.now c.make_place.new.self bs c.make_place.ensures.same h in
    let is = c.in_ok-block.ensures _ (found_block bs c.args.number _ c.in_ok-make_place.ensures.place (after.blocks c.args.number)) in
    c.in_ok-write.ensures c.args.number bs refl is size_is
