use Rattle.su_part.proofs.BytesLemmas.{one_more}
use Rattle.su_part.proofs.WriteLemmas.{places_on, places_stand, places_more, ready_more}
use Rattle.su_part.proofs.blocks.PartBytes.make_ready.Goals as goal

pub loop-number-preserved : goal.loop-number-preserved
loop-number-preserved c =
    let before = c.loop-number.invariant in
    record {
      ready = λ bs h size_is. ready_more c.args.first c.loop-number.number _ c.loop-number.all.entries c.insert.new.self.entries c.in_ok-ready.ready (before.ready bs h size_is)
          (c.in_ok-ready.ensures.ready bs (places_stand c.args.self.now c.loop-number.self bs before.same h) size_is) c.in_ok-insert.ensures.updates.0;
      places = one_more _ c.args.first c.loop-number.number (places_more c.loop-number.self c.ready_block.new.self c.ready_block.ensures.same c.args.first c.loop-number.number before.places) c.in_ok-ready.ensures.place;
      same = places_on c.args.self.now c.loop-number.self c.ready_block.new.self before.same c.ready_block.ensures.same;
    }
