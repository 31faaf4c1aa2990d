use Rattle.su_part.specs.declared.fetches.Wanted.TheVariants.{Nothing}
use Rattle.su_part_forest.proofs.EditLifting.{small_inum}
use Rattle.su_perform.proofs.PerformLemmas.{knows_open}
use Rattle.su_perform.proofs.drop_body.AcceptedDrop.perform.Goals as goal

pub returns : goal.returns
returns c = record {
  stands = λ T h has.
      let x = c.args.self.now in
      let small = small_inum c.number-number.result x.dropped.now.body c.number-number.ensures.range.1 c.number-number.ensures.value in
      c.remove_inode.ensures.stands T h (knows_open c.args.forest.now T h (x.author, x.dropped.now.body) Nothing small has.0);
}
