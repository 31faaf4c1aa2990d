use Rattle.std.proofs.Common.{◌<◌, length, arith}
use Rattle.std.proofs.lemmas.Bool.Decides.{nat_tests}
use Rattle.su_kept_areas.proofs.SidedLemmas.{begin_with}
use Rattle.su_kept_areas.proofs.footprints.is_next.Goals as goal

pub returns-then-not-is_empty-clause-found : goal.returns-then-not-is_empty-clause-found
returns-then-not-is_empty-clause-found c same =
    let some : 0 < length c.args.areas.now = grind (arith, nat_tests, c.if-not-is_empty.true, c.is_empty.ensures) in
    begin_with c.args.areas.now c.index-areas-0.result c.args.area.now some c.index-areas-0.is (c.is_same.ensures.same same)
