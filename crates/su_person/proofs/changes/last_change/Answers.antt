use Rattle.std.proofs.Common.{◌<◌, ◌∙◌, arith, sym}
use Rattle.su_person.proofs.ChangeLemmas.{last_found}
use Rattle.su_person.proofs.changes.last_change.Goals as goal

pub returns-then-is_touched : goal.returns-then-is_touched
returns-then-is_touched c =
    let l = c.loop-index in
    let some : 0 < l.index = omega (arith, c.loop-index-test.true) in
    last_found c.args.entries.now c.args.file.now l.index c.index-entries-index.result c.author.result some l.invariant.within c.index-entries-index.is
    (sym c.in_ok-is_touched.ensures ∙ c.if-is_touched.true) c.author.ensures l.invariant.none
