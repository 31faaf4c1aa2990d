use Rattle.std.proofs.Common.{sym, refl}
use Rattle.std.proofs.lemmas.Result.{err_from_is_err_and}
use Rattle.su_reading.proofs.Public.{joined, ends_ok, stops}
use Rattle.su_draft.specs.Walk.{at, root, walk}
use Rattle.su_draft.proofs.WalkSteps.{walk-refused, walk-done}
use Rattle.su_read_draft.proofs.walks.at.Goals as goal

pub returns-in_err-file : goal.returns-in_err-file
unfolding at
returns-in_err-file g c =
    let p = err_from_is_err_and c.from_residual.result c.from_residual.ensures.1 in
    record {
      works_out = stops p.0 (cc (c.in_err-file.was, p.2)) p.1 (joined c.loop-name.file refl g.met.R.TreeReader.follows_on c.loop-name.invariant c.entry.ensures.works_out)
          (λ T is. sym (walk-refused T c.loop-name.file c.args.names.now c.loop-name.name-index c.name-item.result p.0 (walk T root c.args.names.now) c.loop-name-test.true c.name-item.is (sym is.1) is.0));
    }

pub returns : goal.returns
unfolding at
returns g c = record {
  works_out = ends_ok c.loop-name.file c.loop-name.file refl refl c.loop-name.invariant
      (λ T is. sym (walk-done T c.loop-name.file c.args.names.now c.loop-name.name-index (walk T root c.args.names.now) c.loop-name-test.false is));
}
