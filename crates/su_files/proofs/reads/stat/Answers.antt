use Rattle.std.proofs.Common.{◌∙◌, sym, refl, inr}
use Rattle.std.proofs.lemmas.Result.{err_from_is_err_and}
use Rattle.su_reading.proofs.Public.{joined, ends_ok, ends_err, stops}
use Rattle.su_files.proofs.Steps.{stat_is, stat_wrong, stat_refused}
use Rattle.su_files.proofs.reads.stat.Goals as goal

pub returns-in_err-holder : goal.returns-in_err-holder
returns-in_err-holder g c =
    let p = err_from_is_err_and c.from_residual.result c.from_residual.ensures.1 in
    record { works_out = stops p.0 (cc (c.in_err-holder.was, p.2)) p.1 c.place_of.ensures.works_out (λ T why. stat_refused T c.args.file p.0 why) }

pub returns-in-Some : goal.returns-in-Some
returns-in-Some g c = record {
  works_out = ends_ok c.in_ok-head.field-0 _ c.in_ok-head.was refl
      (joined (c.in_ok-holder.holder, c.in_ok-holder.number) c.in_ok-holder.was g.met.R.TreeReader.follows_on c.place_of.ensures.works_out c.head.ensures.finds)
      (λ T is. stat_is T c.args.file (c.in_ok-holder.holder, c.in_ok-holder.number) c.in-Some.head is.0 (sym c.in-Some.is ∙ is.1));
}

pub returns-in-None : goal.returns-in-None
returns-in-None g c = record {
  works_out = ends_err c.in_ok-head.field-0 _ c.in_ok-head.was refl
      (joined (c.in_ok-holder.holder, c.in_ok-holder.number) c.in_ok-holder.was g.met.R.TreeReader.follows_on c.place_of.ensures.works_out c.head.ensures.finds)
      (λ T is. inr (stat_wrong T c.args.file (c.in_ok-holder.holder, c.in_ok-holder.number) is.0 (sym c.in-None.is ∙ is.1)));
}
