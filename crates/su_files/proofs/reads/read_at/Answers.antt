use Rattle.std.proofs.Common.{◌∙◌, ap, sym, refl, inr}
use Rattle.std.proofs.lemmas.Result.{err_from_is_err_and}
use Rattle.std.specs.Option.{ok_or, option_map}
use Rattle.su_bytes.specs.declared.refusals.Refusal.TheVariants.{WrongKind}
use Rattle.su_node.specs.Inode.{bytes_of, within}
use Rattle.su_reading.proofs.Public.{joined, ends_ok, ends_err, stops}
use Rattle.su_files.proofs.Steps.{part_there, part_refused}
use Rattle.su_files.proofs.reads.read_at.Goals as goal

pub returns-in_err-place : goal.returns-in_err-place
returns-in_err-place g c =
    let p = err_from_is_err_and c.from_residual.result c.from_residual.ensures.1 in
    record { works_out = stops p.0 (cc (c.in_err-place.was, p.2)) p.1 c.place_of.ensures.works_out (λ T why. part_refused T c.args.file _ p.0 why) }

pub returns-in-Some : goal.returns-in-Some
returns-in-Some g c = record {
  works_out = ends_ok c.in_ok-bytes.field-0 c.in-Some.bytes c.in_ok-bytes.was refl
      (joined c.in_ok-place.place c.in_ok-place.was g.met.R.TreeReader.follows_on c.place_of.ensures.works_out c.bytes.ensures.finds)
      (λ T is. part_there T c.args.file (λ o. option_map (within c.args.off c.args.len) (bytes_of o)) refl c.in_ok-place.place is.0
      ∙ ap (λ o. ok_or o (WrongKind c.args.file)) (sym is.1 ∙ ap (option_map (λ v. v.items)) c.in-Some.is));
}

pub returns-in-None : goal.returns-in-None
returns-in-None g c = record {
  works_out = ends_err c.in_ok-bytes.field-0 _ c.in_ok-bytes.was refl
      (joined c.in_ok-place.place c.in_ok-place.was g.met.R.TreeReader.follows_on c.place_of.ensures.works_out c.bytes.ensures.finds)
      (λ T is. inr (part_there T c.args.file (λ o. option_map (within c.args.off c.args.len) (bytes_of o)) refl c.in_ok-place.place is.0
      ∙ ap (λ o. ok_or o (WrongKind c.args.file)) (sym is.1 ∙ ap (option_map (λ v. v.items)) c.in-None.is)));
}
