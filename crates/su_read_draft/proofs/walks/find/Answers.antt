use Rattle.std.proofs.Common.{◌∙◌, ap, sym, refl, inl, inr}
use Rattle.std.proofs.lemmas.Result.{err_from_is_err_and}
use Rattle.su_reading.proofs.Public.{ends, err_at_once}
use Rattle.su_draft.specs.Walk.{at, found}
use Rattle.su_read_draft.proofs.walks.find.Goals as goal

pub returns-in_err-names : goal.returns-in_err-names
unfolding found
returns-in_err-names g c =
    let p = err_from_is_err_and c.from_residual.result c.from_residual.ensures.1 in
    record { works_out = err_at_once c.in_err-names.field-0.0 (cc (p.1, p.2)) (g.met.R.TreeReader.follows_itself c.args.reader.now) (λ T. elim c.in_err-names.ensures [ inl none ↦ inl none | inr why ↦ inr (rw (why) refl) ]) }

pub returns : goal.returns
unfolding found
returns g c = record { works_out = ends c.at.ensures.works_out (λ T b is. rw (c.in_ok-names.ensures) (ap (at T) (sym c.as_slice.ensures.value) ∙ is)) (λ T e is. rw (c.in_ok-names.ensures) (ap (at T) (sym c.as_slice.ensures.value) ∙ is)) }
