use Rattle.std.proofs.Common.{ap, sym, refl, inl, inr, Ok}
use Rattle.std.proofs.lemmas.Result.{err_from_is_err_and}
use Rattle.su_reading.proofs.Public.{joined, ends_ok, stops, ends, err_at_once}
use Rattle.su_draft.specs.Rename.{rename_draft}
use Rattle.su_read_draft.proofs.rename.rename.Goals as goal

pub returns-in_err-source : goal.returns-in_err-source
unfolding rename_draft
returns-in_err-source g c =
    let p = err_from_is_err_and c.from_residual.result c.from_residual.ensures.1 in
    record { works_out = err_at_once c.in_err-source.field-0.0 (cc (p.1, p.2)) (g.met.R.TreeReader.follows_itself c.args.reader.now) (λ T. elim c.in_err-source.ensures [ inl none ↦ inl none | inr why ↦ inr (rw (why) refl) ]) }

pub returns-in_err-target : goal.returns-in_err-target
unfolding rename_draft
returns-in_err-target g c =
    let p = err_from_is_err_and c.from_residual-in_err-target.result c.from_residual-in_err-target.ensures.1 in
    record { works_out = err_at_once c.in_err-target.field-0.0 (cc (p.1, p.2)) (g.met.R.TreeReader.follows_itself c.args.reader.now) (λ T. elim c.in_err-target.ensures [ inl none ↦ inl none | inr why ↦ inr (rw (c.in_ok-source.ensures, why) refl) ]) }

pub returns-in_err-from_ : goal.returns-in_err-from_
unfolding rename_draft
returns-in_err-from_ g c =
    let p = err_from_is_err_and c.from_residual-in_err-from_.result c.from_residual-in_err-from_.ensures.1 in
    record { works_out = stops p.0 (cc (c.in_err-from_.was, p.2)) p.1 c.directory_of.ensures.works_out (λ T is. rw (c.in_ok-source.ensures, c.in_ok-target.ensures, is) refl) }

pub returns-in_err-file : goal.returns-in_err-file
unfolding rename_draft
returns-in_err-file g c =
    let p = err_from_is_err_and c.from_residual-in_err-file.result c.from_residual-in_err-file.ensures.1 in
    record { works_out = stops p.0 (cc (c.in_err-file.was, p.2)) p.1 (joined c.in_ok-from_.from_ c.in_ok-from_.was g.met.R.TreeReader.follows_on c.directory_of.ensures.works_out c.entry.ensures.works_out) (λ T is. rw (c.in_ok-source.ensures, c.in_ok-target.ensures, is.0, is.1) refl) }

pub returns-in_err-to_ : goal.returns-in_err-to_
unfolding rename_draft
returns-in_err-to_ g c =
    let p = err_from_is_err_and c.from_residual-in_err-to_.result c.from_residual-in_err-to_.ensures.1 in
    record { works_out = stops p.0 (cc (c.in_err-to_.was, p.2)) p.1 (joined c.in_ok-file.file c.in_ok-file.was g.met.R.TreeReader.follows_on (joined c.in_ok-from_.from_ c.in_ok-from_.was g.met.R.TreeReader.follows_on c.directory_of.ensures.works_out c.entry.ensures.works_out) c.directory_of-2.ensures.works_out) (λ T is. rw (c.in_ok-source.ensures, c.in_ok-target.ensures, is.0.0, is.0.1, is.1) refl) }

pub returns-then-eq : goal.returns-then-eq
unfolding rename_draft
returns-then-eq g c = record {
  works_out = ends_ok c.in_ok-to_.to_ c.new-then-eq.result c.in_ok-to_.was refl (joined c.in_ok-file.file c.in_ok-file.was g.met.R.TreeReader.follows_on (joined c.in_ok-from_.from_ c.in_ok-from_.was g.met.R.TreeReader.follows_on c.directory_of.ensures.works_out c.entry.ensures.works_out) c.directory_of-2.ensures.works_out)
      (λ T is. rw (c.in_ok-source.ensures, c.in_ok-target.ensures, is.0.0, is.0.1, is.1, sym c.if-eq.ensures) (ap Ok (sym c.new-then-eq.ensures.items)));
}

pub returns : goal.returns
unfolding rename_draft
returns g c = record {
  works_out = ends (joined c.in_ok-to_.to_ c.in_ok-to_.was g.met.R.TreeReader.follows_on (joined c.in_ok-file.file c.in_ok-file.was g.met.R.TreeReader.follows_on (joined c.in_ok-from_.from_ c.in_ok-from_.was g.met.R.TreeReader.follows_on c.directory_of.ensures.works_out c.entry.ensures.works_out) c.directory_of-2.ensures.works_out) c.moved.ensures.works_out)
      (λ T b is. rw (c.in_ok-source.ensures, c.in_ok-target.ensures, is.0.0.0, is.0.0.1, is.0.1, sym c.if-eq.ensures) is.1) (λ T e is. rw (c.in_ok-source.ensures, c.in_ok-target.ensures, is.0.0.0, is.0.0.1, is.0.1, sym c.if-eq.ensures) is.1);
}
