use Rattle.std.proofs.Common.{sym, ap, ◌∙◌, arith}
use Rattle.su_vector.specs.Vector.{number_of}
use Rattle.su_view.proofs.ShownLemmas.{compared}
use Rattle.su_view.proofs.last_commits.is_not_behind.Goals as goal

pub returns-clause-value : goal.returns-clause-value
returns-clause-value c =
    let ro = c.args.roster.now in
    let u = c.args.user in
    let shown = ap (λ v. number_of ro v u) (sym (c.vector.ensures ∙ ap (λ v. v.vector) c.version.ensures.value)) ∙ sym c.number_of.ensures ∙ c.in-Some.is in
    let held = ap (λ v. number_of ro v u) (sym (c.vector-2.ensures ∙ ap (λ v. v.vector) c.version-2.ensures.value)) ∙ sym c.number_of-2.ensures ∙ c.in-Some-number_of.is in
    compared ro u c.in-Some.number c.in-Some-number_of.held c.args.last.now c.args.commit.now c.version-2.ensures.commit c.version.ensures.commit shown held (grind (arith, c.if-held-number.false))
    c.as_slice.result.now c.as_slice-2.result.now (c.as_slice.ensures.value ∙ c.in_ok-bytes.ensures.value) (c.as_slice-2.ensures.value ∙ c.in_ok-last_bytes.ensures.value) c.eq.result c.eq.ensures
