use Rattle.std.proofs.Common.{◌∙◌, ◌++◌, ◌∷◌, [], sym, ap, arith}
use Rattle.su_threads.specs.Runs.{RanSo}
use Rattle.su_threads.proofs.Placing.{next_place, all_of-map}
use Rattle.su_threads.proofs.places.in_order.Goals as goal

pub loop-index-preserved : goal.loop-index-preserved
loop-index-preserved g c =
    let at = c.index-report.ensures in
    let (numbers, served) = next_place (λ r. r.number) (λ r. r.served) c.args.reports.now.items c.index-report.result.now c.loop-index.index c.loop-index.all.items c.push.new.self.items (omega (arith, c.loop-index-test.true, c.len-index-end.ensures, c.args.reports.now.ok.0)) (c.loop-index.invariant.0, c.loop-index.invariant.1) (ap (λ r. r.number) (sym at) ∙ c.if-report-index.false) (c.in-Ok.ensures.items ∙ ap (λ r. c.loop-index.all.items ++ r.served ∷ []) at) in
    (numbers, served, omega (arith, c.in-Ok.ensures.len, c.loop-index.invariant.2))

pub returns-clause-ran : goal.returns-clause-ran
returns-clause-ran g c = rw c.loop-index.invariant.1 (all_of-map (λ served. ∥ RanSo (g.L.Link.runs g.S.Service.answers) served ∥₁) (λ r. r.served) _ (λ r. r.ran))
