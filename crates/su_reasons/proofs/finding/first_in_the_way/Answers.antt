use Rattle.std.proofs.Common.{◌≡◌, ◌∙◌, Some, arith, refl, sym}
use Rattle.su_desk.specs.Answer.{live_refusal}
use Rattle.su_desk.specs.Blocker.{blocker}
use Rattle.su_desk.specs.Trial.{tree_of}
use Rattle.su_reasons.proofs.Ways.{reached_more, reached_refused, reader_later, refused_by}
use Rattle.su_reasons.proofs.finding.first_in_the_way.Goals as goal

pub returns-in_err-blocker-clause-refused : goal.returns-in_err-blocker-clause-refused
returns-in_err-blocker-clause-refused g c clear =
    let d = c.args.desk.now.state.settled in
    let e = c.in_err-blocker.field-0.0 in
    refused_by (λ e. live_refusal d.history c.args.number ≡ Some e) c.from_residual.result e c.from_residual.ensures.1
    (reached_refused d.roster d.history (tree_of d) (c.history-history.ensures.headline clear) c.args.number c.loop-blocker.first c.loop-blocker.at e (c.loop-blocker.invariant clear)
    (c.in_err-blocker.ensures.refused clear))

-- what blocks an operation comes later
pub returns-then-blocker-at-clause-refused : goal.returns-then-blocker-at-clause-refused
returns-then-blocker-at-clause-refused g c clear =
    let d = c.args.desk.now.state.settled in
    let is : blocker d.roster d.history c.loop-blocker.at ≡ Some c.in-Some.blocker = sym (c.in_ok-blocker.ensures.value clear) ∙ c.in-Some.is in
    let later = reader_later d.roster d.history c.loop-blocker.at c.in-Some.blocker (((c.history-history.ensures.headline clear).named c.loop-blocker.at c.in-Some.blocker).0 is) in
    absurd (omega (arith, later.0))

pub loop-blocker-preserved : goal.loop-blocker-preserved
loop-blocker-preserved g c clear =
    let d = c.args.desk.now.state.settled in
    let is : blocker d.roster d.history c.loop-blocker.at ≡ Some c.in-Some.blocker = sym (c.in_ok-blocker.ensures.value clear) ∙ c.in-Some.is in (
      refl,
      reached_more d.roster d.history c.args.number c.loop-blocker.first c.loop-blocker.at c.in-Some.blocker (c.loop-blocker.invariant clear)
          (((c.history-history.ensures.headline clear).named c.loop-blocker.at c.in-Some.blocker).0 is),
    )
