use Rattle.std.proofs.Common.{◌≡◌, Some, sym, ◌∙◌, ap}
use Rattle.su_stored_desk.proofs.ByNumber.{blocker_kept}
use Rattle.su_stored_desk.proofs.desks.Desk.blocker.Goals as goal
use Rattle.su_desk.specs.Trial.{tree_of}
use Rattle.su_stored_desk.specs.Right.{state_of}
use Rattle.su_stored_desk.proofs.TrialLemmas.{refused_by}
use Rattle.su_stored_desk.proofs.Rightness.{kept_of}
use Rattle.su_desk.specs.Answer.{live_refusal}

pub returns-in_err-check_live-clause-refused : goal.returns-in_err-check_live-clause-refused
returns-in_err-check_live-clause-refused g c right =
    let s = c.args.self.now in
    refused_by (λ e. live_refusal s.entries.items c.args.number ≡ Some e) c.from_residual.result c.in_err-check_live.field-0.0 c.from_residual.ensures.1
    (ap (λ h. live_refusal h c.args.number) (sym c.deref.ensures.value) ∙ c.in_err-check_live.ensures.refused s.roster (kept_of s _ right c.deref.ensures.value))

pub returns-clause-value : goal.returns-clause-value
returns-clause-value g c right =
    let s = c.args.self.now in
    c.blocker.ensures ∙ blocker_kept s.roster s.entries.items s.kept (tree_of (state_of s)) c.args.number right.keeps c.in_ok-check_live.ensures.kept

pub returns-clause-live : goal.returns-clause-live
returns-clause-live g c right =
    let s = c.args.self.now in
    ap (λ h. live_refusal h c.args.number) (sym c.deref.ensures.value) ∙ c.in_ok-check_live.ensures.live s.roster (kept_of s _ right c.deref.ensures.value)
