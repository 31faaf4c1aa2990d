use Rattle.std.proofs.Common.{◌≡◌, ◌∙◌, inr, List, IfOk, sym, ap, subst}
use Rattle.su_op.specs.declared.areas.Area.{Area}
use Rattle.su_desk.specs.Answer.{undo_refusal}
use Rattle.su_desk.specs.Trial.{tree_of}
use Rattle.su_live.proofs.Public.{not_missing}
use Rattle.su_stored_desk.specs.Right.{state_of}
use Rattle.su_stored_desk.proofs.Replies.{found, undone_written}
use Rattle.su_stored_desk.proofs.Rightness.{kept_of}
use Rattle.su_stored_desk.proofs.TrialLemmas.{on_ok, refused_by}
use Rattle.su_stored_desk.proofs.desks.Desk.undoes.Goals as goal

pub returns-in_err-check_undo-clause-refused : goal.returns-in_err-check_undo-clause-refused
returns-in_err-check_undo-clause-refused g c right =
    let s = c.args.self.now in
    refused_by _ c.from_residual.result c.in_err-check_undo.field-0.0 c.from_residual.ensures.1
    (inr (ap (λ h. undo_refusal s.roster h c.args.author c.args.number) (sym c.deref.ensures.value) ∙ c.in_err-check_undo.ensures.refused (kept_of s _ right c.deref.ensures.value)))

pub unreachable-requires : goal.unreachable-requires
unreachable-requires g c = not_missing c.args.number c.args.self.now.kept c.in_ok-check_undo.ensures.kept (sym c.in_default.ensures)

pub returns-clause-kept : goal.returns-clause-kept
returns-clause-kept g c = on_ok c.writes.result c.in_ok-check_undo.ensures.kept

pub returns-clause-accepted : goal.returns-clause-accepted
returns-clause-accepted g c right =
    let s = c.args.self.now in
    on_ok c.writes.result
    (ap (λ h. undo_refusal s.roster h c.args.author c.args.number) (sym c.deref.ensures.value) ∙ c.in_ok-check_undo.ensures.accepted (kept_of s _ right c.deref.ensures.value))

pub returns-clause-written : goal.returns-clause-written
returns-clause-written g c right =
    let s = c.args.self.now in
    let T = tree_of (state_of s) in
    let k = c.in-Some.operation.now in
    subst (λ (w : List Area). IfOk c.writes.result (λ areas. areas.items ≡ w))
    (undone_written s.roster s.entries.items s.kept k c.args.number T (found s.roster s.entries.items s.kept k c.args.number T right.keeps (sym c.in-Some.ensures)))
    c.writes.ensures.value
