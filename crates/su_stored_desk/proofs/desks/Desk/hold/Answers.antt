use Rattle.std.proofs.Common.{◌≡◌, ◌∙◌, ⊎_elim, inl, inr, true, subst, IfOk, List}
use Rattle.su_table.specs.Cell.{Cell}
use Rattle.su_op.specs.declared.areas.Area.{Area}
use Rattle.su_op.specs.Area.{has}
use Rattle.su_part_inverse.specs.Kept.{inverse_areas}
use Rattle.su_desk.specs.Applied.{written_by}
use Rattle.su_stored_desk.proofs.desks.Desk.hold.Goals as goal
use Rattle.su_desk.specs.Trial.{tree_of}
use Rattle.su_stored_desk.specs.Right.{state_of}
use Rattle.su_stored_desk.proofs.TrialLemmas.{refused_by}
use Rattle.su_stored_desk.proofs.Rightness.{asked_sure, no_failure, shows}

pub returns-in_err-written-clause-refused : goal.returns-in_err-written-clause-refused
returns-in_err-written-clause-refused g c sure =
    let x = c.in_err-written.field-0.0 in
    refused_by _ c.from_residual.result x c.from_residual.ensures.1
    (⊎_elim (λ none. inl (inr (inr (inr (inl none))), λ it. no_failure x none it)) (λ refused. inr refused) (c.in_err-written.ensures.refused sure.right))

pub returns-clause-covers : goal.returns-clause-covers
returns-clause-covers g c sure =
    let s = c.args.self.now in
    let written : c.as_slice.result.now ≡ written_by s.roster s.entries.items c.args.number = c.as_slice.ensures.value ∙ c.in_ok-written.ensures.written sure.right in
    subst (λ (w : List Area). IfOk c.keep_whole.result (λ held. (x : Cell) → has w x ≡ true → has (inverse_areas held) x ≡ true)) written c.keep_whole.ensures.covers

pub returns-clause-sure : goal.returns-clause-sure
returns-clause-sure g c sure =
    let s = c.args.self.now in
    asked_sure _ s _ sure (c.keep_whole.ensures.finds.still (tree_of (state_of s)) (shows _ s sure))
