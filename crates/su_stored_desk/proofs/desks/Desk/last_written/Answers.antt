use Rattle.std.proofs.Common.{◌≡◌, ◌∙◌, ◌-◌, Some, None, sym, ap, subst, length, slice_get}
use Rattle.std.specs.Option.{option_copied}
use Rattle.std.proofs.lemmas.Result.{IfOk-weaker}
use Rattle.su_stored_desk.specs.Tried.{TakesChangeBack}
use Rattle.su_stored_desk.proofs.TrialLemmas.{good_before, some_kept, last_cells, undone_cells}
use Rattle.su_stored_desk.proofs.desks.Desk.last_written.Goals as goal
use Rattle.su_desk.specs.Trial.{tree_of}
use Rattle.su_stored_desk.specs.Right.{state_of}

pub returns-in-Held-clause-value : goal.returns-in-Held-clause-value
returns-in-Held-clause-value g c right d e is back =
    let s = c.args.self.now in
    IfOk-weaker c.writes.result _ _
    (λ areas written.
    written ∙ undone_cells d e c.in-Held.undone (good_before s.roster s.entries.items s.kept (tree_of (state_of s)) d e is right.keeps) (subst (TakesChangeBack d e e.change) c.in-Held.is back.change))
    c.writes.ensures.value

pub returns-in-Some-clause-value : goal.returns-in-Some-clause-value
returns-in-Some-clause-value g c right d e is back =
    let s = c.args.self.now in
    let last : slice_get s.kept (length s.kept - 1) ≡ Some c.in-Some.operation.now
    = sym c.last.ensures ∙ ap option_copied c.in-Some.is in
    IfOk-weaker c.writes-in-Some.result _ _
    (λ areas written.
    written ∙ last_cells s.roster s.entries.items s.kept (tree_of (state_of s)) c.in-Some.operation.now d e is right.keeps (subst (TakesChangeBack d e e.change) c.in-Kept.is back.change) last)
    c.writes-in-Some.ensures.value

pub returns-in-None-clause-value : goal.returns-in-None-clause-value
returns-in-None-clause-value g c right d e is back =
    let s = c.args.self.now in
    let none : slice_get s.kept (length s.kept - 1) ≡ None
    = sym c.last.ensures ∙ ap option_copied c.in-None.is in
    some_kept s.roster s.entries.items s.kept (tree_of (state_of s)) d e is right.keeps (subst (TakesChangeBack d e e.change) c.in-Kept.is back.change) none
