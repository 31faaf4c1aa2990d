use Rattle.std.proofs.Common.{◌∙◌, ap, rules, subst, sym}
use Rattle.std.proofs.lemmas.Result.{err_from_is_err_and}
use Rattle.su_op.specs.Area.{has}
use Rattle.su_part_forest.specs.Forest.{Stands}
use Rattle.su_perform.specs.Loaded.{HasAreas}
use Rattle.su_stored_forest.proofs.stored.StoredForest.undo.Goals as goal

pub returns-in_err-undo_on-clause-err : goal.returns-in_err-undo_on-clause-err
returns-in_err-undo_on-clause-err g c F T shown put =
    let still = c.load.ensures.finds.still F shown in
    let here = subst (HasAreas F c.load.new.self.forest) (c.as_slice.ensures.value ∙ c.in_ok-areas.ensures.value) (c.in_ok-load.ensures.finds.answer F shown) in
    let p = err_from_is_err_and c.from_residual-in_err-undo_on.result c.from_residual-in_err-undo_on.ensures.1 in
    rw p.1
    (record {
      stands = c.in_err-undo_on.ensures.err F T still.stands here put;
      free = still.free;
      taken = record { users = still.taken.users; groups = still.taken.groups };
    })

pub returns-in_err-undo_on-clause-refused : goal.returns-in_err-undo_on-clause-refused
returns-in_err-undo_on-clause-refused g c F T shown put =
    let still = c.load.ensures.finds.still F shown in
    let here = subst (HasAreas F c.load.new.self.forest) (c.as_slice.ensures.value ∙ c.in_ok-areas.ensures.value) (c.in_ok-load.ensures.finds.answer F shown) in
    let p = err_from_is_err_and c.from_residual-in_err-undo_on.result c.from_residual-in_err-undo_on.ensures.1 in
    rw (p.1, p.2, c.in_err-undo_on.ensures.loaded F T still.stands here put) (search rules, λ fails. absurd cc)

pub returns-clause-done : goal.returns-clause-done
returns-clause-done g c F T shown put =
    let still = c.load.ensures.finds.still F shown in
    let here = subst (HasAreas F c.load.new.self.forest) (c.as_slice.ensures.value ∙ c.in_ok-areas.ensures.value) (c.in_ok-load.ensures.finds.answer F shown) in
    let whole = c.as_slice-2.ensures.value ∙ c.in_ok-areas.ensures.value in
    record {
      stands = subst (λ f. Stands f T) (sym c.note_freed.ensures.forest) (c.in_ok-undo_on.ensures.ok F T still.stands here put);
      taken = c.note_freed.ensures.taken F T (record { users = still.taken.users; groups = still.taken.groups }) (λ x out. sym (put.others x (sym (ap (λ w. has w x) whole) ∙ out)));
    }
