use Rattle.std.proofs.Common.{◌∙◌, ap, sym, refl, Some, None, get_or, []}
use Rattle.std.specs.FinMap.{FinMap, from_entries}
use Rattle.std.specs.FinMap.Entries.{find}
use Rattle.std.specs.Ordering.{nat_cmp}
use Rattle.su_bytes.specs.Place.{Place, place_cmp}
use Rattle.su_bytes.specs.Principal.{is_group}
use Rattle.su_table.specs.Query.{is_nothing}
use Rattle.su_table.proofs.KeptTables.{group_is, kept_absent, kept_put, kept_same, number_within, put_and_taken}
use Rattle.su_table.proofs.Stores.{edit-Pointers, val-Pointer, OnErr-always}
use Rattle.su_table.proofs.forests.Forest.put_pointer.Goals as goal

pub put-requires : goal.put-requires
put-requires c = number_within (λ (p : Place). p) is_group c.self.inside.pointers.entries c.self.inside.bodies c.number.result c.args.file c.self.invariant.1 c.number.ensures.value (group_is _ _ c.number.ensures.value c.number.ensures.range)

pub invariant_of-self-in_default : goal.invariant_of-self-in_default
invariant_of-self-in_default c = (
  c.self.invariant.0,
  kept_put (λ (p : Place). p) is_group c.self.inside.pointers.entries c.insert.new.self.entries c.self.inside.bodies c.put.new.self c.number.result c.args.file c.args.place c.args.place c.self.invariant.1 c.number.ensures.value
      (group_is _ _ c.number.ensures.value c.number.ensures.range) c.in_ok-insert.ensures.updates.0 refl c.in_default.ensures.ok,
)

-- the file had no pointer, and the one that it got was taken away again
pub invariant_of-self-in-Err : goal.invariant_of-self-in-Err
invariant_of-self-in-Err c =
    let es = c.self.inside.pointers.entries in
    let is = group_is _ _ c.number.ensures.value c.number.ensures.range in
    let none = kept_absent (λ (p : Place). p) is_group es c.self.inside.bodies c.args.file c.self.invariant.1 is
    (ap (λ g. find nat_cmp c.args.file.1 (get_or c.self.inside.bodies g [])) (sym c.number.ensures.value) ∙ c.in-Err.ensures.absent) in
    let same = put_and_taken es c.insert.new.self.entries c.remove.new.self.entries c.args.file c.args.place none c.in_ok-insert.ensures.updates.0 c.remove.ensures.updates.0 in
    (c.self.invariant.0, kept_same (λ (p : Place). p) is_group es c.remove.new.self.entries c.self.inside.bodies c.put.new.self c.self.invariant.1 same c.in-Err.ensures.err)

pub returns-in-Err-clause-err : goal.returns-in-Err-clause-err
returns-in-Err-clause-err c =
    let es = c.self.inside.pointers.entries in
    let is = group_is _ _ c.number.ensures.value c.number.ensures.range in
    let none = kept_absent (λ (p : Place). p) is_group es c.self.inside.bodies c.args.file c.self.invariant.1 is
    (ap (λ g. find nat_cmp c.args.file.1 (get_or c.self.inside.bodies g [])) (sym c.number.ensures.value) ∙ c.in-Err.ensures.absent) in
    let same = put_and_taken es c.insert.new.self.entries c.remove.new.self.entries c.args.file c.args.place none c.in_ok-insert.ensures.updates.0 c.remove.ensures.updates.0 in
    ap (λ (m : FinMap place_cmp Place). record { inodes = from_entries c.self.inside.inodes.entries; pointers = m }) same ∙ c.self.view_is

pub returns-in-Err-clause-absent : goal.returns-in-Err-clause-absent
returns-in-Err-clause-absent c =
    let es = c.self.inside.pointers.entries in
    let is = group_is _ _ c.number.ensures.value c.number.ensures.range in
    let none = kept_absent (λ (p : Place). p) is_group es c.self.inside.bodies c.args.file c.self.invariant.1 is
    (ap (λ g. find nat_cmp c.args.file.1 (get_or c.self.inside.bodies g [])) (sym c.number.ensures.value) ∙ c.in-Err.ensures.absent) in
    ap is_nothing (val-Pointer _ es c.args.self.now c.self.view_is c.args.file None (sym none))

pub returns-clause-ok : goal.returns-clause-ok
returns-clause-ok c = edit-Pointers _ c.self.inside.pointers.entries _ _ c.self.view_is c.args.file (Some c.args.place) c.in_ok-insert.ensures.updates.0

pub returns-in_err-insert-clause-absent : goal.returns-in_err-insert-clause-absent
returns-in_err-insert-clause-absent c = OnErr-always c.from_residual.result
    (ap is_nothing (val-Pointer _ c.self.inside.pointers.entries c.args.self.now c.self.view_is c.args.file _ (sym c.in_err-insert.ensures.absent)))
