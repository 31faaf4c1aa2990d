use Rattle.std.proofs.Common.{◌∙◌, ap, sym, refl, [], get_or}
use Rattle.su_bytes.specs.Principal.{is_group}
use Rattle.su_bytes.specs.Place.{Place}
use Rattle.su_bytes.specs.declared.file_ids.FileId.TheVariants.{Group}
use Rattle.su_table.specs.Free.{has_none}
use Rattle.su_table.specs.Query.{is_nothing, is_pointer_free}
use Rattle.su_table.proofs.Fronts.{least_alike}
use Rattle.su_table.proofs.KeptTables.{kept_lacks, number_within, group_is}
use Rattle.su_table.proofs.Stores.{val-Pointer, is_nothing-place_value}
use Rattle.su_table.proofs.forests.Forest.free_group_number.Goals as goal

pub free_number-requires : goal.free_number-requires
free_number-requires c = number_within (λ (p : Place). p) is_group c.self.inside.pointers.entries c.self.inside.bodies c.number.result (c.args.group, 0) c.self.invariant.1 c.number.ensures.value (group_is _ _ c.number.ensures.value c.number.ensures.range)

pub returns : goal.returns
returns c =
    let es = c.self.inside.pointers.entries in
    least_alike (has_none (get_or c.self.inside.bodies c.number.result [])) (λ k. is_pointer_free c.args.self.now (Group c.args.group k)) c.args.from_ (λ k.
    kept_lacks (λ (p : Place). p) is_group es c.self.inside.bodies c.number.result (c.args.group, k) c.self.invariant.1 c.number.ensures.value (group_is _ _ c.number.ensures.value c.number.ensures.range)
    ∙ sym (is_nothing-place_value _) ∙ sym (ap is_nothing (val-Pointer _ es c.args.self.now c.self.view_is (c.args.group, k) _ refl)))
    c.free_number.result c.free_number.ensures
