use Rattle.std.proofs.Common.{None}
use Rattle.su_bytes.specs.Place.{Place}
use Rattle.su_bytes.specs.Principal.{is_group}
use Rattle.su_table.proofs.KeptTables.{group_is, kept_taken, number_within}
use Rattle.su_table.proofs.Stores.{edit-Pointers}
use Rattle.su_table.proofs.forests.Forest.remove_pointer.Goals as goal

pub returns : goal.returns
returns c = edit-Pointers _ c.self.inside.pointers.entries _ _ c.self.view_is c.args.file None c.remove.ensures.updates.0

pub remove-requires-2 : goal.remove-requires-2
remove-requires-2 c = number_within (λ (p : Place). p) is_group c.self.inside.pointers.entries c.self.inside.bodies c.number.result c.args.file c.self.invariant.1 c.number.ensures.value (group_is _ _ c.number.ensures.value c.number.ensures.range)

pub invariant_of-self : goal.invariant_of-self
invariant_of-self c = (
  c.self.invariant.0,
  kept_taken (λ (p : Place). p) is_group c.self.inside.pointers.entries c.remove.new.self.entries c.self.inside.bodies c.remove-2.new.self c.number.result c.args.file c.self.invariant.1 c.number.ensures.value
      (group_is _ _ c.number.ensures.value c.number.ensures.range) c.remove.ensures.updates.0 c.remove-2.ensures,
)
