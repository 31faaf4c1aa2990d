use Rattle.std.proofs.Common.{◌∙◌, sym, ap}
use Rattle.su_op.specs.declared.areas.Part.TheVariants.{Name as NamePart}
use Rattle.su_op.specs.Area.{parts_overlap}
use Rattle.su_kept_areas.specs.Lent.{part_of}
use Rattle.su_kept_areas.proofs.Tests.{name_eq-derived}
use Rattle.su_kept_areas.proofs.lent.LentPart.overlaps.Goals as goal

pub returns-in-Name-Name : goal.returns-in-Name-Name
returns-in-Name-Name c =
    c.eq.ensures ∙ name_eq-derived c.in-Name-Name.name.now c.in-Name-Name.other.now
    ∙ sym (ap (λ a. parts_overlap (part_of a) (part_of c.args.other.now)) c.in-Name-Name.is-0 ∙ ap (λ a. parts_overlap (NamePart c.in-Name-Name.name.now) (part_of a)) c.in-Name-Name.is-1)
