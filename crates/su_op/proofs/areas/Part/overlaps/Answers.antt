use Rattle.std.proofs.Common.{◌∙◌, sym, ap}
use Rattle.su_op.specs.declared.areas.Part.TheVariants.{Name as NamePart}
use Rattle.su_op.specs.Area.{parts_overlap}
use Rattle.su_op.proofs.KeyLemmas.{name_eq-derived}
use Rattle.su_op.proofs.areas.Part.overlaps.Goals as goal

pub returns-in-Name-Name : goal.returns-in-Name-Name
returns-in-Name-Name c =
    c.eq.ensures ∙ name_eq-derived c.in-Name-Name.name c.in-Name-Name.other
    ∙ sym (ap (parts_overlap c.args.self.now) c.in-Name-Name.is-1 ∙ ap (λ a. parts_overlap a (NamePart c.in-Name-Name.other)) c.in-Name-Name.is-0)
