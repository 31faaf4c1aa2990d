use Rattle.std.proofs.Common.{◌≡◌, ◌∙◌, false, true, refl, sym, ap}
use Rattle.su_node.specs.Field.{Field.NameOf}
use Rattle.su_table.specs.Cell.{Cell.At, val}
use Rattle.su_part_inverse.proofs.Reading.{open_name}
use Rattle.su_part_inverse.proofs.inverses.keep_name.Goals as goal

pub returns-then-not-has_name-clause-loaded : goal.returns-then-not-has_name-clause-loaded
returns-then-not-has_name-clause-loaded c T h has =
    absurd (let z : false ≡ true = c.if-not-has_name.ensures.told T h (open_name c.args.forest.now T h c.args.place.now c.args.name.now has) in cc)

pub returns-in_ok-clone-in-Some-clause-holds : goal.returns-in_ok-clone-in-Some-clause-holds
returns-in_ok-clone-in-Some-clause-holds c T h =
    ap (λ x. val T (At c.args.place.now (NameOf x))) c.in_ok-clone-in-Some.ensures.cases
    ∙ sym (c.in-Some.ensures T h (c.if-not-has_name.ensures.found refl))

pub returns-in_ok-clone-in-None-clause-holds : goal.returns-in_ok-clone-in-None-clause-holds
returns-in_ok-clone-in-None-clause-holds c T h =
    ap (λ x. val T (At c.args.place.now (NameOf x))) c.in_ok-clone-in-None.ensures.cases
    ∙ sym (c.in-None.ensures T h (c.if-not-has_name.ensures.found refl))
