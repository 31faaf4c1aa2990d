use Rattle.std.proofs.Common.{◌∷◌, inr, refl, rules, arith}
use Rattle.su_change.specs.Operation.{op_kinds}
use Rattle.su_change.proofs.KindLemmas.{HasNoKind, no_kind_fails}
use Rattle.su_change.proofs.operation.read_fields.Goals as goal

pub returns-in_default : goal.returns-in_default
returns-in_default c =
    let none : HasNoKind op_kinds c.args.number = search rules in
    inr (
      c.args.place,
      refl,
      record {
        behind = c.args.number ∷ c.args.reader.now.left;
        fails = no_kind_fails op_kinds c.args.number none c.args.reader.now.left;
        place_is = omega (arith, c.requires);
      },
    )
