use Rattle.std.proofs.Common.{◌∙◌, ◌<◌, sym, subst, arith}
use Rattle.su_table.specs.Query.{size_at}
use Rattle.su_part_forest.specs.Forest.{Stands}
use Rattle.su_part_forest.specs.Known.{Knows, StaysKnown}
use Rattle.su_part_forest.proofs.EditLifting.{small_inum}
use Rattle.su_part_inverse.proofs.Rolling.{cut_is, cut_not}
use Rattle.su_part_inverse.proofs.Using.{end_cuts, size_known}
use Rattle.su_part_inverse.proofs.contents.cut.Goals as goal

pub returns-then-kept-size-clause-stands : goal.returns-then-kept-size-clause-stands
returns-then-kept-size-clause-stands c F h known ends =
    let k = c.args.kept.now in
    let f = c.args.forest.now in
    let small = small_inum c.number-number.result k.place.1 c.number-number.ensures.range.1 c.number-number.ensures.value in
    let is = c.size.ensures (F, h) ∙ size_known F f h k.place (known small) in
    let less : k.size < size_at F k.place = omega (arith, is, c.if-kept-size.true) in
    subst (Stands c.cut.new.self) (sym (cut_is F k less)) (c.cut.ensures.stands F h (end_cuts F f h k.place small k.size less (ends less)) (omega (arith, less)))

pub returns-then-kept-size-clause-known : goal.returns-then-kept-size-clause-known
returns-then-kept-size-clause-known c F h known ends =
    let k = c.args.kept.now in
    let f = c.args.forest.now in
    let small = small_inum c.number-number.result k.place.1 c.number-number.ensures.range.1 c.number-number.ensures.value in
    let is = c.size.ensures (F, h) ∙ size_known F f h k.place (known small) in
    let less : k.size < size_at F k.place = omega (arith, is, c.if-kept-size.true) in
    subst (λ V. StaysKnown F V f c.cut.new.self) (sym (cut_is F k less)) (c.cut.ensures.known F h (end_cuts F f h k.place small k.size less (ends less)) (omega (arith, less)))

pub returns-else-kept-size-clause-stands : goal.returns-else-kept-size-clause-stands
returns-else-kept-size-clause-stands c F h known ends =
    let k = c.args.kept.now in
    let small = small_inum c.number-number.result k.place.1 c.number-number.ensures.range.1 c.number-number.ensures.value in
    let is = c.size.ensures (F, h) ∙ size_known F c.args.forest.now h k.place (known small) in
    subst (Stands c.args.forest.now) (sym (cut_not F k (omega (arith, is, c.if-kept-size.false)))) h

pub returns-else-kept-size-clause-known : goal.returns-else-kept-size-clause-known
returns-else-kept-size-clause-known c F h known ends w x =
    let k = c.args.kept.now in
    let small = small_inum c.number-number.result k.place.1 c.number-number.ensures.range.1 c.number-number.ensures.value in
    let is = c.size.ensures (F, h) ∙ size_known F c.args.forest.now h k.place (known small) in
    subst (λ V. Knows V w c.args.forest.now) (sym (cut_not F k (omega (arith, is, c.if-kept-size.false)))) x
