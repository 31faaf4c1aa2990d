use Rattle.std.proofs.Common.{◌∙◌, ◌<◌, ◌≤◌, OnOk, refl, sym, ap, subst, arith}
use Rattle.su_table.specs.Edit.{edit}
use Rattle.su_inverse.specs.Kept.{size_edit}
use Rattle.su_table.specs.Query.{size_at}
use Rattle.su_part_forest.specs.Forest.{Stands}
use Rattle.su_part_forest.specs.Known.{Knows, StaysKnown}
use Rattle.su_part.specs.declared.fetches.Wanted.TheVariants.{Write}
use Rattle.su_part_forest.proofs.EditLifting.{kept_beside_itself, small_inum}
use Rattle.su_part_forest.proofs.Lifting.{on_ok}
use Rattle.su_part_inverse.specs.Ready.{KnowsEnd}
use Rattle.su_part_inverse.proofs.Reading.{open_has}
use Rattle.su_part_inverse.proofs.Rolling.{grown_is, grown_not}
use Rattle.su_part_inverse.proofs.Using.{grown_end_ok, size_known}
use Rattle.su_part_inverse.proofs.contents.grow.Goals as goal

pub returns-then-size-kept-clause-ok : goal.returns-then-size-kept-clause-ok
returns-then-size-kept-clause-ok c F h known =
    let k = c.args.kept.now in
    let small = small_inum c.number-number.result k.place.1 c.number-number.ensures.range.1 c.number-number.ensures.value in
    let is = c.size.ensures (F, h) ∙ size_known F c.args.forest.now h k.place (known small) in
    let less : size_at F k.place < k.size = omega (arith, is, c.if-size-kept.true) in
    on_ok c.grow.result (λ s. subst (Stands c.grow.new.self) (sym (grown_is F k less)) s) (c.grow.ensures.ok F h (omega (arith, less)))

pub returns-then-size-kept-clause-known : goal.returns-then-size-kept-clause-known
returns-then-size-kept-clause-known c F h known =
    let k = c.args.kept.now in
    let f = c.args.forest.now in
    let small = small_inum c.number-number.result k.place.1 c.number-number.ensures.range.1 c.number-number.ensures.value in
    let is = c.size.ensures (F, h) ∙ size_known F f h k.place (known small) in
    let less : size_at F k.place < k.size = omega (arith, is, c.if-size-kept.true) in
    on_ok c.grow.result (λ s. subst (λ V. StaysKnown F V f c.grow.new.self) (sym (grown_is F k less)) s) (c.grow.ensures.known F h (omega (arith, less)))

pub returns-then-size-kept-clause-cuts : goal.returns-then-size-kept-clause-cuts
returns-then-size-kept-clause-cuts c F h known longer =
    let k = c.args.kept.now in
    let f = c.args.forest.now in
    let g = c.grow.new.self in
    let small = small_inum c.number-number.result k.place.1 c.number-number.ensures.range.1 c.number-number.ensures.value in
    let is = c.size.ensures (F, h) ∙ size_known F f h k.place (known small) in
    let less : size_at F k.place < k.size = omega (arith, is, c.if-size-kept.true) in
    let le : size_at F k.place ≤ k.size = omega (arith, less) in
    let new = grown_is F k less in
    subst (λ V. OnOk c.grow.result (KnowsEnd V g k.place (size_at F k.place))) (sym new)
    (grown_end_ok c.grow.result F (edit F (size_edit F k.place k.size)) f g h (c.grow.ensures.ok F h le) k.place (known small) (c.grow.ensures.known F h le) (c.grow.ensures.cuts F h le) (subst (λ V. size_at F k.place < size_at V k.place) new longer))

pub returns-else-size-kept-clause-ok : goal.returns-else-size-kept-clause-ok
returns-else-size-kept-clause-ok c F h known =
    let k = c.args.kept.now in
    let small = small_inum c.number-number.result k.place.1 c.number-number.ensures.range.1 c.number-number.ensures.value in
    let is = c.size.ensures (F, h) ∙ size_known F c.args.forest.now h k.place (known small) in
    subst (Stands c.args.forest.now) (sym (grown_not F k (omega (arith, is, c.if-size-kept.false)))) h

pub returns-else-size-kept-clause-known : goal.returns-else-size-kept-clause-known
returns-else-size-kept-clause-known c F h known w x =
    let k = c.args.kept.now in
    let small = small_inum c.number-number.result k.place.1 c.number-number.ensures.range.1 c.number-number.ensures.value in
    let is = c.size.ensures (F, h) ∙ size_known F c.args.forest.now h k.place (known small) in
    subst (λ V. Knows V w c.args.forest.now) (sym (grown_not F k (omega (arith, is, c.if-size-kept.false)))) x

pub returns-else-size-kept-clause-cuts : goal.returns-else-size-kept-clause-cuts
returns-else-size-kept-clause-cuts c F h known longer =
    let k = c.args.kept.now in
    let small = small_inum c.number-number.result k.place.1 c.number-number.ensures.range.1 c.number-number.ensures.value in
    let is = c.size.ensures (F, h) ∙ size_known F c.args.forest.now h k.place (known small) in
    let same = ap (λ V. size_at V k.place) (grown_not F k (omega (arith, is, c.if-size-kept.false))) in
    absurd (omega (arith, longer, same))

pub returns-then-size-kept-clause-loaded : goal.returns-then-size-kept-clause-loaded
returns-then-size-kept-clause-loaded c F h known opens =
    let k = c.args.kept.now in
    let f = c.args.forest.now in
    let small = small_inum c.number-number.result k.place.1 c.number-number.ensures.range.1 c.number-number.ensures.value in
    let is = c.size.ensures (F, h) ∙ size_known F f h k.place (known small) in
    let less : size_at F k.place < k.size = omega (arith, is, c.if-size-kept.true) in
    c.grow.ensures.loaded F h (open_has f F h k.place (Write k.size 0) (opens refl (omega (arith, c.size_range-size.type_inv, c.size_range-size.ensures)) less))

pub returns-else-size-kept-clause-beside : goal.returns-else-size-kept-clause-beside
returns-else-size-kept-clause-beside c = kept_beside_itself c.args.forest.now c.args.kept.now.place
