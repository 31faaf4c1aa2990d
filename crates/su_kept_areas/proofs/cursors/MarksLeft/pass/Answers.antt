use Rattle.std.proofs.Common.{◌≡◌, ◌+◌, ◌<◌, length, arith}
use Rattle.std.proofs.lemmas.Bool.Decides.{nat_tests}
use Rattle.su_kept_areas.specs.Lent.{area_of}
use Rattle.su_kept_areas.specs.Marks.{marks}
use Rattle.su_kept_areas.proofs.CursorLemmas.{begins, next_is, last_is, over_next, over_same}
use Rattle.su_kept_areas.proofs.cursors.MarksLeft.pass.Goals as goal

pub returns-then-next-count-clause-some : goal.returns-then-next-count-clause-some
returns-then-next-count-clause-some c =
    let some : 0 < length c.self.inside.left.now = grind (arith, nat_tests, c.if-is_empty.false, c.is_empty.ensures) in
    let b = begins c.self.inside.side c.self.inside.footprint.now c.self.inside.passed c.self.inside.left.now c.self.inside.index (area_of c.split_first-area.result.0) c.split_first-area.result.1.now c.self.invariant (record { told = c.split_first-area.ensures.value }) some in
    next_is _ _ _ _ _ _ b c.args.self.now c.mark-mark.result c.self.view_is c.mark-mark.ensures

pub returns-else-next-count-clause-some : goal.returns-else-next-count-clause-some
returns-else-next-count-clause-some c =
    let some : 0 < length c.self.inside.left.now = grind (arith, nat_tests, c.if-is_empty.false, c.is_empty.ensures) in
    let b = begins c.self.inside.side c.self.inside.footprint.now c.self.inside.passed c.self.inside.left.now c.self.inside.index (area_of c.split_first-area.result.0) c.split_first-area.result.1.now c.self.invariant (record { told = c.split_first-area.ensures.value }) some in
    let last : c.self.inside.index + 1 ≡ length (marks c.self.inside.side (area_of c.split_first-area.result.0)) = omega (arith, b.within, c.mark_count-count.ensures.value) in
    last_is _ _ _ _ _ _ b c.args.self.now c.mark-mark.result c.self.view_is c.mark-mark.ensures last

pub invariant_of-self-else-next-count : goal.invariant_of-self-else-next-count
invariant_of-self-else-next-count c =
    let some : 0 < length c.self.inside.left.now = grind (arith, nat_tests, c.if-is_empty.false, c.is_empty.ensures) in
    let b = begins c.self.inside.side c.self.inside.footprint.now c.self.inside.passed c.self.inside.left.now c.self.inside.index (area_of c.split_first-area.result.0) c.split_first-area.result.1.now c.self.invariant (record { told = c.split_first-area.ensures.value }) some in
    over_next _ _ _ _ _ _ b c.self.inside.left.now c.self.invariant c.split_first-area.ensures.shorter

pub mark-mark-requires : goal.mark-mark-requires
mark-mark-requires c =
    let some : 0 < length c.self.inside.left.now = grind (arith, nat_tests, c.if-is_empty.false, c.is_empty.ensures) in
    let b = begins c.self.inside.side c.self.inside.footprint.now c.self.inside.passed c.self.inside.left.now c.self.inside.index (area_of c.split_first-area.result.0) c.split_first-area.result.1.now c.self.invariant (record { told = c.split_first-area.ensures.value }) some in
    b.within

pub overflow_add-next : goal.overflow_add-next
overflow_add-next c =
    let some : 0 < length c.self.inside.left.now = grind (arith, nat_tests, c.if-is_empty.false, c.is_empty.ensures) in
    let b = begins c.self.inside.side c.self.inside.footprint.now c.self.inside.passed c.self.inside.left.now c.self.inside.index (area_of c.split_first-area.result.0) c.split_first-area.result.1.now c.self.invariant (record { told = c.split_first-area.ensures.value }) some in
    omega (arith, b.within, c.mark_count-count.ensures.value, c.mark_count-count.type_inv)

pub invariant_of-self : goal.invariant_of-self
invariant_of-self c =
    let some : 0 < length c.self.inside.left.now = grind (arith, nat_tests, c.if-is_empty.false, c.is_empty.ensures) in
    let b = begins c.self.inside.side c.self.inside.footprint.now c.self.inside.passed c.self.inside.left.now c.self.inside.index (area_of c.split_first-area.result.0) c.split_first-area.result.1.now c.self.invariant (record { told = c.split_first-area.ensures.value }) some in
    let next : c.self.inside.index + 1 < length (marks c.self.inside.side (area_of c.split_first-area.result.0)) = grind (arith, nat_tests, c.if-next-count.true, c.mark_count-count.ensures.value) in
    over_same _ _ _ _ _ _ b c.self.inside.left.now c.self.invariant next
