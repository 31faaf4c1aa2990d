use Rattle.std.proofs.Common.{◌≡◌, ◌∙◌, ◌+◌, ◌*◌, ◌<◌, ◌≤◌, length, inl, inr, sym, subst, arith, OnOk}
use Rattle.std.specs.Prelude.{IsOk}
use Rattle.std.proofs.lemmas.Bool.Decides.{nat_tests}
use Rattle.std.proofs.lemmas.List.{nil_from_length}
use Rattle.su_node.specs.InodeChange.{InodeChange.Written}
use Rattle.su_table.specs.Edit.{Edit.Inodes, edit}
use Rattle.su_table.specs.Query.{size_at}
use Rattle.su_part.specs.declared.fetches.Wanted.TheVariants.{Write}
use Rattle.su_part_forest.specs.Forest.{Stands}
use Rattle.su_part_forest.specs.Known.{Knows, StaysKnown}
use Rattle.su_part_forest.specs.Loading.{HasAt}
use Rattle.su_part_forest.proofs.EditLifting.{small_inum}
use Rattle.su_inverse.specs.Kept.{blocks_edit}
use Rattle.su_undone.specs.Undone.{written_to}
use Rattle.su_undone.proofs.UndoneLemmas.{written_none, written_some}
use Rattle.su_part_inverse.proofs.Answering.{either_way, ok_of}
use Rattle.su_part_inverse.proofs.Moves.{written_same}
use Rattle.su_part_inverse.proofs.Rolling.{written_short}
use Rattle.su_part_inverse.proofs.Using.{run_writes, size_known}
use Rattle.su_part_inverse.proofs.contents.write.Goals.{else-not-is_empty-via-then-not-is_empty+else-end_-size, else-not-is_empty-via-else-not-is_empty}
use Rattle.su_part_inverse.proofs.contents.write.Goals as goal

pub returns-then-end_-size-clause-stands : goal.returns-then-end_-size-clause-stands
returns-then-end_-size-clause-stands c F T h r =
    let k = c.args.kept.now in
    let f = c.args.forest.now in
    let g = c.write_at-done.new.self in
    let small = small_inum c.number-number.result k.place.1 c.number-number.ensures.range.1 c.number-number.ensures.value in
    let same = c.size-size.ensures (F, h) ∙ size_known F f h k.place (r.known small) in
    let count : c.len.result ≡ length k.bytes.items = c.len.ensures ∙ k.bytes.ok.0 in
    let fits : 4096 * k.run.first + length k.bytes.items ≤ size_at F k.place = omega (arith, c.if-end_-size.true, same, count) in
    let some : 0 < length k.bytes.items = grind (arith, nat_tests, c.if-not-is_empty.ensures, k.bytes.ok.0) in
    let whole = c.as_slice.ensures.value in
    let new = written_some k F some fits in
    let ok = subst (λ xs. OnOk c.write_at-done.result (Stands g (edit F (Inodes k.place (Written (size_at F k.place) (4096 * k.run.first) xs))))) whole (c.write_at-done.ensures.ok F h) in
    elim r.blocks [
      | inl bytes ↦ either_way (Stands g) c.write_at-done.result (edit F (blocks_edit F k)) F (written_to k F) ok (c.write_at-done.ensures.err F h) new (written_same k F T r.held bytes)
      | inr run ↦
          let is = subst (λ xs. HasAt k.place (Write (4096 * k.run.first) (length xs)) f → 4096 * k.run.first + length xs ≤ size_at F k.place → IsOk c.write_at-done.result) whole (c.write_at-done.ensures.succeeds F h)
          (run_writes F T f h k small r.held run some fits) fits in
          subst (Stands g) (sym new) (ok_of c.write_at-done.result is ok)
    ]

pub returns-then-end_-size-clause-known : goal.returns-then-end_-size-clause-known
returns-then-end_-size-clause-known c F T h r =
    let k = c.args.kept.now in
    let f = c.args.forest.now in
    let g = c.write_at-done.new.self in
    let small = small_inum c.number-number.result k.place.1 c.number-number.ensures.range.1 c.number-number.ensures.value in
    let same = c.size-size.ensures (F, h) ∙ size_known F f h k.place (r.known small) in
    let count : c.len.result ≡ length k.bytes.items = c.len.ensures ∙ k.bytes.ok.0 in
    let fits : 4096 * k.run.first + length k.bytes.items ≤ size_at F k.place = omega (arith, c.if-end_-size.true, same, count) in
    let some : 0 < length k.bytes.items = grind (arith, nat_tests, c.if-not-is_empty.ensures, k.bytes.ok.0) in
    let whole = c.as_slice.ensures.value in
    let new = written_some k F some fits in
    let ok = subst (λ xs. OnOk c.write_at-done.result (StaysKnown F (edit F (Inodes k.place (Written (size_at F k.place) (4096 * k.run.first) xs))) f g)) whole (c.write_at-done.ensures.known F h) in
    elim r.blocks [
      | inl bytes ↦ either_way (λ V. StaysKnown F V f g) c.write_at-done.result (edit F (blocks_edit F k)) F (written_to k F) ok (c.write_at-done.ensures.err_known F h) new (written_same k F T r.held bytes)
      | inr run ↦
          let is = subst (λ xs. HasAt k.place (Write (4096 * k.run.first) (length xs)) f → 4096 * k.run.first + length xs ≤ size_at F k.place → IsOk c.write_at-done.result) whole (c.write_at-done.ensures.succeeds F h)
          (run_writes F T f h k small r.held run some fits) fits in
          subst (λ V. StaysKnown F V f g) (sym new) (ok_of c.write_at-done.result is ok)
    ]

pub returns-else-not-is_empty-clause-stands : goal.returns-else-not-is_empty-clause-stands
returns-else-not-is_empty-clause-stands c F T h r =
    let k = c.args.kept.now in
    let small = small_inum c.number-number.result k.place.1 c.number-number.ensures.range.1 c.number-number.ensures.value in
    let same = c.size-size.ensures (F, h) ∙ size_known F c.args.forest.now h k.place (r.known small) in
    let count : c.len.result ≡ length k.bytes.items = c.len.ensures ∙ k.bytes.ok.0 in
    let is : written_to k F ≡ F = elim c.else-not-is_empty.branch [
      | else-not-is_empty-via-then-not-is_empty+else-end_-size w ↦ written_short F k (omega (arith, w.if-end_-size.false, same, count))
      | else-not-is_empty-via-else-not-is_empty w ↦ written_none k F (nil_from_length k.bytes.items (grind (arith, nat_tests, w.if-not-is_empty.ensures, k.bytes.ok.0)))
    ] in
    subst (Stands c.args.forest.now) (sym is) h

pub returns-else-not-is_empty-clause-known : goal.returns-else-not-is_empty-clause-known
returns-else-not-is_empty-clause-known c F T h r w x =
    let k = c.args.kept.now in
    let small = small_inum c.number-number.result k.place.1 c.number-number.ensures.range.1 c.number-number.ensures.value in
    let same = c.size-size.ensures (F, h) ∙ size_known F c.args.forest.now h k.place (r.known small) in
    let count : c.len.result ≡ length k.bytes.items = c.len.ensures ∙ k.bytes.ok.0 in
    let is : written_to k F ≡ F = elim c.else-not-is_empty.branch [
      | else-not-is_empty-via-then-not-is_empty+else-end_-size v ↦ written_short F k (omega (arith, v.if-end_-size.false, same, count))
      | else-not-is_empty-via-else-not-is_empty v ↦ written_none k F (nil_from_length k.bytes.items (grind (arith, nat_tests, v.if-not-is_empty.ensures, k.bytes.ok.0)))
    ] in
    subst (λ V. Knows V w c.args.forest.now) (sym is) x
