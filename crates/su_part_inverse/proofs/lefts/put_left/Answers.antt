use Rattle.std.proofs.Common.{◌≡◌, ◌∙◌, ℕ, ◌<◌, ◌^◌, List, length, sym, ap, subst, arith}
use Rattle.std.proofs.lemmas.Bool.Decides.{nat_tests}
use Rattle.su_bytes.specs.Place.{Place}
use Rattle.su_part_forest.specs.Forest.{Stands}
use Rattle.su_part_forest.proofs.EditLifting.{small_inum}
use Rattle.su_left_blocks.specs.Left.{digests_of}
use Rattle.su_part_inverse.proofs.LeftLemmas.{IsPut, count_of, few_left, none_put, paths_still, put_back}
use Rattle.su_part_inverse.proofs.lefts.put_left.Goals.{else-not-is_empty-via-then-not-is_empty+else-end_-from, else-not-is_empty-via-else-not-is_empty}
use Rattle.su_part_inverse.proofs.lefts.put_left.Goals as goal

-- what the call tells, of the place and the run that are kept
told : (c : goal.After-put_left-done) → IsPut c.args.kept.now.place c.args.kept.now.run.first (digests_of c.args.kept.now.bytes.items) c.args.forest.now c.put_left-done.new.self c.put_left-done.result
told c =
    let f = c.args.forest.now in
    let g = c.put_left-done.new.self in
    let r = c.put_left-done.result in
    let k = c.args.kept.now in
    let e = c.put_left-done.ensures in
    let put : IsPut c.place-place.result c.run-first.result.first c.digests-digests.result.now f g r = record {
      ok = e.ok;
      known = e.known;
      succeeds = e.succeeds;
      err = e.err;
      err_known = e.err_known;
      err_keeps = e.err_keeps;
    } in
    subst (λ (p : Place). IsPut p k.run.first (digests_of k.bytes.items) f g r) c.place-place.ensures
    (subst (λ (n : ℕ). IsPut c.place-place.result n (digests_of k.bytes.items) f g r) (ap (λ (b : _). b.first) c.run-first.ensures)
    (subst (λ (ds : List (List ℕ)). IsPut c.place-place.result c.run-first.result.first ds f g r) c.digests-digests.ensures put))

small : (c : goal.After-put_left-done) → c.args.kept.now.place.1 < 2 ^ 32
small c = small_inum c.number-number.result c.args.kept.now.place.1 c.number-number.ensures.range.1 (c.number-number.ensures.value ∙ ap (λ (p : Place). p.1) c.place-place.ensures)

some : (c : goal.After-put_left-done) → 0 < length c.args.kept.now.bytes.items
some c =
    let count = ap length c.digests-digests.ensures ∙ count_of c.args.kept.now in
    let many : 0 < length c.digests-digests.result.now = grind (arith, nat_tests, c.is_empty.ensures, c.if-not-is_empty.ensures, c.if-not-is_empty.true) in
    omega (arith, count, many)

pub returns-then-end_-from-clause-stands : goal.returns-then-end_-from-clause-stands
returns-then-end_-from-clause-stands c F T h ready = (put_back F T c.args.forest.now c.put_left-done.new.self c.args.kept.now c.put_left-done.result (told c) h (small c) ready (some c)).0

pub returns-then-end_-from-clause-known : goal.returns-then-end_-from-clause-known
returns-then-end_-from-clause-known c F T h ready = (put_back F T c.args.forest.now c.put_left-done.new.self c.args.kept.now c.put_left-done.result (told c) h (small c) ready (some c)).1

pub returns-else-not-is_empty-clause-stands : goal.returns-else-not-is_empty-clause-stands
returns-else-not-is_empty-clause-stands c F T h ready =
    let k = c.args.kept.now in
    let count = ap length c.digests-digests.ensures ∙ count_of k in
    let none : 0 < length k.bytes.items → ⊥ = elim c.else-not-is_empty.branch [
      | else-not-is_empty-via-then-not-is_empty+else-end_-from w ↦ λ some.
          let few = few_left F T c.args.forest.now k h ready some in
          let first = ap (λ (b : _). b.first) c.run-first.ensures in
          let long = ap length c.digests-digests.ensures in
          omega (arith, few, first, long, w.if-end_-from.false, c.from.ensures, w.from-then-not-is_empty.ensures)
      | else-not-is_empty-via-else-not-is_empty w ↦ λ some.
          let no : length c.digests-digests.result.now ≡ 0 = grind (arith, nat_tests, c.is_empty.ensures, w.if-not-is_empty.ensures) in
          omega (arith, count, no, some)
    ] in
    subst (Stands c.args.forest.now) (sym (none_put k F none)) h

pub returns-else-not-is_empty-clause-known : goal.returns-else-not-is_empty-clause-known
returns-else-not-is_empty-clause-known c F T h ready =
    let k = c.args.kept.now in
    let count = ap length c.digests-digests.ensures ∙ count_of k in
    let none : 0 < length k.bytes.items → ⊥ = elim c.else-not-is_empty.branch [
      | else-not-is_empty-via-then-not-is_empty+else-end_-from w ↦ λ some.
          let few = few_left F T c.args.forest.now k h ready some in
          let first = ap (λ (b : _). b.first) c.run-first.ensures in
          let long = ap length c.digests-digests.ensures in
          omega (arith, few, first, long, w.if-end_-from.false, c.from.ensures, w.from-then-not-is_empty.ensures)
      | else-not-is_empty-via-else-not-is_empty w ↦ λ some.
          let no : length c.digests-digests.result.now ≡ 0 = grind (arith, nat_tests, c.is_empty.ensures, w.if-not-is_empty.ensures) in
          omega (arith, count, no, some)
    ] in
    paths_still F _ c.args.forest.now (none_put k F none)
