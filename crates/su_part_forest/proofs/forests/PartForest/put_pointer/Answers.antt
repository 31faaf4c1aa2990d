use Rattle.std.proofs.Common.{Some, sym, ◌∙◌}
use Rattle.std.proofs.lemmas.Bool.{ltb-false, ltb-true}
use Rattle.su_part_forest.proofs.EditLifting.{group_absent, group_edited, group_kept, group_part_stands}
use Rattle.su_part_forest.proofs.Lifting.{on_ok}
use Rattle.su_part_forest.proofs.Knowing.{known_kept, no_err, pointer_loaded, pointer_put}
use Rattle.std.proofs.Common.{◌≡◌, true, false, refl, inl, subst}
use Rattle.su_group_part.specs.Part.{KnowsPointer, StandsGroup}
use Rattle.su_table.specs.Edit.{Edit.Pointers, edit}
use Rattle.su_part_forest.proofs.EditLifting.{group_has, group_known, group_stays, of_group_part, on_err, with_group}
use Rattle.su_part_forest.proofs.forests.PartForest.put_pointer.Goals as goal

pub returns-else-not-has_pointer-clause-ok : goal.returns-else-not-has_pointer-clause-ok
returns-else-not-has_pointer-clause-ok c T h =
    let f = c.args.self.now in
    let k = c.args.file.0 in
    let n = c.args.file.1 in
    let m = c.from.result in
    let p = c.in-Some.part.now in
    let within = ltb-true _ _ (sym c.in-Some.ensures.item.0) in
    let is = c.in-Some.ensures.value in
    let same = c.from.ensures ∙ c.number.ensures.value in
    let here = group_part_stands f m k p within is same T h in
    on_ok c.put_pointer.result (λ s. group_edited f m k p within is same c.put_pointer.new.self T n (Some c.args.place) h s) (c.put_pointer.ensures.ok k T here)

pub returns-else-not-has_pointer-clause-absent : goal.returns-else-not-has_pointer-clause-absent
returns-else-not-has_pointer-clause-absent c T h has =
    let f = c.args.self.now in
    let k = c.args.file.0 in
    let m = c.from.result in
    let p = c.in-Some.part.now in
    let within = ltb-true _ _ (sym c.in-Some.ensures.item.0) in
    let is = c.in-Some.ensures.value in
    let same = c.from.ensures ∙ c.number.ensures.value in
    let here = group_part_stands f m k p within is same T h in
    c.put_pointer.ensures.absent k T here

pub returns-else-not-has_pointer-clause-keeps : goal.returns-else-not-has_pointer-clause-keeps
returns-else-not-has_pointer-clause-keeps c =
    let f = c.args.self.now in
    let k = c.args.file.0 in
    let m = c.from.result in
    let p = c.in-Some.part.now in
    let within = ltb-true _ _ (sym c.in-Some.ensures.item.0) in
    let is = c.in-Some.ensures.value in
    let same = c.from.ensures ∙ c.number.ensures.value in
    group_kept f m k p within is same c.put_pointer.new.self c.put_pointer.ensures.keeps

pub returns-in-None-clause-ok : goal.returns-in-None-clause-ok
returns-in-None-clause-ok c T h =
    group_absent c.args.self.now c.from.result c.number.result (ltb-false _ _ (sym c.in-None.ensures.item.0)) c.from.ensures c.number.ensures.range T h

pub returns-else-not-has_pointer-clause-known : goal.returns-else-not-has_pointer-clause-known
returns-else-not-has_pointer-clause-known c T h =
    let f = c.args.self.now in
    let k = c.args.file.0 in
    let n = c.args.file.1 in
    let m = c.from.result in
    let p = c.in-Some.part.now in
    let within = ltb-true _ _ (sym c.in-Some.ensures.item.0) in
    let is = c.in-Some.ensures.value in
    let same = c.from.ensures ∙ c.number.ensures.value in
    let here = group_part_stands f m k p within is same T h in
    let has = c.if-not-has_pointer.ensures.0 refl in
    let q = c.put_pointer.new.self in
    let r = c.put_pointer.result in
    on_ok r (λ s. group_known f m k p within is same q T n (Some c.args.place) (pointer_put k n T (Some c.args.place) p q has c.put_pointer.ensures.keeps)) (c.put_pointer.ensures.ok k T here)

pub returns-else-not-has_pointer-clause-added : goal.returns-else-not-has_pointer-clause-added
returns-else-not-has_pointer-clause-added c T h =
    let f = c.args.self.now in
    let k = c.args.file.0 in
    let n = c.args.file.1 in
    let m = c.from.result in
    let p = c.in-Some.part.now in
    let within = ltb-true _ _ (sym c.in-Some.ensures.item.0) in
    let is = c.in-Some.ensures.value in
    let same = c.from.ensures ∙ c.number.ensures.value in
    let here = group_part_stands f m k p within is same T h in
    let has = c.if-not-has_pointer.ensures.0 refl in
    let q = c.put_pointer.new.self in
    let r = c.put_pointer.result in
    on_ok r (λ s. group_has f m k p within is same q (KnowsPointer k (edit T (Pointers (k, n) (Some c.args.place))) n) (inl (c.put_pointer.ensures.keeps n has))) (c.put_pointer.ensures.ok k T here)

pub returns-else-not-has_pointer-clause-succeeds : goal.returns-else-not-has_pointer-clause-succeeds
returns-else-not-has_pointer-clause-succeeds c T h known there =
    let f = c.args.self.now in
    let k = c.args.file.0 in
    let m = c.from.result in
    let p = c.in-Some.part.now in
    let within = ltb-true _ _ (sym c.in-Some.ensures.item.0) in
    let is = c.in-Some.ensures.value in
    let same = c.from.ensures ∙ c.number.ensures.value in
    let here = group_part_stands f m k p within is same T h in
    let r = c.put_pointer.result in
    no_err r (c.put_pointer.ensures.absent k T here) (λ none. let z : true ≡ false = sym none ∙ there in cc)

pub returns-then-not-has_pointer-clause-succeeds : goal.returns-then-not-has_pointer-clause-succeeds
returns-then-not-has_pointer-clause-succeeds c T h known there =
    let f = c.args.self.now in
    let k = c.args.file.0 in
    let n = c.args.file.1 in
    let m = c.from.result in
    let p = c.in-Some.part.now in
    let within = ltb-true _ _ (sym c.in-Some.ensures.item.0) in
    let is = c.in-Some.ensures.value in
    let same = c.from.ensures ∙ c.number.ensures.value in
    let has = pointer_loaded k n T p (of_group_part f m k p within is same (KnowsPointer k T n) known) there in
    absurd (let z : false ≡ true = c.if-not-has_pointer.ensures.1 has in cc)

pub returns-else-not-has_pointer-clause-err_known : goal.returns-else-not-has_pointer-clause-err_known
returns-else-not-has_pointer-clause-err_known c T h =
    let f = c.args.self.now in
    let k = c.args.file.0 in
    let m = c.from.result in
    let p = c.in-Some.part.now in
    let within = ltb-true _ _ (sym c.in-Some.ensures.item.0) in
    let is = c.in-Some.ensures.value in
    let same = c.from.ensures ∙ c.number.ensures.value in
    let q = c.put_pointer.new.self in
    let r = c.put_pointer.result in
    let keeps = group_kept f m k p within is same q c.put_pointer.ensures.keeps in
    on_err r (λ e. known_kept f (with_group f m q) T keeps h (group_stays f m k p within is same q T h (subst (λ v. StandsGroup k v T) (sym e) (group_part_stands f m k p within is same T h)))) c.put_pointer.ensures.err

pub returns-then-not-has_pointer-clause-err_known : goal.returns-then-not-has_pointer-clause-err_known
returns-then-not-has_pointer-clause-err_known c T h =
    let f = c.args.self.now in
    let k = c.args.file.0 in
    let m = c.from.result in
    let p = c.in-Some.part.now in
    let within = ltb-true _ _ (sym c.in-Some.ensures.item.0) in
    let is = c.in-Some.ensures.value in
    let same = c.from.ensures ∙ c.number.ensures.value in
    let unchanged = group_stays f m k p within is same p T h (group_part_stands f m k p within is same T h) in
    known_kept f (with_group f m p) T (group_kept f m k p within is same p (λ n has. has)) h unchanged

pub returns-in-None-clause-known : goal.returns-in-None-clause-known
returns-in-None-clause-known c T h =
    group_absent c.args.self.now c.from.result c.number.result (ltb-false _ _ (sym c.in-None.ensures.item.0)) c.from.ensures c.number.ensures.range T h

pub returns-in-None-clause-added : goal.returns-in-None-clause-added
returns-in-None-clause-added c T h =
    group_absent c.args.self.now c.from.result c.number.result (ltb-false _ _ (sym c.in-None.ensures.item.0)) c.from.ensures c.number.ensures.range T h

pub returns-in-None-clause-succeeds : goal.returns-in-None-clause-succeeds
returns-in-None-clause-succeeds c T h known there =
    group_absent c.args.self.now c.from.result c.number.result (ltb-false _ _ (sym c.in-None.ensures.item.0)) c.from.ensures c.number.ensures.range T h
