use Rattle.std.proofs.Common.{◌∙◌, ◌+◌, [], ◌∷◌, ◌++◌, ap, arith}
use Rattle.std.specs.Prelude.{slice_get}
use Rattle.std.proofs.lemmas.Bool.Decides.{nat_tests}
use Rattle.su_table.specs.Tree.{genesis}
use Rattle.su_group_part.specs.Part.{StandsGroup}
use Rattle.su_part_forest.proofs.FreshLemmas.{IsFirstGroup, all_parts, each_part, next_part, one_part, root_group, group_first}
use Rattle.su_part_forest.proofs.fresh.first_groups.Goals as goal

pub loop-init : goal.loop-init
loop-init c =
    one_part IsFirstGroup c.push.new.self.items c.put_pointer.new.self (c.in_ok-push.ensures.items ∙ ap (λ xs. xs ++ c.put_pointer.new.self ∷ []) c.new-groups.ensures.items)
    (record {
      stands = root_group c.put_pointer.new.self (λ T none. c.in_ok-put_pointer.ensures.ok 0 T (c.empty-first.ensures.stands 0 T none));
      all = λ n. c.in_ok-put_pointer.ensures.keeps n (c.empty-first.ensures.reached n);
    })

pub loop-preserved : goal.loop-preserved
loop-preserved c =
    next_part IsFirstGroup c.loop.groups.items c.push-in-loop.new.self.items c.empty.result c.loop.counter c.in_ok-push-2.ensures.items c.loop.invariant
    (group_first (c.loop.counter + 1) c.empty.result (λ e. omega (arith, e)) (λ T none. c.empty.ensures.stands (c.loop.counter + 1) T none) c.empty.ensures.reached)

pub returns-clause-stands : goal.returns-clause-stands
returns-clause-stands c g =
    all_parts (λ p. StandsGroup g p genesis) 15 c.loop.groups.items g (grind (arith, nat_tests, c.loop.invariant.0, c.loop.auto.counter-end, c.loop-test.false, c.from-end.ensures, c.number.ensures.value))
    (each_part (IsFirstGroup g) (λ p. StandsGroup g p genesis) (slice_get c.loop.groups.items g) (λ p h. h.stands) (c.loop.invariant.1 g))
