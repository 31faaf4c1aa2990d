use Rattle.std.proofs.Common.{◌∙◌, ◌+◌, [], ◌∷◌, ◌++◌, ap, arith}
use Rattle.std.specs.Prelude.{slice_get}
use Rattle.std.proofs.lemmas.Bool.Decides.{nat_tests}
use Rattle.su_table.specs.Tree.{genesis}
use Rattle.su_part.specs.Part.{StandsUser}
use Rattle.su_part_forest.proofs.FreshLemmas.{IsFirstUser, all_parts, each_part, next_part, one_part, root_user, user_first}
use Rattle.su_part_forest.proofs.fresh.first_users.Goals as goal

pub loop-init : goal.loop-init
loop-init c =
    one_part IsFirstUser c.push.new.self.items c.in_ok-root.root (c.in_ok-push.ensures.items ∙ ap (λ xs. xs ++ c.in_ok-root.root ∷ []) c.new-users.ensures.items)
    (record { stands = root_user c.in_ok-root.root c.in_ok-root.ensures.stands; all = c.in_ok-root.ensures.all })

pub loop-preserved : goal.loop-preserved
loop-preserved c =
    next_part IsFirstUser c.loop.users.items c.push-in-loop.new.self.items c.empty.result c.loop.counter c.in_ok-push-2.ensures.items c.loop.invariant
    (user_first (c.loop.counter + 1) c.empty.result (λ e. omega (arith, e)) (λ T none. c.empty.ensures.stands (c.loop.counter + 1) T none) c.empty.ensures.all)

pub returns-clause-stands : goal.returns-clause-stands
returns-clause-stands c u =
    all_parts (λ p. StandsUser u p genesis) 63 c.loop.users.items u (grind (arith, nat_tests, c.loop.invariant.0, c.loop.auto.counter-end, c.loop-test.false, c.from-end.ensures, c.number.ensures.value))
    (each_part (IsFirstUser u) (λ p. StandsUser u p genesis) (slice_get c.loop.users.items u) (λ p h. h.stands) (c.loop.invariant.1 u))
