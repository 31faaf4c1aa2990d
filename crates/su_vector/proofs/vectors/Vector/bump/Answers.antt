use Rattle.std.proofs.Common.{◌++◌, map, ◌∙◌}
use Rattle.su_vector.specs.Vector.{bump, numbers_after}
use Rattle.su_vector.proofs.vectors.Vector.bump.Goals as goal

pub returns-clause-value : goal.returns-clause-value
unfolding bump
returns-clause-value c =
    let ps = c.deref.ensures.value ∙ c.in_ok-principals.ensures.value in
    c.in_ok-push_numbers_after.ensures
    ∙ (λ i. c.in_ok-numbers.ensures.items i ++ numbers_after (ps i) (c.numbers.ensures i) c.args.author (map (λ g. g.0) c.args.groups.now))
