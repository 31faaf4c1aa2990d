use Rattle.std.proofs.Common.{◌≡◌, ℕ, IfOk, List, Option, arith, subst}
use Rattle.su_person.proofs.FoundLemmas.{all_noted}
use Rattle.su_person.proofs.changes.last_changes.Goals as goal

pub returns : goal.returns
returns c =
    let l = c.loop-index in
    let all : l.index ≡ 0 = omega (arith, c.loop-index-test.false) in
    subst (λ (xs : List (Option (ℕ × ℕ))). IfOk c.in_order.result (λ lasts. lasts.items ≡ xs)) (all_noted c.args.entries.now c.args.files.now l.found l.index all l.invariant.noted)
    c.in_order.ensures
