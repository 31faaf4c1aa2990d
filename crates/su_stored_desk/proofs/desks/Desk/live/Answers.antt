use Rattle.std.proofs.Common.{◌≡◌, List, ℕ, subst, IfOk}
use Rattle.su_stored_desk.proofs.KeptOperations.{numbers_kept}
use Rattle.su_stored_desk.proofs.desks.Desk.live.Goals as goal

pub returns-clause-value : goal.returns-clause-value
returns-clause-value g c right =
    subst (λ (ns : List ℕ). IfOk c.numbers.result (λ v. v.items ≡ ns)) (numbers_kept _ _ _ _ right.keeps) c.numbers.ensures.value
