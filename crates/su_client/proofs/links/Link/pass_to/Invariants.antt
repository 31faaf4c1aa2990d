use Rattle.std.specs.Prelude.{ℕ, List}
use Rattle.su_client.specs.Link.{Follows, MayGive}
use Rattle.su_client.proofs.links.Link.pass_to.Given as goal

abbrev pub invariant-loop : goal.invariant-loop
invariant-loop g l = Follows l.fn.self l.self × ((s : List ℕ) → MayGive l.self s → MayGive l.fn.self s)
