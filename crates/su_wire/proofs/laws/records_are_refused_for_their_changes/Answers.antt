use Rattle.std.proofs.Common.{sym, subst}
use Rattle.su_legal.specs.Legal.{commits_of}
use Rattle.su_version.specs.Chain.{MayBeNext}
use Rattle.su_wire.proofs.MeetingLemmas.{taken, shown}
use Rattle.su_wire.proofs.laws.records_are_refused_for_their_changes.Goals as goal

pub returns-clause-shown : goal.returns-clause-shown
returns-clause-shown g c b v d after source now e run is =
    shown _ _ _ v d e (subst (λ ro. MayBeNext ro (commits_of v.held) d) (sym is.roster) (c.records_are_a_chain.ensures.next b (commits_of v.held) after d run is.records))

pub returns-clause-taken : goal.returns-clause-taken
returns-clause-taken g c b v d after source now e run is =
    taken _ _ _ v d e (subst (λ ro. MayBeNext ro (commits_of v.held) d) (sym is.roster) (c.records_are_a_chain.ensures.next b (commits_of v.held) after d run is.records))
