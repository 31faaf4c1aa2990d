use Rattle.std.proofs.Common.{subst, []}
use Rattle.su_version.specs.Chain.{IsChain}
use Rattle.su_book.proofs.Runs.{chain_of, chain_at, within}
use Rattle.su_book.proofs.laws.records_are_a_chain.Goals as goal

pub returns-clause-chain : goal.returns-clause-chain
returns-clause-chain c = chain_of

pub returns-clause-next : goal.returns-clause-next
returns-clause-next c b before after d run is =
    chain_at b.roster [] before after d (subst (IsChain b.roster) is (chain_of b run))

pub returns-clause-within : goal.returns-clause-within
returns-clause-within c b run = within b run
