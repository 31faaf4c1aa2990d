use Rattle.std.proofs.Common.{sym, subst}
use Rattle.su_legal.specs.Legal.{commits_of}
use Rattle.su_version.specs.Chain.{IsChain}
use Rattle.su_view.specs.Viewed.{ViewOn}
use Rattle.su_view.proofs.views.View.head.Goals as goal

pub returns-clause-chain : goal.returns-clause-chain
returns-clause-chain g c =
    subst (λ (v : ViewOn g.row.S.Denot). IsChain v.holding.roster (commits_of v.holding.held)) c.self.view_is
    (subst (IsChain c.self.inside.keeping.desk.state.settled.roster) (sym c.self.invariant.commits) c.self.invariant.end_is.chain)
