use Rattle.su_desk.proofs.GoodHistories.{good_headline}
use Rattle.su_legal.specs.Legal.{history}
use Rattle.su_legal.proofs.VectorCounts.{good_history, vector_counts}
use Rattle.su_legal.proofs.laws.legal_lists_are_good.Goals as goal

pub returns : goal.returns
returns c = record {
  headline = λ ro cs l. good_headline ro (history cs) (good_history ro cs l);
  vector = vector_counts;
}
