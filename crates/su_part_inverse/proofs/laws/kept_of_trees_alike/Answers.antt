use Rattle.su_part_inverse.proofs.LawLemmas.{kept_again}
use Rattle.su_part_inverse.proofs.laws.kept_of_trees_alike.Goals as goal

pub returns : goal.returns
returns c = kept_again
