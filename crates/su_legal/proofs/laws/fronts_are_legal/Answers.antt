use Rattle.std.specs.Prelude.{◌∷◌}
use Rattle.su_legal.proofs.LegalLists.{legal_front, legal_next, legal_further}
use Rattle.su_legal.proofs.laws.fronts_are_legal.Goals as goal

pub returns : goal.returns
returns c = record {
  front = λ ro xs ys x l. (legal_front ro xs (x ∷ ys) l, legal_next ro xs ys x l);
  longer = legal_further;
}
