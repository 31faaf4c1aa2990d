use Rattle.std.proofs.lemmas.Bool.{false≢true}
use Rattle.su_part_tree.proofs.Looking.{some_in_left}
use Rattle.su_part_tree.proofs.looks.+lists_no_pair.Goals as goal

pub returns-else-lists_no_pair : goal.returns-else-lists_no_pair
returns-else-lists_no_pair g t c =
    let here = rw c.deref.ensures at c.lists_no_pair.ensures in
    (λ z. absurd (false≢true z), rw c.in-Split.is (λ e. absurd (some_in_left _ _ _ here c.if-lists_no_pair.false e)))
