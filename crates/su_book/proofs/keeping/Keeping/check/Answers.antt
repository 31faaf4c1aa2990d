use Rattle.su_book.specs.Kept.{book_of}
use Rattle.su_book.proofs.AnswerLemmas.{next_unfit}
use Rattle.su_book.proofs.keeping.Keeping.check.Goals as goal

pub returns-in_err-check_next-clause-refused : goal.returns-in_err-check_next-clause-refused
returns-in_err-check_next-clause-refused c =
    next_unfit (book_of c.args.self.now) c.args.offer.now.items c.commit-2.result.now c.from_residual-in_err-check_next.result c.in_err-check_next.field-0.0 c.from_residual-in_err-check_next.ensures.1
    (rw c.commit-2.ensures c.in_ok-commit.ensures.found.0) (rw c.commit-2.ensures c.in_ok-commit.ensures.found.1) c.in_err-check_next.ensures.refused
