use Rattle.std.proofs.Common.{◌≡◌, ◌⊎◌, Some, refl, subst}
use Rattle.su_bytes.specs.declared.refusals.Refusal.TheVariants.{NoMemory}
use Rattle.su_book.specs.Machine.{BookState, IsUnfit, holder_of}
use Rattle.su_book.proofs.AnswerLemmas.{commit_refused}
use Rattle.su_book.proofs.books.Book.store.Goals as goal

pub returns-in_err-commit-clause-refused : goal.returns-in_err-commit-clause-refused
returns-in_err-commit-clause-refused c =
    let x = c.in_err-commit.field-0.0 in
    commit_refused c.args.self.now c.args.seat c.args.offer.now c.from_residual.result x c.from_residual.ensures.1
    (subst (λ (b : BookState). holder_of b.journal ≡ Some c.args.seat) c.self.view_is (c.if-not-has_turn.ensures.0 refl))
    (subst (λ b. (x ≡ NoMemory) ⊎ IsUnfit b c.args.offer.now.items x) c.self.view_is c.in_err-commit.ensures.refused)
