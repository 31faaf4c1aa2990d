use Rattle.std.proofs.Common.{◌≡◌, [], ◌∷◌, ap, sym, subst, ◌∙◌, inl, inr}
use Rattle.std.specs.List.{sum_by}
use Rattle.std.specs.List.Sorted.{IsPermutation}
use Rattle.std.proofs.lemmas.Result.{err_from_is_err_and}
use Rattle.su_shared.specs.Seats.{SeatView}
use Rattle.su_shared.proofs.Keeping.{count_is}
use Rattle.su_backup.proofs.BookLemmas.{copied_in}
use Rattle.su_backup.proofs.copies.copy_named.Goals as goal

pub returns-in_err-book-clause-refused : goal.returns-in_err-book-clause-refused
returns-in_err-book-clause-refused g c =
    let p = err_from_is_err_and c.from_residual.result c.from_residual.ensures.1 in
    rw (p.1, p.2) (elim c.in_err-book.ensures.refused [
      | inl (is, none) ↦ absurd (none c.requires.capacity)
      | inr (inl (is, fits, key)) ↦ inl (is, key)
      | inr (inr (inl memory)) ↦ inr (inl memory)
      | inr (inr (inr one)) ↦ inr (inr one)
    ])

pub returns-clause-copied : goal.returns-clause-copied
returns-clause-copied g c =
    let seat = c.copy_behind-new.new.copier in
    let ends = c.in-Ok-close.ensures.ends in
    let held = ends.holds_steps in
    let steps = c.in-Ok-close.closed.book.journal in
    let all : c.in-Ok.seats.items ≡ seat ∷ [] =
    c.in-Ok.ensures.items ∙ ap (λ (s : SeatView). s ∷ []) c.into_seat.ensures in
    let total = ap (sum_by (λ (s : SeatView). s.kept.stored)) all in (
      held,
      copied_in g.K.Keeper.may_fail c.copy_behind-new.result c.new-copier.result seat c.args.client.now.source.link
          c.copy_behind-new.new.client.source.link c.in-Ok-close.closed.records
          steps held.records ends.sorted c.copy_behind-new.ensures
          (subst (λ seats. IsPermutation seats ends.sorted) all ends.order) ends.each held.are.numbers
          (c.in-Ok-close.ensures.stored ∙ total) (c.in-Ok-close.ensures.records ∙ sym (count_is held.records steps held.are)),
    )
