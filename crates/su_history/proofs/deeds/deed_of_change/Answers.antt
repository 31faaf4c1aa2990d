use Rattle.std.proofs.Common.{◌≡◌, ◌∙◌, IfOk, sym, subst}
use Rattle.su_history.specs.declared.line.Deed.{Deed}
use Rattle.su_history.proofs.WithoutBytes.{many_told}
use Rattle.su_history.proofs.deeds.deed_of_change.Goals as goal

pub returns-in-None : goal.returns-in-None
returns-in-None c =
    subst (λ (d : Deed). IfOk c.deed_of_batch.result (λ deed. deed ≡ d)) (many_told c.args.entry.now.change c.in-Do.batch c.written-in-None.result (sym c.in-Do.is ∙ c.requires.read) c.in-None.ensures c.written-in-None.ensures)
    c.deed_of_batch.ensures
