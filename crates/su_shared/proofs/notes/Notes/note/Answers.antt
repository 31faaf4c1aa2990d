use Rattle.std.proofs.Common.{◌+◌, None, sym, ap, ◌∙◌, arith, length}
use Rattle.std.proofs.lemmas.List.{get_or-map, length-map}
use Rattle.once_cell.specs.declared.race.note.Note.{Note}
use Rattle.su_shared.specs.Entry.{Entry}
use Rattle.su_shared.proofs.Knowing.{if_some}
use Rattle.su_shared.proofs.notes.Notes.note.Goals as goal

pub returns-clause-numbered : goal.returns-clause-numbered
returns-clause-numbered g c =
    let items = c.self.inside.notes.items in
    let m = c.index_mut.result.now in
    if_some c.again.result.known (c.args.index + 1) (λ r some.
    let at = get_or-map (λ (n : Note Entry). n.known) items c.args.index m None (omega (arith, c.requires, ap length c.self.invariant.named, length-map items (λ (n : Note Entry). n.cell))) in
    c.self.invariant.numbered c.args.index r (at ∙ (ap (λ (n : Note Entry). n.known) (sym c.index_mut.ensures.value) ∙ (ap (λ (n : Note Entry). n.known) (sym c.again.ensures.1) ∙ some))))
