use Rattle.std.proofs.Common.{◌∙◌, ◌++◌, ◌∷◌, [], sym, ap, take}
use Rattle.std.proofs.lemmas.List.{take_more}
use Rattle.std.proofs.lemmas.Option.{get_or_from_slice_get, slice_get_within}
use Rattle.su_legal.specs.Legal.{history}
use Rattle.su_why.proofs.entries.entries_of.Goals as goal

pub loop-before-preserved : goal.loop-before-preserved
loop-before-preserved g c =
    let all = history c.args.view.now.holding.held in
    let i = c.loop-before.before in
    let entry = c.in_ok-entry.entry in
    let at = c.in_ok-entry.ensures.value in
    c.in_ok-push.ensures.items ∙ ap (λ es. es ++ entry ∷ []) c.loop-before.invariant
    ∙ sym (take_more all i entry (slice_get_within all i entry at) ∙ ap (λ e. take i all ++ e ∷ []) (get_or_from_slice_get all i entry entry at))
