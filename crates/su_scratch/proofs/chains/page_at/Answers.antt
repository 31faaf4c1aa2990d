use Rattle.std.proofs.Common.{ap, ◌∙◌}
use Rattle.su_scratch.specs.declared.pages.Told.{Told}
use Rattle.su_scratch.proofs.PageReading.{ok_is, length-page}
use Rattle.su_scratch.specs.Page.{page_bytes}
use Rattle.su_scratch.proofs.chains.page_at.Goals as goal

pub returns-clause-told : goal.returns-clause-told
returns-clause-told g c = λ older notes keeps page.
    let bytes = c.in_ok-page.ensures.back (page_bytes older notes) keeps page.lies (length-page older notes page.page) in
    let told = ok_is c.in_ok-told.told _ (c.in_ok-told.ensures.told older notes page.page (c.deref.ensures.value ∙ bytes)) in
    (ap (λ (t : Told). t.older) told, ap (λ (t : Told). t.found) told)

pub returns-clause-descends : goal.returns-clause-descends
returns-clause-descends g c = c.is_before.ensures.0 c.if-not-is_before.false
