use Rattle.std.proofs.Common.{◌≡◌, ◌<◌, ◌++◌, ◌∷◌, [], length, Some, arith, ◌∙◌, sym, subst}
use Rattle.std.proofs.Math.ListN.{set}
use Rattle.su_book.specs.declared.steps.Act.{Act}
use Rattle.su_book.specs.Machine.{stored_by}
use Rattle.su_book.specs.Kept.{AreLast, StoresNext}
use Rattle.su_book.proofs.LastLemmas.{last_more}
use Rattle.su_book.proofs.keeping.set_last.Goals as goal

pub returns-in-Stored : goal.returns-in-Stored
returns-in-Stored c ro cs are next =
    let last = c.args.last.now.items in
    let d = c.in-Stored.commit in
    let n = c.in-Stored.number in
    let author : c.from.result ≡ d.version.author = c.from.ensures ∙ c.number.ensures.value ∙ c.author.ensures.value in
    let within : d.version.author < length last = omega (arith, are.long) in
    let (_, number) = subst (λ (act : Act). StoresNext ro cs act) c.in-Stored.is next in
    subst (λ (act : Act). AreLast (cs ++ stored_by act) (set last c.from.result (Some n))) (sym c.in-Stored.is)
    (subst (λ a. AreLast (cs ++ d ∷ []) (set last a (Some n))) (sym author) (last_more cs d n last are number within))
