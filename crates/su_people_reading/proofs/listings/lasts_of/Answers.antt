use Rattle.std.proofs.Common.{◌≡◌, ◌∙◌, ℕ, IfOk, List, Option, map, ap, subst}
use Rattle.std.proofs.lemmas.List.{take_all}
use Rattle.std.proofs.lemmas.Simd.{map-map}
use Rattle.su_bytes.specs.declared.file_ids.FileId.{FileId}
use Rattle.su_people_session.specs.declared.walks.Found.{Found}
use Rattle.su_person.specs.LastChange.{last_change}
use Rattle.su_people_reading.proofs.listings.lasts_of.Goals as goal

pub returns : goal.returns
returns c =
    let last = last_change c.args.entries.now in
    let file : Found → FileId = λ (found : Found). found.file in
    let l = c.loop-found in
    subst (λ (xs : List (Option (ℕ × ℕ))). IfOk c.last_changes.result (λ lasts. lasts.items ≡ xs))
    (ap (map last) (c.deref.ensures.value ∙ l.invariant ∙ ap (map file) (take_all l.found-index c.args.all.now c.loop-found-test.false)) ∙ map-map last file c.args.all.now)
    c.last_changes.ensures
