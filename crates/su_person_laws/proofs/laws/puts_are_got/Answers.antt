use Rattle.std.proofs.Common.{◌≡◌, ◌∙◌, ℕ, List, Result, Ok, sym, ap}
use Rattle.su_bytes.specs.declared.file_ids.FileId.{FileId}
use Rattle.su_bytes.specs.declared.refusals.Refusal.{Refusal}
use Rattle.su_table.specs.Tree.{Tree}
use Rattle.su_table.specs.Query.{contents}
use Rattle.su_draft.specs.Walk.{found}
use Rattle.su_desk.specs.Applied.{tree_after}
use Rattle.su_legal.specs.Legal.{history}
use Rattle.su_view.specs.Holding.{tree_of_list}
use Rattle.su_person_laws.proofs.laws.puts_are_got.Goals as goal

same : {A : Type 0} (x y : A) → ◌≡◌ {A = Result A Refusal} (Ok x) (Ok y) → x ≡ y
same x y e = cc

pub returns : goal.returns
returns c v w path put got (file, there) roster held (other, here) =
    let tree : tree_of_list w ≡ tree_of_list v = λ i. tree_after (roster i) (history (held i)) in
    let one : other ≡ file = same other file (sym here.found ∙ ap (λ (T : Tree). found T path) tree ∙ there.found) in
    same got put (sym here.contents ∙ ap (λ (T : Tree). contents T other) tree ∙ ap (contents (tree_of_list v)) one ∙ there.contents)
