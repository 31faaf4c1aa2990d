-- Walks name by name.
use Rattle.std.proofs.Common.{◌≡◌, ℕ, ◌+◌, ◌<◌, ◌≤◌, List, ◌∷◌, length, drop, get_or, Result, Ok, Err, sym, ap, ◌∙◌, drop-cons, add-one}
use Rattle.std.proofs.lemmas.List.{drop_all}
use Rattle.su_bytes.specs.declared.file_ids.FileId.{FileId}
use Rattle.su_bytes.specs.declared.refusals.Refusal.{Refusal}
use Rattle.su_node.specs.Name.{Name}
use Rattle.su_table.specs.Tree.{Tree}
use Rattle.su_draft.specs.Refusable.{◌>>=◌}
use Rattle.su_draft.specs.Walk.{entry, walk}

drop_first : (names : List Name) (i : ℕ) (x : Name) → i < length names → x ≡ get_or names i x → drop i names ≡ x ∷ drop (i + 1) names
drop_first names i x h is =
    drop-cons names i x h ∙ ap (λ k. get_or names i x ∷ drop k names) (sym (add-one i)) ∙ ap (λ (y : Name). y ∷ drop (i + 1) names) (sym is)

-- a step that is refused
pub walk-refused : (T : Tree) (f : FileId) (names : List Name) (i : ℕ) (x : Name) (e : Refusal) (all : Result FileId Refusal) → i < length names → x ≡ get_or names i x → Err e ≡ entry T f x
    → walk T f (drop i names) ≡ all → Err e ≡ all
walk-refused T f names i x e all h is r k =
    let parts : drop i names ≡ x ∷ drop (i + 1) names = drop_first names i x h is in
    ap (λ (r : Result FileId Refusal). r >>= (λ next. walk T next (drop (i + 1) names))) r ∙ sym (ap (walk T f) parts) ∙ k

-- no step is left
pub walk-done : (T : Tree) (f : FileId) (names : List Name) (i : ℕ) (all : Result FileId Refusal) → length names ≤ i → walk T f (drop i names) ≡ all → Ok f ≡ all
walk-done T f names i all h k = sym (ap (walk T f) (drop_all i names h)) ∙ k
