-- What is done to the loaded part of a tree is done to the tree.
use Rattle.std.proofs.Common.{◌≡◌, ◌∙◌, sym, refl, Bool, true, false, inl, inr, ◌⊎◌}
use Rattle.su_table.specs.Tree.{Tree}
use Rattle.su_table.specs.Cell.{Cell, val}
use Rattle.su_table.specs.Edit.{Edit, edit}
use Rattle.su_op.specs.Area.{has}
use Rattle.su_op.specs.Footprint.{edit_areas}
use Rattle.su_op.proofs.EditLemmas.{CanEdit, edit_leaves, edit_alike, tree_same}
use Rattle.su_asked.specs.Asked.{AgreeIn}
use Rattle.su_asked.specs.Following.{Follows, ChangesFollow}

pub follows_itself : (V S : Tree) → Follows V V S S
follows_itself V S = record { each = λ c. inl (refl, refl) }

-- one change after another
pub follows_on : (V V' V'' S T U : Tree) → Follows V V' S T → Follows V' V'' T U → Follows V V'' S U
follows_on V V' V'' S T U first second = record {
  each = λ c. elim (first.each c) [
    | inl x ↦ elim (second.each c) [
      | inl y ↦ inl (y.0 ∙ x.0, y.1 ∙ x.1)
      | inr y ↦ inr (sym x.1 ∙ y.0 ∙ x.0, y.1)
    ]
    | inr x ↦ elim (second.each c) [
      | inl y ↦ inr (x.0, y.1 ∙ x.1 ∙ sym y.0)
      | inr y ↦ inr (x.0, y.1)
    ]
  ];
}

-- what agrees before agrees after
pub agree_after : (V V' S T : Tree) (c : Cell) → Follows V V' S T → val V c ≡ val S c → val V' c ≡ val T c
agree_after V V' S T c f same = elim (f.each c) [ inl x ↦ x.1 ∙ same ∙ sym x.0 | inr x ↦ x.1 ]

-- an edit of cells that are loaded
pub edit_follows : (V S : Tree) (e : Edit) → CanEdit V e → CanEdit S e → AgreeIn (edit_areas e) V S → Follows V (edit V e) S (edit S e)
edit_follows V S e can can' agree = record { each = λ c. go c (has (edit_areas e) c) refl }
  where
    go : (c : Cell) (b : Bool) → has (edit_areas e) c ≡ b
        → ((val (edit S e) c ≡ val S c) × (val (edit V e) c ≡ val V c)) ⊎ ((val V c ≡ val S c) × (val (edit V e) c ≡ val (edit S e) c))
    go c true is = inr (agree c is, edit_alike V S e c can can' (agree c is))
    go c false is = inl (edit_leaves S e c can' is, edit_leaves V e c can is)

pub changes_follow : ChangesFollow
changes_follow V V' S T U w f agree outside inside others = tree_same T U (λ c. go c (has w c) refl)
  where
    go : (c : Cell) (b : Bool) → has w c ≡ b → val T c ≡ val U c
    go c true is = elim (f.each c) [
      | inl x ↦ x.0 ∙ sym (agree c is) ∙ sym x.1 ∙ sym (inside c is)
      | inr x ↦ sym x.1 ∙ sym (inside c is)
    ]
    go c false is = elim (f.each c) [
      | inl x ↦ x.0 ∙ sym (others c is)
      | inr x ↦ sym x.1 ∙ outside c is ∙ x.0 ∙ sym (others c is)
    ]
