-- What is done to the loaded part of a tree is done to the tree.
use Rattle.std.specs.Prelude.{◌≡◌, ◌⊎◌, true, false, List}
use Rattle.su_table.specs.Tree.{Tree}
use Rattle.su_table.specs.Cell.{Cell, val}
use Rattle.su_op.specs.declared.areas.Area.{Area}
use Rattle.su_op.specs.Area.{has}
use Rattle.su_asked.specs.Asked.{AgreeIn}

-- V is what is loaded of S; V becomes V', and S becomes T: at each cell either nothing changes in
-- both, or what is loaded holds before what S holds and afterwards what T holds.
pub record Follows (V V' S T : Tree) : Type 0 where
  pub each : (c : Cell) → ((val T c ≡ val S c) × (val V' c ≡ val V c))
      ⊎ ((val V c ≡ val S c) × (val V' c ≡ val T c))

-- Where V agrees with S in the areas w, and changes in w alone, T is the one tree that holds in w
-- what V' holds, and elsewhere what S holds.
abbrev pub ChangesFollow : Type 0
ChangesFollow =
    (V V' S T U : Tree) (w : List Area) → Follows V V' S T → AgreeIn w V S
    → ((c : Cell) → has w c ≡ false → val V' c ≡ val V c)
    → ((c : Cell) → has w c ≡ true → val U c ≡ val V' c)
    → ((c : Cell) → has w c ≡ false → val U c ≡ val S c) → T ≡ U
