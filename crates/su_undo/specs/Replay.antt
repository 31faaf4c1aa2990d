-- Actions of a system one after another, and how one of them is taken out.
use Rattle.std.specs.Prelude.{◌≡◌, false, cond, List, [], ◌∷◌, ◌++◌, Option, Some, None}
use Rattle.su_undo.specs.System.{System, Agree, AgreeOutside, GoesAlike}

-- the state that actions lead to from S, one after another; none where one of them isn't accepted
-- where it comes
abbrev pub replay : (s : System) → s.State → List s.Action → Option s.State
replay s S [] = Some S
replay s S (x ∷ xs) = cond (s.ok S x) (replay s (s.act S x) xs) None

-- none of these actions, one after another from S, reads a cell of the areas
abbrev pub NoneReads : (s : System) → s.Areas → s.State → List s.Action → Type 0
NoneReads s w S [] = Unit {0}
NoneReads s w S (x ∷ xs) = (s.meet (s.reads S x) w ≡ false) × NoneReads s w (s.act S x) xs

-- The actions, one after another, go alike from S' as from S: each is accepted there, reads and
-- writes the same cells, and writes the same values.
abbrev pub AllGoAlike : (s : System) → s.State → s.State → List s.Action → Type 0
AllGoAlike s S S' [] = Unit {0}
AllGoAlike s S S' (x ∷ xs) = GoesAlike s S S' x × AllGoAlike s (s.act S x) (s.act S' x) xs

-- Of actions that lead from S to T, one can be taken out from between those before and after it.
pub record CanBeTakenOut (s : System) (S : s.State) (before : List s.Action) (x : s.Action)
    (after : List s.Action) (T : s.State) : Type 0 where
  -- the states that those before it lead to, and that all lead to but for it
  pub earlier : s.State
  pub without : s.State
  pub reached : replay s S before ≡ Some earlier
  pub left : replay s S (before ++ after) ≡ Some without
  -- the later ones go alike without it
  pub alike : AllGoAlike s (s.act earlier x) earlier after
  -- the cells that it wrote hold what they held before it, and all others what they hold with it
  pub restored : Agree s (s.writes earlier x) without earlier
  pub others : AgreeOutside s (s.writes earlier x) without T

-- Undo is safe: of actions that lead from a sound state to T, each can be taken out that wrote no
-- cell that a later one reads.
abbrev pub UndoIsSafe : System → Type 0
UndoIsSafe s =
    (S earlier T : s.State) (before after : List s.Action) (x : s.Action) → s.Sound S
    → replay s S before ≡ Some earlier → replay s S (before ++ x ∷ after) ≡ Some T
    → NoneReads s (s.writes earlier x) (s.act earlier x) after → CanBeTakenOut s S before x after T
