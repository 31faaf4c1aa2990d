-- A system of cells, of which a store is one: states that are known by the values of their cells, and actions, each of which
-- reads some cells and writes some.
use Rattle.std.specs.Prelude.{◌≡◌, Bool, false, IsTrue}

pub record System : Type 1 where
  pub State : Type 0
  pub Cell : Type 0
  pub Value : Type 0
  pub Action : Type 0
  pub Areas : Type 0
  pub start : State
  -- what each cell holds in a state
  pub val : State → Cell → Value
  -- whether a cell is one of the areas', and whether two lists of areas share a cell
  pub has : Areas → Cell → Bool
  pub meet : Areas → Areas → Bool
  -- the states that can be reached are sound
  pub Sound : State → Type 0
  -- whether an action is accepted, and what it then does, reads and writes
  pub ok : State → Action → Bool
  pub act : State → Action → State
  pub reads : State → Action → Areas
  pub writes : State → Action → Areas

-- two states agree on areas
abbrev pub Agree : (s : System) → s.Areas → s.State → s.State → Type 0
Agree s w S T = (c : s.Cell) → IsTrue (s.has w c) → s.val S c ≡ s.val T c

-- two states agree outside areas
abbrev pub AgreeOutside : (s : System) → s.Areas → s.State → s.State → Type 0
AgreeOutside s w S T = (c : s.Cell) → s.has w c ≡ false → s.val S c ≡ s.val T c

-- an accepted action leaves the cells that it doesn't write
abbrev pub LeavesOthers : System → Type 0
LeavesOthers s = (S : s.State) (x : s.Action) → s.Sound S → IsTrue (s.ok S x) → AgreeOutside s (s.writes S x) (s.act S x) S

-- the action is accepted in S' too, and there reads and writes the same cells and writes the same values
pub record GoesAlike (s : System) (S : s.State) (S' : s.State) (x : s.Action) : Type 0 where
  pub ok : IsTrue (s.ok S' x)
  pub reads : s.reads S' x ≡ s.reads S x
  pub writes : s.writes S' x ≡ s.writes S x
  pub values : Agree s (s.writes S x) (s.act S' x) (s.act S x)

-- Locality: an accepted action goes alike in every state that agrees on the cells that it reads.
abbrev pub IsLocal : System → Type 0
IsLocal s = (S S' : s.State) (x : s.Action) → s.Sound S → s.Sound S' → IsTrue (s.ok S x) → Agree s (s.reads S x) S' S → GoesAlike s S S' x

-- what makes undo of any action safe
pub record Lawful (s : System) : Type 0 where
  pub leaves : LeavesOthers s
  pub alike : IsLocal s
  -- what is written is also read
  pub within : (S : s.State) (x : s.Action) (c : s.Cell) → s.Sound S → IsTrue (s.ok S x) → IsTrue (s.has (s.writes S x) c) → IsTrue (s.has (s.reads S x) c)
  pub stays_sound : (S : s.State) (x : s.Action) → s.Sound S → IsTrue (s.ok S x) → s.Sound (s.act S x)
  pub start_sound : s.Sound s.start
  -- areas that don't meet share no cell
  pub apart : (a b : s.Areas) (c : s.Cell) → s.meet a b ≡ false → IsTrue (s.has a c) → s.has b c ≡ false
  -- a state is known by its cells
  pub same : (S S' : s.State) → ((c : s.Cell) → s.val S c ≡ s.val S' c) → S ≡ S'
