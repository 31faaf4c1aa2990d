-- Commands that are carried out one after another, and what those of a put then have done.
use Rattle.std.specs.Prelude.{◌≡◌, ◌≢◌, ℕ, List, [], ◌∷◌, Option, None, Some, Result, Ok, ⊤}
use Rattle.su_bytes.specs.declared.file_ids.FileId.{FileId}
use Rattle.su_bytes.specs.declared.formats.TheConstants.{NEWEST_FORMAT}
use Rattle.su_bytes.specs.declared.refusals.Refusal.{Refusal}
use Rattle.su_bytes.specs.Membership.{Membership}
use Rattle.su_table.specs.Tree.{Tree}
use Rattle.su_table.specs.Query.{contents}
use Rattle.su_op.specs.declared.operations.Op.{Op}
use Rattle.su_op.specs.Action.{action_by}
use Rattle.su_op.specs.Operation.{effect}
use Rattle.su_op.specs.Soundness.{Sound}
use Rattle.su_draft.specs.declared.commands.Command.{Command}
use Rattle.su_draft.specs.Refusable.{◌>>=◌}
use Rattle.su_draft.specs.Walk.{found}
use Rattle.su_plan.specs.Plan.{plan}
use Rattle.su_pieces.specs.Put.{Put}

-- the tree after operations of user a, each accepted in its turn, in the newest format
abbrev pub effects : Membership → ℕ → Tree → List Op → Tree
effects ro a T [] = T
effects ro a T (op ∷ ops) = effects ro a (effect ro T (action_by a NEWEST_FORMAT op)) ops

-- Commands of user a, carried out one after another, each by its plan for the tree that those
-- before it left: the tree that they leave, or the first refusal.
abbrev pub carried_out : Membership → ℕ → Tree → List Command → Result Tree Refusal
carried_out ro a T [] = Ok T
carried_out ro a T (command ∷ commands) = do
  ops ← plan ro T a command
  carried_out ro a (effects ro a T ops) commands

-- the path leads to that file, whose contents are these
pub record LeadsTo (T : Tree) (path : List ℕ) (file : FileId) (bytes : List ℕ) : Type 0 where
  pub found : found T path ≡ Ok file
  pub contents : contents T file ≡ Ok bytes

-- T is the tree before, and T' that afterwards: the path leads to that file with these contents,
-- every other file has the contents that it had, each path that led to a file leads to it, and each
-- that leads to another file led to it before.
pub record Leaves (T T' : Tree) (path : List ℕ) (file : FileId) (bytes : List ℕ) : Type 0 where
  pub there : LeadsTo T' path file bytes
  pub others : (g : FileId) → g ≢ file → contents T' g ≡ contents T g
  pub paths : (other : List ℕ) (g : FileId) → found T other ≡ Ok g → found T' other ≡ Ok g
  pub no_more : (other : List ℕ) (g : FileId)
      → g ≢ file → found T' other ≡ Ok g → found T other ≡ Ok g

-- ---- a put

-- a file with the old contents stands at the path, where there are old ones
abbrev pub StandsAt : Tree → List ℕ → Option (List ℕ) → Type 0
StandsAt T path None = ⊤
StandsAt T path (Some old) = (file : FileId) × LeadsTo T path file old

-- Where each command of a put is planned and accepted in its turn, they put the new contents there
-- and change no other file.
abbrev pub PutsAreCarriedOut : Type 0
PutsAreCarriedOut = (ro : Membership) (a : ℕ) (T T' : Tree) (path : List ℕ)
    (old : Option (List ℕ)) (new : List ℕ) (commands : List Command)
    → Sound T → StandsAt T path old → Put path old new commands
    → carried_out ro a T commands ≡ Ok T' → (file : FileId) × Leaves T T' path file new
