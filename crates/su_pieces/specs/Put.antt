-- What a put of new contents does to the file at a path: its commands, one after another.
use Rattle.std.specs.Prelude.{◌≡◌, ℕ, List, [], ◌∷◌, ◌++◌, map, length, Option, None, Some, nat_lt, if◌then◌else◌}
use Rattle.std.specs.List.{AllZip}
use Rattle.std.specs.Option.{unwrap_or}
use Rattle.su_node.specs.Inode.{within}
use Rattle.su_draft.specs.declared.commands.Command.{Command}
use Rattle.su_draft.specs.declared.commands.Command.TheVariants.{Create, Write, Truncate}
use Rattle.su_pieces.specs.declared.pieces.Piece.{Piece}
use Rattle.su_pieces.specs.Piece.{ArePieces}

-- ---- steps

-- what is done at the path
pub data Step : Type 0 where
  -- an empty file is made
  Makes : Step
  -- the bytes of the file from an offset on become these
  Writes : ℕ → List ℕ → Step
  -- the file is cut to a size
  Cuts : ℕ → Step

-- a write of a piece of the new contents
abbrev pub write_of : List ℕ → Piece → Step
write_of new p = Writes p.off (within p.off p.len new)

-- a cut to the size of the new contents, where the old ones are longer
abbrev pub cut_of : List ℕ → List ℕ → List Step
cut_of old new = if nat_lt (length new) (length old) then Cuts (length new) ∷ [] else []

-- With these pieces of the new contents: where nothing stands at the path, a file is made, and each
-- piece is written to it; where a file stands there, each piece is written, and the file is cut.
abbrev pub put_steps : Option (List ℕ) → List ℕ → List Piece → List Step
put_steps None new ps = Makes ∷ map (write_of new) ps
put_steps (Some old) new ps = map (write_of new) ps ++ cut_of old new

-- ---- commands

-- the command does the step at the path
abbrev pub Does : List ℕ → Step → Command → Type 0
Does path Makes (Create at) = at.items ≡ path
Does path (Writes off bytes) (Write at o bs) =
    (at.items ≡ path) × (o ≡ off) × (bs.items ≡ bytes)
Does path (Cuts size) (Truncate at s) = (at.items ≡ path) × (s ≡ size)
Does path step command = ⊥

-- The commands put the new contents at the path, where a file with the old ones stands, or nothing:
-- they do just the steps with the pieces that differ.
pub record Put (path : List ℕ) (old : Option (List ℕ)) (new : List ℕ) (commands : List Command)
    : Type 0 where
  pub pieces : List Piece
  pub differing : ArePieces (unwrap_or old []) new pieces
  pub steps : AllZip (Does path) (put_steps old new pieces) commands
