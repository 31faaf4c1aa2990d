-- What an inverse makes of a plain tree, as a function of the tree: its steps in their order, those
-- that take memory first.
use Rattle.std.specs.Prelude.{◌≡◌, ◌+◌, ◌*◌, List, [], ◌∷◌, length, cond, nat_lt, nat_le}
use Rattle.su_node.specs.declared.blocks.TheConstants.{BLOCK_SIZE}
use Rattle.su_table.specs.Tree.{Tree}
use Rattle.su_table.specs.Query.{size_at}
use Rattle.su_table.specs.Edit.{edit, edits}
use Rattle.su_inverse.specs.declared.returns.Return.{Return}
use Rattle.su_inverse.specs.declared.resets.Reset.{Reset}
use Rattle.su_inverse.specs.declared.contents.KeptSize.{KeptSize}
use Rattle.su_inverse.specs.declared.contents.KeptBlocks.{KeptBlocks}
use Rattle.su_inverse.specs.declared.inverses.Inverse.{Inverse}
use Rattle.su_inverse.specs.Kept.{return_edit, size_edit, reset_edits, blocks_edit, IsPutBack}

-- what was taken away stands again
abbrev pub brought_back : List Return → Tree → Tree
brought_back [] F = F
brought_back (r ∷ rs) F = brought_back rs (edit F (return_edit r))

-- a file that has fewer bytes gets its old size
abbrev pub grown_to : KeptSize → Tree → Tree
grown_to k F = cond (nat_lt (size_at F k.place) k.size) (edit F (size_edit F k.place k.size)) F

-- each of the files
abbrev pub grown : List KeptSize → Tree → Tree
grown [] F = F
grown (k ∷ ks) F = grown ks (grown_to k F)

-- a file that has more bytes gets its old size
abbrev pub cut_to : KeptSize → Tree → Tree
cut_to k F = cond (nat_lt k.size (size_at F k.place)) (edit F (size_edit F k.place k.size)) F

-- each of the files
abbrev pub cut : List KeptSize → Tree → Tree
cut [] F = F
cut (k ∷ ks) F = cut ks (cut_to k F)

-- links get their old number, and what is new goes
abbrev pub reset : List Reset → Tree → Tree
reset [] F = F
reset (r ∷ rs) F = reset rs (edits F (reset_edits r))

-- bytes go into a file that is long enough
abbrev pub written_to : KeptBlocks → Tree → Tree
written_to k F =
    cond (nat_lt 0 (length k.bytes.items))
    (cond (nat_le (BLOCK_SIZE * k.run.first + length k.bytes.items) (size_at F k.place)) (edit F (blocks_edit F k)) F)
    F

-- the bytes of all blocks
abbrev pub written : List KeptBlocks → Tree → Tree
written [] F = F
written (k ∷ ks) F = written ks (written_to k F)

-- all steps in their order
abbrev pub undone : Inverse → Tree → Tree
undone i F =
    written i.blocks.items
    (reset i.resets.items
    (cut i.sizes.items
    (grown i.sizes.items
    (brought_back i.returns.items F))))

-- what is undone is put back: the steps lead to the tree that has the kept values in the areas and
-- those of F in all other cells, where there is one
abbrev pub UndoneIsPutBack : Type 0
UndoneIsPutBack = (i : Inverse) (F T : Tree) → IsPutBack i F T → undone i F ≡ T
