-- What tables stand for is told by them.
use Rattle.std.proofs.Common.{◌≡◌, ℕ, suc, List, [], ◌∷◌, refl, sym, ap, subst, ◌∙◌}
use Rattle.std.proofs.Math.Logic.{∥∥₁_elim}
use Rattle.sqlite.specs.declared.types.Value.TheVariants.{Blob as Bytes}
use Rattle.sqlite.specs.Order.{Row}
use Rattle.sqlite.specs.Tree.{Trees}
use Rattle.sqlite.specs.Recovery.{Image}
use Rattle.sqlite.specs.Files.{HoldsDatabase}
use Rattle.sqlite_trees.specs.Props.{rows_set}
use Rattle.su_store.specs.Tables.{rows_from, record_row, block_row}
use Rattle.su_places.specs.Current.{HasRecords, HoldsRecords}

-- the bytes of a block's row
abbrev bytes_in : Row → List ℕ
bytes_in (place ∷ digest ∷ Bytes bytes ∷ []) = bytes
bytes_in row = []

abbrev blocks_in : List Row → List (List ℕ)
blocks_in [] = []
blocks_in (row ∷ rows) = bytes_in row ∷ blocks_in rows

blocks_of_rows : (first : ℕ) (blocks : List (List ℕ)) → blocks_in (rows_from block_row first blocks) ≡ blocks
blocks_of_rows first [] = refl
blocks_of_rows first (block ∷ blocks) = ap (λ l. block ∷ l) (blocks_of_rows (suc first) blocks)

-- the tables that the two files held are shown
pub records_shown : (commits : List (List ℕ)) (image : Image) (now : Trees) → HoldsRecords commits image → ((db : Trees) → HoldsDatabase image db → now ≡ db) → HasRecords commits now
records_shown commits image now was shows =
    let records : now 0 ≡ rows_from record_row 0 commits = ∥∥₁_elim was (rows_set _ _) (λ found.
    ap (λ (db : Trees). db 0) (shows found.0 found.2) ∙ found.1.stands.records ∙ ap (rows_from record_row 0) found.1.same) in
    let blocks : now 1 ≡ rows_from block_row 1 (blocks_in (now 1)) = ∥∥₁_elim was (rows_set _ _) (λ found.
    let here = ap (λ (db : Trees). db 1) (shows found.0 found.2) ∙ found.1.stands.blocks in
    here ∙ ap (rows_from block_row 1) (sym (ap blocks_in here ∙ blocks_of_rows 1 found.1.kept.blocks))) in
    record {
      kept = record { records = commits; blocks = blocks_in (now 1) };
      stands = record { records = records; blocks = blocks };
      same = refl;
    }
