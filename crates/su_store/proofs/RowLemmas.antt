-- The rows of numbered items, and the next of them.
use Rattle.std.proofs.Common.{◌≡◌, ◌<ℤ◌, ◌+ℤ◌, suc, ◌+◌, ◌++◌, ◌<◌, length, arith, ℕ, ℤ, pos, List, [], ◌∷◌, fold, sym, ap, subst, ◌∙◌, add-one}
use Rattle.sqlite.specs.declared.types.Value.TheVariants.{Int}
use Rattle.sqlite.specs.Order.{Row}
use Rattle.sqlite_value.specs.Order.{value_cmp}
use Rattle.sqlite_value.proofs.OrderLemmas.{value_cmp-Int}
use Rattle.sqlite_trees.specs.Tree.{rowid}
use Rattle.sqlite.specs.Tree.{put_row}
use Rattle.sqlite.specs.Edit.{next_rowid}
use Rattle.sqlite_rules.specs.Edit.{id_in}
use Rattle.std.proofs.Math.Dec.{lt→ltb}
use Rattle.std.specs.Cmp.{int_cmp_is}
use Rattle.std.specs.declared.cmp.Ordering.TheVariants.{Less}
use Rattle.su_store.specs.Tables.{record_row, block_row, rows_from}

below : (a b : ℕ) → a < b → value_cmp (Int (pos a)) (Int (pos b)) ≡ Less
below a b lt = let under : pos a <ℤ pos b = omega (arith, lt, lt→ltb) in value_cmp-Int (pos a) (pos b) ∙ sym (int_cmp_is (pos a) (pos b) Less under)

-- the next number stands last
pub put_last-record : (n : ℕ) (items : List (List ℕ)) (item : List ℕ) (m : ℕ) → m ≡ n + length items
    → put_row (record_row m item) (rows_from record_row n items) ≡ rows_from record_row n (items ++ item ∷ [])
put_last-record n [] item m is = let same : m ≡ n = omega (arith, is) in rw same
put_last-record n (x ∷ items) item m is = rw (below n m (omega (arith, is))) (ap (λ l. record_row n x ∷ l) (put_last-record (suc n) items item m (omega (arith, is))))

pub put_last-block : (n : ℕ) (items : List (List ℕ)) (item : List ℕ) (m : ℕ) → m ≡ n + length items
    → put_row (block_row m item) (rows_from block_row n items) ≡ rows_from block_row n (items ++ item ∷ [])
put_last-block n [] item m is = let same : m ≡ n = omega (arith, is) in rw same
put_last-block n (x ∷ items) item m is = rw (below n m (omega (arith, is))) (ap (λ l. block_row n x ∷ l) (put_last-block (suc n) items item m (omega (arith, is))))

next_from : (n : ℕ) (items : List (List ℕ)) → fold (λ (_ : ℤ) (r : Row). id_in (rowid r) +ℤ pos 1) (pos n) (rows_from block_row n items) ≡ pos (n + length items)
next_from n [] = ap pos (omega arith)
next_from n (x ∷ items) =
    let one : n + 1 ≡ suc n = add-one n in
    let count : suc n + length items ≡ n + length (x ∷ items) = omega arith in
    subst (λ k. fold (λ (_ : ℤ) (r : Row). id_in (rowid r) +ℤ pos 1) (pos k) (rows_from block_row (suc n) items) ≡ pos (n + length (x ∷ items))) (sym one) (next_from (suc n) items ∙ ap pos count)

-- the next row of blocks has the next place
pub next_rowid-blocks : (items : List (List ℕ)) → next_rowid (rows_from block_row 1 items) ≡ pos (1 + length items)
next_rowid-blocks items = next_from 1 items
