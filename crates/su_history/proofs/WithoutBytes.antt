-- What the lines say of a change is said of it without its bytes.
use Rattle.std.proofs.Common.{◌≡◌, ◌∙◌, ℕ, ◌&&◌, Bool, true, false, not, cond, List, [], ◌∷◌, ◌++◌, length, map, min, nat_eq, Option, None, Some, refl, sym, ap, arith}
use Rattle.std.specs.List.{filter, list_all, sum_by}
use Rattle.std.specs.Option.{is_some}
use Rattle.std.proofs.lemmas.Bool.{eqb-true}
use Rattle.std.proofs.lemmas.List.{length-map}
use Rattle.std.proofs.lemmas.List.Filters.{sum_by-filter_both}
use Rattle.std.proofs.lemmas.List.Sums.{sum_by-cons}
use Rattle.su_bytes.specs.declared.file_ids.FileId.{FileId}
use Rattle.su_op.specs.declared.operations.Op.{Op}
use Rattle.su_op.specs.declared.operations.Op.TheVariants.{Create, Unlink, Write, Truncate, Take, Link, Rename, Drop}
use Rattle.su_op.specs.declared.operations.Change.{Change}
use Rattle.su_op.specs.declared.operations.Change.TheVariants.{Do, Undo, Rekey}
use Rattle.su_op.specs.Action.{batch_bytes, bytes_by, only_of, op_without_bytes}
use Rattle.su_desk.specs.KeptEntry.{without_bytes, written}
use Rattle.su_history.specs.Several.{SeveralOperations}
use Rattle.su_history.specs.declared.line.Deed.{Deed}
use Rattle.su_history.specs.declared.line.Deed.TheVariants.{Wrote, Together}
use Rattle.su_history.specs.Line.{are_one, deed_beside_takes, deed_of, deed_of_batch, deed_of_op, deed_of_row, edited_by, edits, files_named, files_of, filled_by, is_no_take, is_row, last_op, several}

-- ---- of operations

edited_by_so : (op : Op) → edited_by (op_without_bytes op) ≡ edited_by op
edited_by_so (Create c) = refl
edited_by_so (Unlink u) = refl
edited_by_so (Write w) = refl
edited_by_so (Truncate t) = refl
edited_by_so (Take t) = refl
edited_by_so (Link l) = refl
edited_by_so (Rename r) = refl
edited_by_so (Drop d) = refl

filled_by_so : (op : Op) → filled_by (op_without_bytes op) ≡ filled_by op
filled_by_so (Create c) = refl
filled_by_so (Unlink u) = refl
filled_by_so (Write w) = refl
filled_by_so (Truncate t) = refl
filled_by_so (Take t) = refl
filled_by_so (Link l) = refl
filled_by_so (Rename r) = refl
filled_by_so (Drop d) = refl

no_take_so : (op : Op) → is_no_take (op_without_bytes op) ≡ is_no_take op
no_take_so (Create c) = refl
no_take_so (Unlink u) = refl
no_take_so (Write w) = refl
no_take_so (Truncate t) = refl
no_take_so (Take t) = refl
no_take_so (Link l) = refl
no_take_so (Rename r) = refl
no_take_so (Drop d) = refl

-- the deed of an operation that writes none
empty_deed_so : (op : Op) → bytes_by op ≡ 0 → deed_of_op (op_without_bytes op) ≡ deed_of_op op
empty_deed_so (Create c) none = refl
empty_deed_so (Unlink u) none = refl
empty_deed_so (Write w) none = ap (Wrote w.file) (sym none)
empty_deed_so (Truncate t) none = refl
empty_deed_so (Take t) none = refl
empty_deed_so (Link l) none = refl
empty_deed_so (Rename r) none = refl
empty_deed_so (Drop d) none = refl

-- ---- of a batch

no_takes_so : (ops : List Op) → filter is_no_take (map op_without_bytes ops) ≡ map op_without_bytes (filter is_no_take ops)
no_takes_so [] = refl
no_takes_so (op ∷ ops) =
    ap (λ (b : Bool). cond b (op_without_bytes op ∷ filter is_no_take (map op_without_bytes ops)) (filter is_no_take (map op_without_bytes ops))) (no_take_so op)
    ∙ ap (λ (xs : List Op). cond (is_no_take op) (op_without_bytes op ∷ xs) xs) (no_takes_so ops)
    ∙ go (is_no_take op)
  where
    go : (b : Bool) → cond b (op_without_bytes op ∷ map op_without_bytes (filter is_no_take ops)) (map op_without_bytes (filter is_no_take ops))
        ≡ map op_without_bytes (cond b (op ∷ filter is_no_take ops) (filter is_no_take ops))
    go true = refl
    go false = refl

edits_so : (f : Option FileId) (ops : List Op) → list_all (edits f) (map op_without_bytes ops) ≡ list_all (edits f) ops
edits_so f [] = refl
edits_so f (op ∷ ops) =
    ap (λ (g : Option FileId). are_one f g && list_all (edits f) (map op_without_bytes ops)) (edited_by_so op) ∙ ap (λ (b : Bool). edits f op && b) (edits_so f ops)

row_so : (op : Op) (ops : List Op) → is_row (op_without_bytes op) (map op_without_bytes ops) ≡ is_row op ops
row_so op ops =
    ap (λ (f : Option FileId). is_some f && list_all (edits f) (map op_without_bytes ops)) (filled_by_so op)
    ∙ ap (λ (b : Bool). is_some (filled_by op) && b) (edits_so (filled_by op) ops)

last_so : (op : Op) (ops : List Op) → last_op (op_without_bytes op) (map op_without_bytes ops) ≡ op_without_bytes (last_op op ops)
last_so op [] = refl
last_so op (next ∷ ops) = last_so next ops

-- where no bytes are written in all, the last operation writes none

min_none : (a : ℕ) → min a 18446744073709551615 ≡ 0 → a ≡ 0
min_none a none = omega (arith, none)

all_empty : (ops : List Op) → batch_bytes ops ≡ 0 → sum_by bytes_by ops ≡ 0
all_empty [] none = refl
all_empty (op ∷ []) none = let sum = sum_by-cons bytes_by op [] in omega (arith, sum, none)
all_empty (op ∷ next ∷ ops) none = min_none (sum_by bytes_by (op ∷ next ∷ ops)) none

no_takes_empty : (ops : List Op) → sum_by bytes_by ops ≡ 0 → sum_by bytes_by (filter is_no_take ops) ≡ 0
no_takes_empty ops none =
    let both = sum_by-filter_both is_no_take (λ (op : Op). not (is_no_take op)) (λ op. refl) bytes_by ops in
    omega (arith, both, none)

last_empty : (op : Op) (ops : List Op) → sum_by bytes_by (op ∷ ops) ≡ 0 → bytes_by (last_op op ops) ≡ 0
last_empty op [] none = let sum = sum_by-cons bytes_by op [] in omega (arith, sum, none)
last_empty op (next ∷ ops) none = let sum = sum_by-cons bytes_by op (next ∷ ops) in last_empty next ops (omega (arith, sum, none))

-- the deed of a row, where the last deed is the same if no bytes are written
row_deed_so : (op : Op) (last last' : Deed) (n : ℕ) → (n ≡ 0 → last ≡ last') → deed_of_row (op_without_bytes op) last n ≡ deed_of_row op last' n
row_deed_so (Create c) last last' n same = refl
row_deed_so (Unlink u) last last' n same = refl
row_deed_so (Write w) last last' n same = refl
row_deed_so (Take t) last last' n same = refl
row_deed_so (Link l) last last' n same = refl
row_deed_so (Rename r) last last' n same = refl
row_deed_so (Drop d) last last' n same = refl
row_deed_so (Truncate t) last last' n same = go (nat_eq n 0) refl
  where
    go : (b : Bool) → nat_eq n 0 ≡ b → cond b last (Wrote t.file n) ≡ cond b last' (Wrote t.file n)
    go true is = same (eqb-true n 0 is)
    go false is = refl

-- the files that operations name
files_so : (op : Op) → files_of (deed_of_op (op_without_bytes op)) ≡ files_of (deed_of_op op)
files_so (Create c) = refl
files_so (Unlink u) = refl
files_so (Write w) = refl
files_so (Truncate t) = refl
files_so (Take t) = refl
files_so (Link l) = refl
files_so (Rename r) = refl
files_so (Drop d) = refl

named_so : (ops : List Op) → files_named (map op_without_bytes ops) ≡ files_named ops
named_so [] = refl
named_so (op ∷ ops) =
    ap (λ (fs : List FileId). fs ++ files_named (map op_without_bytes ops)) (files_so op) ∙ ap (λ (fs : List FileId). files_of (deed_of_op op) ++ fs) (named_so ops)

several_so : (ops : List Op) (n : ℕ) → several (map op_without_bytes ops) n ≡ several ops n
several_so ops n =
    ap (λ (k : ℕ). told k n (files_named (map op_without_bytes ops))) (length-map ops op_without_bytes) ∙ ap (told (length ops) n) (named_so ops)
  where
    told : ℕ → ℕ → List FileId → SeveralOperations
    told k bytes fs = record { operations = k; bytes = bytes; files = fs }

beside_takes_so : (s : SeveralOperations) (ops : List Op) → (s.bytes ≡ 0 → sum_by bytes_by ops ≡ 0) → deed_beside_takes s (map op_without_bytes ops) ≡ deed_beside_takes s ops
beside_takes_so s [] empty = refl
beside_takes_so s (op ∷ ops) empty =
    ap (λ (b : Bool). cond b (deed_of_row (op_without_bytes op) (deed_of_op (last_op (op_without_bytes op) (map op_without_bytes ops))) s.bytes) (Together s)) (row_so op ops)
    ∙ ap (λ (d : Deed). cond (is_row op ops) d (Together s))
    (row_deed_so op (deed_of_op (last_op (op_without_bytes op) (map op_without_bytes ops))) (deed_of_op (last_op op ops)) s.bytes
    (λ none. ap deed_of_op (last_so op ops) ∙ empty_deed_so (last_op op ops) (last_empty op ops (empty none))))

many_deed_so : (ops : List Op) → deed_of_batch (map op_without_bytes ops) (batch_bytes ops) ≡ deed_of_batch ops (batch_bytes ops)
many_deed_so ops =
    ap (λ (s : SeveralOperations). deed_beside_takes s (filter is_no_take (map op_without_bytes ops))) (several_so ops (batch_bytes ops))
    ∙ ap (deed_beside_takes (several ops (batch_bytes ops))) (no_takes_so ops)
    ∙ beside_takes_so (several ops (batch_bytes ops)) (filter is_no_take ops) (λ none. no_takes_empty ops (all_empty ops none))

-- what was read of an entry of several without its bytes tells its deed
pub many_told : (c : Change) (batch : List Op) (n : ℕ) → Do batch ≡ without_bytes c → None ≡ only_of batch → n ≡ written c → deed_of_batch batch n ≡ deed_of c
many_told (Do []) batch n is only n_is =
    let same : batch ≡ [] = cc in
    ap (λ (ops : List Op). deed_of_batch ops n) same ∙ ap (deed_of_batch []) n_is
many_told (Do (x ∷ [])) batch n is only n_is =
    absurd (let same : batch ≡ op_without_bytes x ∷ [] = cc in let some : None ≡ Some (op_without_bytes x) = only ∙ ap only_of same in cc)
many_told (Do (x ∷ y ∷ ops)) batch n is only n_is =
    let same : batch ≡ map op_without_bytes (x ∷ y ∷ ops) = cc in
    ap (λ (os : List Op). deed_of_batch os n) same ∙ ap (deed_of_batch (map op_without_bytes (x ∷ y ∷ ops))) n_is ∙ many_deed_so (x ∷ y ∷ ops)
many_told (Undo m) batch n is only n_is = absurd cc
many_told (Rekey k) batch n is only n_is = absurd cc
