-- How long the parts of items are.
use Rattle.std.proofs.Common.{◌≡◌, ℕ, ◌+◌, ◌≤◌, Bool, true, false, not, ◌||◌, ◌&&◌, List, [], ◌∷◌, ◌++◌, length, length-append, nat_eq, nat_lt, refl, arith}
use Rattle.std.specs.Cmp.Lexicographic.{pointwise}
use Rattle.std.specs.List.{list_all}
use Rattle.su_bytes.specs.declared.file_ids.FileId.{FileId}
use Rattle.su_bytes.specs.declared.file_ids.FileId.TheVariants as id
use Rattle.su_bytes.specs.declared.file_ids.Kind.{Kind}
use Rattle.su_bytes.specs.declared.file_ids.Kind.TheVariants.{File, Dir}
use Rattle.su_bytes.specs.FileId.{file_id_bytes}
use Rattle.su_bytes.specs.Name.{is_name, is_name_byte}
use Rattle.su_op.specs.declared.create.Create.{Create as Create_}
use Rattle.su_op.specs.declared.rename.Rename.{Rename as Rename_}
use Rattle.su_op.specs.declared.operations.Op.{Op}
use Rattle.su_op.specs.declared.operations.Op.TheVariants.{Create, Write, Truncate, Link, Rename, Unlink, Take, Drop}
use Rattle.su_op.specs.Writing.{Writing}
use Rattle.su_format.specs.Part.{u32_bytes, name_bytes, kind_bytes}
use Rattle.su_change.specs.declared.name_at.NameAt.{NameAt}
use Rattle.su_change.specs.NameAt.{name_at_bytes, created_name, linked_name, unlinked_name}
use Rattle.su_change.specs.Create.{create_bytes}
use Rattle.su_change.specs.Write.{write_bytes}
use Rattle.su_change.specs.Rename.{rename_bytes}
use Rattle.su_change.specs.Operation.{IsOp, CanBeSpelled, op_bytes}

joined : (xs ys : List ℕ) (m n : ℕ) → length xs ≡ m → length ys ≡ n → length (xs ++ ys) ≡ m + n
joined xs ys m n these others = let long = length-append xs ys in omega (arith, long, these, others)

six : (f : FileId) → length (file_id_bytes f) ≡ 6
six (id.User u i) = omega arith
six (id.Group g k) = omega arith

one : (k : Kind) → length (kind_bytes k) ≡ 1
one File = omega arith
one Dir = omega arith

-- ---- names

pub few_bytes : (name : List ℕ) → is_name name ≡ true → length name ≤ 255
few_bytes name is = go (nat_eq (length name) 0) (nat_lt 255 (length name)) refl is
  where
    rest : Bool
    rest = not (pointwise nat_eq name (46 ∷ []) || pointwise nat_eq name (46 ∷ 46 ∷ []))

    go : (none many : Bool) → nat_lt 255 (length name) ≡ many → (not (none || many) && rest && list_all is_name_byte name) ≡ true → length name ≤ 255
    go none false few is = grind (arith, few)
    go true true few is = absurd cc
    go false true few is = absurd cc

name_file : (name : List ℕ) (f : FileId) → length (name_bytes name ++ file_id_bytes f) ≡ 7 + length name
name_file name f =
    let long = joined (name_bytes name) (file_id_bytes f) (1 + length name) 6 (omega arith) (six f) in
    omega (arith, long)

pub length-name_at : (n : NameAt) → length (name_at_bytes n) ≡ 13 + length n.name
length-name_at n =
    let long = joined (file_id_bytes n.dir) (name_bytes n.name ++ file_id_bytes n.file) 6 (7 + length n.name) (six n.dir) (name_file n.name n.file) in
    omega (arith, long)

-- ---- kinds of operations

pub file_number : (f : FileId) (n : ℕ) → length (file_id_bytes f ++ u32_bytes n) ≡ 10
file_number f n = joined (file_id_bytes f) (u32_bytes n) 6 4 (six f) (omega arith)

pub length-create : (c : Create_) → length (create_bytes c) ≡ 18 + length c.name
length-create c =
    let end = joined (u32_bytes c.body) (kind_bytes c.kind) 4 1 (omega arith) (one c.kind) in
    let all = joined (name_at_bytes (created_name c)) (u32_bytes c.body ++ kind_bytes c.kind) (13 + length c.name) 5 (length-name_at (created_name c)) end in
    omega (arith, all)

pub length-write : (w : Writing) → length (write_bytes w) ≡ 14 + length w.bytes
length-write w =
    let end = joined (u32_bytes (length w.bytes)) w.bytes 4 (length w.bytes) (omega arith) refl in
    let mid = joined (u32_bytes w.off) (u32_bytes (length w.bytes) ++ w.bytes) 4 (4 + length w.bytes) (omega arith) end in
    let all = joined (file_id_bytes w.file) (u32_bytes w.off ++ (u32_bytes (length w.bytes) ++ w.bytes)) 6 (4 + (4 + length w.bytes)) (six w.file) mid in
    omega (arith, all)

pub length-rename : (r : Rename_) → length (rename_bytes r) ≡ 20 + length r.old_ + length r.new_
length-rename r =
    let end = joined (file_id_bytes r.to_) (name_bytes r.new_ ++ file_id_bytes r.file) 6 (7 + length r.new_) (six r.to_) (name_file r.new_ r.file) in
    let mid = joined (name_bytes r.old_) (file_id_bytes r.to_ ++ (name_bytes r.new_ ++ file_id_bytes r.file)) (1 + length r.old_) (6 + (7 + length r.new_)) (omega arith) end in
    let all = joined (file_id_bytes r.from_) (name_bytes r.old_ ++ (file_id_bytes r.to_ ++ (name_bytes r.new_ ++ file_id_bytes r.file))) 6 ((1 + length r.old_) + (6 + (7 + length r.new_))) (six r.from_) mid in
    omega (arith, all)

-- ---- operations

-- a write is the longest
pub op_few : (op : Op) → IsOp op → CanBeSpelled op → length (op_bytes op) ≤ 65551
op_few (Create c) is can = let long = length-create c in let few = few_bytes c.name is.name_at.name in omega (arith, long, few)
op_few (Write w) is can = let long = length-write w in omega (arith, long, can.1)
op_few (Truncate t) is can = let long = file_number t.file t.size in omega (arith, long)
op_few (Link l) is can = let long = length-name_at (linked_name l) in let few = few_bytes l.name is.name in omega (arith, long, few)
op_few (Rename r) is can =
    let long = length-rename r in
    let old = few_bytes r.old_ is.old_ in
    let new = few_bytes r.new_ is.new_ in
    omega (arith, long, old, new)
op_few (Unlink u) is can = let long = length-name_at (unlinked_name u) in let few = few_bytes u.name is.name in omega (arith, long, few)
op_few (Take t) is can = let long = file_number t.file t.body in omega (arith, long)
op_few (Drop d) is can = omega arith
