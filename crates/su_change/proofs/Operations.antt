-- Operations in bytes: each has one spelling, which begins no other.
use Rattle.std.proofs.Common.{◌≡◌, ℕ, ◌<◌, ◌^◌, List, length, refl, arith}
use Rattle.su_op.specs.declared.operations.Op.{Op}
use Rattle.su_op.specs.declared.operations.Op.TheVariants.{Create, Unlink, Write, Truncate, Take, Link, Rename, Drop}
use Rattle.su_format.specs.Format.{Format}
use Rattle.su_format.specs.Part.{u32_bytes}
use Rattle.su_format.proofs.Public.{Makes, said_as, last_of, in_order_of, told_by, part_makes, part_lawful, u32_told, u32_of, bytes_of, inum_of, file_id_of, name_of, kind_of}
use Rattle.su_change.specs.NameAt.{IsNameAt, name_at_bytes, name_at_format, created_name, linked_name, unlinked_name, link_fields, unlink_fields}
use Rattle.su_change.specs.Create.{IsCreate, create_bytes, create_fields}
use Rattle.su_change.specs.Write.{IsWrite, IsLength, HasLength, length_part, write_bytes, write_fields}
use Rattle.su_change.specs.Truncate.{IsTruncate, truncate_bytes, truncate_fields}
use Rattle.su_change.specs.Rename.{IsRename, rename_bytes, rename_fields}
use Rattle.su_change.specs.Take.{IsTake, take_bytes, take_fields}
use Rattle.su_change.specs.DropBody.{IsDrop, drop_bytes, drop_fields}
use Rattle.su_change.specs.Operation.{IsOp, CanBeSpelled, op_bytes, op_kinds, op_format}
use Rattle.su_change.proofs.KindLemmas.{IsKind, AllTell, HasKind, told, of_kind, one_makes}

-- an operation that is spelled
abbrev pub Fits : Op → Type 0
Fits op = IsOp op × CanBeSpelled op

-- The fields make the operations of the kind with the number, each of one of these, which has one
-- spelling.
abbrev IsOpKind : {A : Type 0} → ℕ → Format Op → (A → Op) → (A → Type 0) → (A → List ℕ) → Type 0
IsOpKind n f make Is spelling = IsKind Fits op_bytes n f make Is spelling

-- ---- names

pub name_at_of : Makes name_at_format (λ n. n) IsNameAt name_at_bytes
unfolding name_at_format
name_at_of =
    said_as (in_order_of file_id_of (λ dir. in_order_of name_of (λ name. last_of file_id_of _)))
    (λ p. record { dir = p.0; name = p.1.0; file = p.1.1 }) (λ n. (n.dir, (n.name, n.file)))
    (λ p is. (record { dir = is.0; name = is.1.0; file = is.1.1 }, refl, refl))
    (λ n is. ((is.dir, (is.name, is.file)), refl, refl))

pub create_kind : IsOpKind 1 create_fields Create IsCreate create_bytes
unfolding create_fields
create_kind = record {
  makes =
      said_as (in_order_of name_at_of (λ n. in_order_of inum_of (λ body. last_of kind_of _)))
      (λ p. record { dir = p.0.dir; name = p.0.name; file = p.0.file; body = p.1.0; kind = p.1.1 }) (λ c. (created_name c, (c.body, c.kind)))
      (λ p is. (record { name_at = is.0; body = is.1.0 }, refl, refl))
      (λ c is. ((is.name_at, (is.body, tt)), refl, refl));
  is = λ c is. ((is, tt), refl);
}

pub link_kind : IsOpKind 4 link_fields Link (λ l. IsNameAt (linked_name l)) (λ l. name_at_bytes (linked_name l))
unfolding link_fields
link_kind = record {
  makes =
      said_as (last_of name_at_of _)
      (λ n. record { dir = n.dir; name = n.name; file = n.file }) linked_name (λ n is. (is, refl, refl)) (λ l is. (is, refl, refl));
  is = λ l is. ((is, tt), refl);
}

pub unlink_kind : IsOpKind 6 unlink_fields Unlink (λ u. IsNameAt (unlinked_name u)) (λ u. name_at_bytes (unlinked_name u))
unfolding unlink_fields
unlink_kind = record {
  makes =
      said_as (last_of name_at_of _)
      (λ n. record { dir = n.dir; name = n.name; file = n.file }) unlinked_name (λ n is. (is, refl, refl)) (λ u is. (is, refl, refl));
  is = λ u is. ((is, tt), refl);
}

pub rename_kind : IsOpKind 5 rename_fields Rename IsRename rename_bytes
unfolding rename_fields
rename_kind = record {
  makes =
      said_as (in_order_of file_id_of (λ from. in_order_of name_of (λ old. in_order_of file_id_of (λ to. in_order_of name_of (λ new. last_of file_id_of _)))))
      (λ p. record { from_ = p.0; old_ = p.1.0; to_ = p.1.1.0; new_ = p.1.1.1.0; file = p.1.1.1.1 }) (λ r. (r.from_, (r.old_, (r.to_, (r.new_, r.file)))))
      (λ p is. (record { from_ = is.0; old_ = is.1.0; to_ = is.1.1.0; new_ = is.1.1.1.0; file = is.1.1.1.1 }, refl, refl))
      (λ r is. ((is.from_, (is.old_, (is.to_, (is.new_, is.file)))), refl, refl));
  is = λ r is. ((is, tt), refl);
}

-- ---- files

-- a length is spelled as a number is
pub length_is_u32 : (n : ℕ) → IsLength n → (n < 2 ^ 32) × (u32_bytes n ≡ u32_bytes n)
length_is_u32 n is = (omega (arith, is.0, is.1), refl)

length_of : Makes length_part (λ n. n) IsLength u32_bytes
unfolding length_part
length_of =
    part_makes (part_lawful IsLength u32_bytes (λ a b rest behind x y e. u32_told a b rest behind (length_is_u32 a x).0 (length_is_u32 b y).0 e))

pub write_kind : IsOpKind 2 write_fields Write (λ w. IsWrite w × HasLength w) write_bytes
unfolding write_fields
write_kind = record {
  makes =
      said_as (in_order_of file_id_of (λ file. in_order_of u32_of (λ off. told_by length length_of (λ n. last_of (bytes_of n) _) (λ n bytes long. long))))
      (λ p. record { file = p.0; off = p.1.0; bytes = p.1.1 }) (λ w. (w.file, (w.off, w.bytes)))
      (λ p is. ((record { file = is.0; off = is.1.0 }, is.1.1.0), refl, refl))
      (λ w is. ((is.0.file, (is.0.off, (is.1, refl))), refl, refl));
  is = λ w is. ((is.0, is.1), refl);
}

pub truncate_kind : IsOpKind 3 truncate_fields Truncate IsTruncate truncate_bytes
unfolding truncate_fields
truncate_kind = record {
  makes =
      said_as (in_order_of file_id_of (λ file. last_of u32_of _))
      (λ p. record { file = p.0; size = p.1 }) (λ t. (t.file, t.size))
      (λ p is. (record { file = is.0; size = is.1 }, refl, refl))
      (λ t is. ((is.file, is.size), refl, refl));
  is = λ t is. ((is, tt), refl);
}

pub take_kind : IsOpKind 7 take_fields Take IsTake take_bytes
unfolding take_fields
take_kind = record {
  makes =
      said_as (in_order_of file_id_of (λ file. last_of inum_of _))
      (λ p. record { file = p.0; body = p.1 }) (λ t. (t.file, t.body))
      (λ p is. (record { file = is.0; body = is.1 }, refl, refl))
      (λ t is. ((is.file, is.body), refl, refl));
  is = λ t is. ((is, tt), refl);
}

pub drop_kind : IsOpKind 8 drop_fields Drop IsDrop drop_bytes
unfolding drop_fields
drop_kind = record {
  makes = said_as (last_of inum_of _) (λ n. record { body = n }) (λ d. d.body) (λ n is. (is, refl, refl)) (λ d is. (is, refl, refl));
  is = λ d is. ((is, tt), refl);
}

-- ---- all kinds

-- what the number of each kind tells
pub by_number : AllTell Fits op_bytes op_kinds
by_number =
    (told create_kind, (told write_kind, (told truncate_kind, (told link_kind, (told rename_kind, (told unlink_kind, (told take_kind, (told drop_kind, tt))))))))

-- what each operation tells
pub by_op : (op : Op) → Fits op → HasKind op_kinds op_bytes op
by_op (Create c) fits = of_kind (omega arith) create_kind c fits.0
by_op (Write w) fits = of_kind (omega arith) write_kind w fits
by_op (Truncate t) fits = of_kind (omega arith) truncate_kind t fits.0
by_op (Link l) fits = of_kind (omega arith) link_kind l fits.0
by_op (Rename r) fits = of_kind (omega arith) rename_kind r fits.0
by_op (Unlink u) fits = of_kind (omega arith) unlink_kind u fits.0
by_op (Take t) fits = of_kind (omega arith) take_kind t fits.0
by_op (Drop d) fits = of_kind (omega arith) drop_kind d fits.0

pub op_of : Makes op_format (λ op. op) Fits op_bytes
unfolding op_format
op_of = one_makes by_number by_op
