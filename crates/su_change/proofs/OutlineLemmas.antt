-- Outlines: each has one spelling, which begins no other.
use Rattle.std.proofs.Common.{◌≡◌, ◌∙◌, ℕ, ◌<◌, ◌^◌, Bool, true, false, cond, nat_eq, List, [], ◌∷◌, ◌++◌, length, map, refl, sym, ap, subst, arith, ◌⊎◌, inl, inr}
use Rattle.std.proofs.lemmas.List.{length-map}
use Rattle.std.proofs.lemmas.Bool.{eqb-true}
use Rattle.std.specs.Prelude.{Result, Ok, Err}
use Rattle.std.specs.List.{flat_map, AllByRecursion}
use Rattle.su_bytes.specs.declared.refusals.Refusal.{Refusal}
use Rattle.su_bytes.specs.declared.refusals.Refusal.TheVariants.{NoMemory}
use Rattle.su_op.specs.Action.{op_without_bytes}
use Rattle.su_op.specs.declared.operations.Op.{Op}
use Rattle.su_op.specs.declared.operations.Op.TheVariants.{Create, Unlink, Write, Truncate, Take, Link, Rename, Drop}
use Rattle.su_format.specs.Format.{Format, EachFrom}
use Rattle.su_format.specs.Part.{u64_bytes}
use Rattle.su_format.specs.Reading.{Reading, Takes, Decodes}
use Rattle.su_format.proofs.Public.{Makes, said_as, last_of, in_order_of, counted, only_by, part_makes, part_lawful, u64_told, u32_of, file_id_of}
use Rattle.su_change.specs.Kinds.{fields_of}
use Rattle.su_change.specs.NameAt.{IsNameAt, name_at_bytes, linked_name, unlinked_name, link_fields, unlink_fields}
use Rattle.su_change.specs.Create.{IsCreate, create_bytes, create_fields}
use Rattle.su_change.specs.Write.{IsWrite, write_fields}
use Rattle.su_change.specs.Truncate.{IsTruncate, truncate_bytes, truncate_fields}
use Rattle.su_change.specs.Rename.{IsRename, rename_bytes, rename_fields}
use Rattle.su_change.specs.Take.{IsTake, take_bytes, take_fields}
use Rattle.su_change.specs.DropBody.{IsDrop, drop_bytes, drop_fields}
use Rattle.su_change.specs.Operation.{IsOp, op_bytes, op_kinds}
use Rattle.su_change.specs.Outline.{IsNumber, IsOutlineOf, number_part, op_outline, outline_bytes, outline_format, outline_kinds, outlined_op, outlined_ops, place_bytes, place_fields}
use Rattle.su_change.proofs.KindLemmas.{IsKind, AllTell, HasKind, told, of_kind, one_makes}
use Rattle.su_change.proofs.Operations.{create_kind, truncate_kind, link_kind, rename_kind, unlink_kind, take_kind, drop_kind}

-- a write of no bytes, or another operation
abbrev IsBare : Op → Type 0
IsBare (Write w) = w.bytes ≡ []
IsBare _ = Unit {0}

-- an operation that is read
abbrev Fits : Op → Type 0
Fits op = IsOp op × IsBare op

-- The fields make the operations of the kind with the number, each of one of these, which has one
-- outline.
abbrev IsOpKind : {A : Type 0} → ℕ → Format Op → (A → Op) → (A → Type 0) → (A → List ℕ) → Type 0
IsOpKind n f make Is spelling = IsKind Fits op_outline n f make Is spelling

-- ---- each kind

create_outline : IsOpKind 1 create_fields Create IsCreate create_bytes
create_outline = record { makes = create_kind.makes; is = λ c is. ((is, tt), refl) }

place_outline : IsOpKind 2 place_fields Write (λ w. IsWrite w × (w.bytes ≡ [])) place_bytes
unfolding place_fields
place_outline = record {
  makes =
      said_as (in_order_of file_id_of (λ file. last_of u32_of _))
      (λ p. record { file = p.0; off = p.1; bytes = [] }) (λ w. (w.file, w.off))
      (λ p is. ((record { file = is.0; off = is.1 }, refl), refl, refl))
      (λ w is. ((is.0.file, is.0.off), ap (λ (b : List ℕ). Write (record { file = w.file; off = w.off; bytes = b })) (sym is.1), refl));
  is = λ w is. ((is.0, is.1), refl);
}

truncate_outline : IsOpKind 3 truncate_fields Truncate IsTruncate truncate_bytes
truncate_outline = record { makes = truncate_kind.makes; is = λ t is. ((is, tt), refl) }

link_outline : IsOpKind 4 link_fields Link (λ l. IsNameAt (linked_name l)) (λ l. name_at_bytes (linked_name l))
link_outline = record { makes = link_kind.makes; is = λ l is. ((is, tt), refl) }

rename_outline : IsOpKind 5 rename_fields Rename IsRename rename_bytes
rename_outline = record { makes = rename_kind.makes; is = λ r is. ((is, tt), refl) }

unlink_outline : IsOpKind 6 unlink_fields Unlink (λ u. IsNameAt (unlinked_name u)) (λ u. name_at_bytes (unlinked_name u))
unlink_outline = record { makes = unlink_kind.makes; is = λ u is. ((is, tt), refl) }

take_outline : IsOpKind 7 take_fields Take IsTake take_bytes
take_outline = record { makes = take_kind.makes; is = λ t is. ((is, tt), refl) }

drop_outline : IsOpKind 8 drop_fields Drop IsDrop drop_bytes
drop_outline = record { makes = drop_kind.makes; is = λ d is. ((is, tt), refl) }

-- ---- all kinds

by_number : AllTell Fits op_outline outline_kinds
by_number =
    (told create_outline, (told place_outline, (told truncate_outline, (told link_outline, (told rename_outline, (told unlink_outline, (told take_outline, (told drop_outline, tt))))))))

by_op : (op : Op) → Fits op → HasKind outline_kinds op_outline op
by_op (Create c) fits = of_kind (omega arith) create_outline c fits.0
by_op (Write w) fits = of_kind (omega arith) place_outline w fits
by_op (Truncate t) fits = of_kind (omega arith) truncate_outline t fits.0
by_op (Link l) fits = of_kind (omega arith) link_outline l fits.0
by_op (Rename r) fits = of_kind (omega arith) rename_outline r fits.0
by_op (Unlink u) fits = of_kind (omega arith) unlink_outline u fits.0
by_op (Take t) fits = of_kind (omega arith) take_outline t fits.0
by_op (Drop d) fits = of_kind (omega arith) drop_outline d fits.0

op_of : Makes outlined_op (λ op. op) Fits op_outline
unfolding outlined_op
op_of = one_makes by_number by_op

-- ---- operations one after another

-- a count is spelled as a number is
pub number_is_u64 : (n : ℕ) → IsNumber n → (n < 2 ^ 64) × (u64_bytes n ≡ u64_bytes n)
number_is_u64 n is = (is.1, refl)

number_of : Makes number_part (λ n. n) IsNumber u64_bytes
unfolding number_part
number_of = part_makes (part_lawful IsNumber u64_bytes (λ a b rest behind x y e. u64_told a b rest behind x.1 y.1 e))

outline_of : Makes outline_format (λ ops. ops) (λ ops. IsNumber (length ops) × EachFrom (λ _ op. Fits op) (λ _. 0) 0 ops) outline_bytes
unfolding outline_format outlined_ops
outline_of = counted (λ _. 0) (λ _. op_of) 0 number_of

-- ---- what is left of the operations

bare_is : (op : Op) → IsOp op → Fits (op_without_bytes op)
bare_is (Create c) is = (is, tt)
bare_is (Write w) is = (record { file = is.file; off = is.off }, refl)
bare_is (Truncate t) is = (is, tt)
bare_is (Link l) is = (is, tt)
bare_is (Rename r) is = (is, tt)
bare_is (Unlink u) is = (is, tt)
bare_is (Take t) is = (is, tt)
bare_is (Drop d) is = (is, tt)

all_bare : (s : ℕ) (ops : List Op) → AllByRecursion IsOp ops → EachFrom (λ _ op. Fits op) (λ _. 0) s (map op_without_bytes ops)
all_bare s [] are = tt
all_bare s (op ∷ ops) are = (bare_is op are.0, all_bare 0 ops are.1)

-- an operation has the outline that it has without its bytes
same_outline : (op : Op) → op_outline (op_without_bytes op) ≡ op_outline op
same_outline (Create c) = refl
same_outline (Write w) = refl
same_outline (Truncate t) = refl
same_outline (Link l) = refl
same_outline (Rename r) = refl
same_outline (Unlink u) = refl
same_outline (Take t) = refl
same_outline (Drop d) = refl

same_outlines : (ops : List Op) → flat_map op_outline (map op_without_bytes ops) ≡ flat_map op_outline ops
same_outlines [] = refl
same_outlines (op ∷ ops) =
    ap (λ (l : List ℕ). l ++ flat_map op_outline (map op_without_bytes ops)) (same_outline op)
    ∙ ap (λ (l : List ℕ). op_outline op ++ l) (same_outlines ops)

-- ---- what is read

-- what is spelled so is read, without the bytes of its writes
pub only : (bytes : List ℕ) (r : Result (List Op) Refusal) → Decodes outline_format bytes r → (ops : List Op) → IsOutlineOf ops bytes → (r ≡ Ok (map op_without_bytes ops)) ⊎ (r ≡ Err NoMemory)
only bytes r read ops is =
    let many : length (map op_without_bytes ops) ≡ length ops = length-map ops op_without_bytes in
    only_by outline_of bytes r read (map op_without_bytes ops)
    (subst IsNumber (sym many) is.number, all_bare 0 ops is.are)
    (is.spelled
    ∙ ap (λ (n : ℕ). u64_bytes n ++ flat_map op_outline ops) (sym many)
    ∙ ap (λ (l : List ℕ). u64_bytes (length (map op_without_bytes ops)) ++ l) (sym (same_outlines ops)))

-- the kinds behind that of a write
abbrev others : List (ℕ × Format Op)
others =
    (3, truncate_fields)
    ∷ (4, link_fields)
    ∷ (5, rename_fields)
    ∷ (6, unlink_fields)
    ∷ (7, take_fields)
    ∷ (8, drop_fields)
    ∷ []

-- what comes of the fields of an operation comes of them in an outline, where it is no write
pub takes_too : (n : ℕ) → (n ≡ 2 → ⊥) → (old : Reading) (r : Result Op Refusal) (new : Reading) → Takes (fields_of op_kinds n) old r new → Takes (fields_of outline_kinds n) old r new
takes_too n other old r new = go (nat_eq n 1) (nat_eq n 2) refl
  where
    go : (one two : Bool) → nat_eq n 2 ≡ two → Takes (cond one create_fields (cond two write_fields (fields_of others n))) old r new → Takes (cond one create_fields (cond two place_fields (fields_of others n))) old r new
    go true two is takes = takes
    go false true is takes = absurd (other (eqb-true _ _ is))
    go false false is takes = takes

-- an operation that is no write has the outline that it has in an item
pub as_in_item : (op : Op) → ((w : _) → op ≡ Write w → ⊥) → op_bytes op ≡ op_outline op
as_in_item (Create c) other = refl
as_in_item (Write w) other = absurd (other w refl)
as_in_item (Truncate t) other = refl
as_in_item (Link l) other = refl
as_in_item (Rename r) other = refl
as_in_item (Unlink u) other = refl
as_in_item (Take t) other = refl
as_in_item (Drop d) other = refl

-- an outline that is read is that of these operations
pub read_so : (bytes : List ℕ) (r : Result (List Op) Refusal) → Decodes outline_format bytes r → (ops : List Op) → IsOutlineOf ops bytes → (batch : List Op) → r ≡ Ok batch → batch ≡ map op_without_bytes ops
read_so bytes r read ops is batch r_is = go (only bytes r read ops is)
  where
    go : (r ≡ Ok (map op_without_bytes ops)) ⊎ (r ≡ Err NoMemory) → batch ≡ map op_without_bytes ops
    go (inl same) = cc
    go (inr none) = absurd cc

-- it is refused for want of memory alone
pub not_refused : (bytes : List ℕ) (r : Result (List Op) Refusal) → Decodes outline_format bytes r → (ops : List Op) → IsOutlineOf ops bytes → (e : Refusal) → r ≡ Err e → (e ≡ NoMemory → ⊥) → ⊥
not_refused bytes r read ops is e r_is other = go (only bytes r read ops is)
  where
    go : (r ≡ Ok (map op_without_bytes ops)) ⊎ (r ≡ Err NoMemory) → ⊥
    go (inl same) = cc
    go (inr none) = let same : e ≡ NoMemory = cc in other same
