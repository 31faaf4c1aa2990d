-- Areas as a format: each has one spelling, which begins no other.
use Rattle.std.proofs.Common.{◌≡◌, ℕ, ◌<◌, ◌≤◌, ◌^◌, ◌||◌, nat_eq, nat_lt, true, List, ◌++◌, length, inl, inr, refl, sym, ap, subst, append_assoc, arith}
use Rattle.std.proofs.lemmas.Bool.{or_parts, not-true, ltb-false}
use Rattle.std.specs.Cmp.{first_so}
use Rattle.su_bytes.specs.Principal.{is_user, is_group}
use Rattle.su_bytes.specs.FileId.{is_inum}
use Rattle.su_bytes.specs.Name.{is_name}
use Rattle.su_bytes.specs.Place.{Place, GroupFile}
use Rattle.su_bytes.specs.declared.refusals.Refusal.{Refusal}
use Rattle.su_bytes.specs.declared.refusals.Refusal.TheVariants.{NoMemory}
use Rattle.su_op.specs.declared.areas.BlockRun.{BlockRun}
use Rattle.su_op.specs.declared.areas.Part.{Part}
use Rattle.su_op.specs.declared.areas.Part.TheVariants.{Kind as KindPart, Links as LinksPart, Size as SizePart, Name as NamePart, Blocks as BlocksPart, Whole as WholePart}
use Rattle.su_op.specs.declared.areas.Area.{Area}
use Rattle.su_op.specs.declared.areas.Area.TheVariants.{Inode as InodeArea, Pointer as PointerArea}
use Rattle.su_format.specs.Format.{part, making, ◌>>=◌, IsLawful}
use Rattle.su_format.specs.Part.{u8_bytes, u32_bytes, name_bytes, group_part}
use Rattle.su_format.specs.Reading.{Reading, Refuses}
use Rattle.su_format.proofs.Public.{Makes, said_as, known_as, last_of, in_order_of, told_by, part_makes, part_lawful, in_order, making_lawful, group_lawful, u8_of, u32_of, bytes_of, user_of, inum_of}
use Rattle.su_kept_areas.specs.declared.kinds.PartKind.{PartKind}
use Rattle.su_kept_areas.specs.declared.kinds.PartKind.TheVariants.{Kind, Links, Size, Whole, Blocks, Name}
use Rattle.su_kept_areas.specs.declared.kinds.AreaKind.{AreaKind}
use Rattle.su_kept_areas.specs.declared.kinds.AreaKind.TheVariants.{Inode, Pointer}
use Rattle.su_kept_areas.specs.Spelling.{part_kind, kind_of, kind_number, place_bytes, part_bytes, fields_bytes, IsPart, IsArea, BeginsWith}
use Rattle.su_kept_areas.specs.Format.{AnyKind, kind_byte, kind_part, place_format, group_file_format, run_format, short_format, part_format, fields_format, area_format}

-- ---- kinds

part_kind_told : (a b : PartKind) → kind_number (Inode a) ≡ kind_number (Inode b) → a ≡ b
part_kind_told Kind Kind e = refl
part_kind_told Links Links e = refl
part_kind_told Size Size e = refl
part_kind_told Whole Whole e = refl
part_kind_told Blocks Blocks e = refl
part_kind_told Name Name e = refl
part_kind_told a b e = absurd (omega arith)

part_kind_is_some : (a : PartKind) → 1 ≤ kind_number (Inode a)
part_kind_is_some Kind = omega arith
part_kind_is_some Links = omega arith
part_kind_is_some Size = omega arith
part_kind_is_some Whole = omega arith
part_kind_is_some Blocks = omega arith
part_kind_is_some Name = omega arith

-- each has a byte of its own
kind_told : (a b : AreaKind) → kind_number a ≡ kind_number b → a ≡ b
kind_told Pointer Pointer e = refl
kind_told (Inode a) (Inode b) e = ap Inode (part_kind_told a b e)
kind_told Pointer (Inode b) e = absurd (omega (arith, part_kind_is_some b, e))
kind_told (Inode a) Pointer e = absurd (omega (arith, part_kind_is_some a, e))

-- it is a byte
pub kind_is_byte : (k : AreaKind) → AnyKind k → (kind_number k < 256) × (u8_bytes (kind_number k) ≡ kind_byte k)
kind_is_byte Pointer any = (omega arith, refl)
kind_is_byte (Inode Kind) any = (omega arith, refl)
kind_is_byte (Inode Links) any = (omega arith, refl)
kind_is_byte (Inode Size) any = (omega arith, refl)
kind_is_byte (Inode Whole) any = (omega arith, refl)
kind_is_byte (Inode Blocks) any = (omega arith, refl)
kind_is_byte (Inode Name) any = (omega arith, refl)

pub kind_lawful : IsLawful kind_part
unfolding kind_part
kind_lawful = part_lawful AnyKind kind_byte (λ a b rest behind _ _ e.
    let number : kind_number a ≡ kind_number b = cc in
    let same : rest ≡ behind = cc in
    (kind_told a b number, same))

-- ---- fields

-- a user, and a number of the user's table
abbrev IsPlace : Place → Type 0
IsPlace p = (is_user p.0 ≡ true) × (is_inum p.1 ≡ true)

-- a group, and a number of the group's table
abbrev IsGroupFile : GroupFile → Type 0
IsGroupFile g = (is_group g.0 ≡ true) × (is_inum g.1 ≡ true)

-- a run of 32 bits each
abbrev IsRun : BlockRun → Type 0
IsRun r = (r.first < 2 ^ 32) × (r.more < 2 ^ 32)

-- bytes that a byte can count
abbrev IsShort : List ℕ → Type 0
IsShort x = length x < 256

group_of : Makes group_part (λ g. g) (λ g. is_group g ≡ true) u8_bytes
unfolding group_part
group_of = part_makes group_lawful

pub place_of : Makes place_format (λ p. p) IsPlace place_bytes
unfolding place_format
place_of = said_as (in_order_of user_of (λ user. last_of inum_of _)) (λ p. p) (λ p. p) (λ p is. (is, refl, refl)) (λ p is. (is, refl, refl))

pub group_file_of : Makes group_file_format (λ g. g) IsGroupFile place_bytes
unfolding group_file_format
group_file_of = said_as (in_order_of group_of (λ group. last_of inum_of _)) (λ g. g) (λ g. g) (λ g is. (is, refl, refl)) (λ g is. (is, refl, refl))

pub run_of : Makes run_format (λ r. r) IsRun (λ r. u32_bytes r.first ++ u32_bytes r.more)
unfolding run_format
run_of =
    said_as (in_order_of u32_of (λ first. last_of u32_of _))
    (λ p. record { first = p.0; more = p.1 }) (λ r. (r.first, r.more)) (λ p is. (is, refl, refl)) (λ r is. (is, refl, refl))

pub short_of : Makes short_format (λ x. x) IsShort name_bytes
unfolding short_format
short_of = known_as (told_by length u8_of (λ n. last_of (bytes_of n) _) (λ n x long. long)) (λ x is. is.0) (λ x is. (is, refl))

-- a name is short
pub name_short : (x : List ℕ) → is_name x ≡ true → IsShort x
name_short x is =
    let sizes = not-true (nat_eq (length x) 0 || nat_lt 255 (length x)) (first_so _ _ (first_so _ _ is)) in
    let few : length x ≤ 255 = ltb-false 255 (length x) (or_parts (nat_eq (length x) 0) (nat_lt 255 (length x)) sizes).1 in
    omega arith

-- ---- parts

pub part_format_lawful : (k : PartKind) → IsLawful (part_format k)
unfolding part_format
part_format_lawful Kind = making_lawful KindPart
part_format_lawful Links = making_lawful LinksPart
part_format_lawful Size = making_lawful SizePart
part_format_lawful Whole = making_lawful WholePart
part_format_lawful Blocks = (last_of run_of BlocksPart).lawful
part_format_lawful Name = (last_of short_of NamePart).lawful

part_begins : (a : Part) (rest : List ℕ) → IsPart a → (part_format (part_kind a)).Begins (part_bytes a ++ rest) a rest
unfolding part_format making
part_begins KindPart rest is = (refl, refl)
part_begins LinksPart rest is = (refl, refl)
part_begins SizePart rest is = (refl, refl)
part_begins WholePart rest is = (refl, refl)
part_begins (BlocksPart r) rest is = (last_of run_of BlocksPart).begins (part_bytes (BlocksPart r) ++ rest) r rest is refl
part_begins (NamePart x) rest is = (last_of short_of NamePart).begins (part_bytes (NamePart x) ++ rest) x rest (name_short x is) refl

-- ---- areas

fields_lawful : (k : AreaKind) → IsLawful (fields_format k)
unfolding fields_format
fields_lawful Pointer = (last_of group_file_of PointerArea).lawful
fields_lawful (Inode k) =
    in_order place_format (λ p. part_format k >>= (λ a. making (InodeArea p a))) place_of.lawful
    (λ p. in_order (part_format k) (λ a. making (InodeArea p a)) (part_format_lawful k) (λ a. making_lawful (InodeArea p a)))

fields_begins : (a : Area) (rest : List ℕ) → IsArea a → (fields_format (kind_of a)).Begins (fields_bytes a ++ rest) a rest
unfolding fields_format making ◌>>=◌
fields_begins (PointerArea g) rest is = (g, rest, group_file_of.begins (fields_bytes (PointerArea g) ++ rest) g rest is refl, (refl, refl))
fields_begins (InodeArea p a) rest is = (
  p,
  part_bytes a ++ rest,
  place_of.begins (fields_bytes (InodeArea p a) ++ rest) p (part_bytes a ++ rest) (is.0, is.1) (append_assoc (place_bytes p) (part_bytes a) rest),
  (a, rest, part_begins a rest is.2, (refl, refl)),
)

pub area_lawful : IsLawful area_format
unfolding area_format
area_lawful = in_order kind_part fields_format kind_lawful fields_lawful

pub area_begins : (bytes : List ℕ) (a : Area) (rest : List ℕ) → BeginsWith bytes a rest → area_format.Begins bytes a rest
unfolding area_format ◌>>=◌ kind_part part
area_begins bytes a rest begins = (kind_of a, fields_bytes a ++ rest, (tt, begins.spelled), fields_begins a rest begins.is)

-- ---- what comes of reading bytes that begin with an area

-- it is the area that is read
pub area_told : (bytes : List ℕ) (a b : Area) (rest left : List ℕ) → BeginsWith bytes a rest → area_format.Begins bytes b left → (b ≡ a) × (left ≡ rest)
area_told bytes a b rest left begins read = area_lawful.told bytes b a left rest read (area_begins bytes a rest begins)

-- only want of memory refuses it
pub area_refused : (old : Reading) (e : Refusal) (a : Area) (rest : List ℕ) → BeginsWith old.left a rest → Refuses area_format old e → e ≡ NoMemory
area_refused old e a rest begins (inl none) = none
area_refused old e a rest begins (inr (place, is, at)) =
    absurd (area_lawful.apart old.left a rest at.behind (area_begins old.left a rest begins) at.fails)

-- ---- what comes of reading bytes that begin with what an area of a known kind has

begins_here : (kind : AreaKind) (bytes : List ℕ) (a : Area) (rest : List ℕ) → kind ≡ kind_of a → bytes ≡ fields_bytes a ++ rest → IsArea a → (fields_format kind).Begins bytes a rest
begins_here kind bytes a rest k l is =
    subst (λ x. (fields_format x).Begins bytes a rest) (sym k) (subst (λ xs. (fields_format (kind_of a)).Begins xs a rest) (sym l) (fields_begins a rest is))

pub fields_told : (kind : AreaKind) (bytes : List ℕ) (a b : Area) (rest left : List ℕ) → kind ≡ kind_of a → bytes ≡ fields_bytes a ++ rest → IsArea a → (fields_format kind).Begins bytes b left → (b ≡ a) × (left ≡ rest)
fields_told kind bytes a b rest left k l is read = (fields_lawful kind).told bytes b a left rest read (begins_here kind bytes a rest k l is)

pub fields_refused : (kind : AreaKind) (old : Reading) (e : Refusal) (a : Area) (rest : List ℕ) → kind ≡ kind_of a → old.left ≡ fields_bytes a ++ rest → IsArea a → Refuses (fields_format kind) old e → e ≡ NoMemory
fields_refused kind old e a rest k l is (inl none) = none
fields_refused kind old e a rest k l is (inr (place, so, at)) =
    absurd ((fields_lawful kind).apart old.left a rest at.behind (begins_here kind old.left a rest k l is) at.fails)
