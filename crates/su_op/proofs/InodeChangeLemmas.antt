-- A change of an inode leaves the cells that it doesn't write, and where it finds the same it leaves the same.
use Rattle.std.proofs.Common.{◌≡◌, ℕ, ◌+◌, ◌-◌, ◌/◌, ◌<◌, ◌≤◌, Bool, true, false, cond, ◌||◌, ◌⊎◌, inl, inr, ⊎_elim, nat_le, nat_eq, min, max, List, [], length, Option, Some, None, refl, sym, ap, ◌∙◌, subst, arith}
use Rattle.std.proofs.lemmas.Bool.{leb-true, leb-false}
use Rattle.std.specs.Bool.{if◌then◌else◌}
use Rattle.std.specs.List.{list_any}
use Rattle.std.specs.FinMap.{get, get-empty}
use Rattle.su_bytes.specs.declared.file_ids.FileId.{FileId}
use Rattle.su_bytes.specs.declared.file_ids.Kind.{Kind}
use Rattle.su_bytes.specs.declared.file_ids.Kind.TheVariants.{File, Dir}
use Rattle.su_node.specs.Name.{Name, name_eq}
use Rattle.su_node.specs.Inode.{Content, Content.Bytes, Content.Names, Inode, kind_of, empty_content}
use Rattle.su_node.specs.Field.{block, Field, Field.KindOf, Field.LinksOf, Field.SizeOf, Field.BlockOf, Field.NameOf, Value.Nothing, Value.AKind, Value.ANumber, block_value, file_value, content_value, field_value}
use Rattle.su_node.specs.InodeChange.{InodeChange, InodeChange.Made, InodeChange.Named, InodeChange.Linked, InodeChange.Written, InodeChange.Resized, InodeChange.Copied, InodeChange.Gone, inode_after, with_name, map_bytes, with_size, with_bytes_at}
use Rattle.su_op.specs.Area.{in_run, in_part}
use Rattle.su_op.specs.Area.{run}
use Rattle.su_op.specs.Footprint.{overwritten_parts, grown_parts, other_size_parts, parts}
use Rattle.su_op.specs.Soundness.{IsA, WellLinked}
use Rattle.su_op.proofs.BlockLemmas.{block-nil, block_value_same, length-with_bytes_at, length-with_size, block_written_alike, block_resized_alike, outside, block_written_within, block_written_beyond, block_resized_outside, resized_same, bytes_same}
use Rattle.su_op.proofs.KeyLemmas.{get-set_name, same_names}
use Rattle.std.proofs.lemmas.Bool.{eqb-true}

abbrev pub HasOneLink : Option Inode → Type 0
HasOneLink o = IsA Dir o → field_value o LinksOf ≡ ANumber 1

-- where a change can be made
abbrev pub Can : InodeChange → Option Inode → Type 0
Can (Made h k) o = field_value o KindOf ≡ Nothing
Can (Named x v) o = IsA Dir o
Can (Linked n) o = IsA File o × (1 ≤ n) × (n ≤ 255)
Can (Written s off xs) o = IsA File o × (field_value o SizeOf ≡ ANumber s) × (0 < length xs)
Can (Resized s t) o = IsA File o × (field_value o SizeOf ≡ ANumber s)
Can (Copied i) o = WellLinked (Some i)
Can Gone o = Unit {0}

outside_run : (a b n : ℕ) → in_run (run a b) n ≡ false → (n < a) ⊎ (b < n)
outside_run a b n e = ⊎_elim (λ l. inl l) (λ l. inr (omega arith)) (outside a (a + (b - a)) n e)

or_no : (b : Bool) → (b || false) ≡ false → b ≡ false
or_no true e = e
or_no false e = e

-- ---- what a change doesn't write

made_leaves : (h : FileId) (k : Kind) (f : Field) → list_any (λ p. in_part p f) (parts (Made h k)) ≡ false → content_value (empty_content k) 1 h f ≡ Nothing
made_leaves h k KindOf out = absurd cc
made_leaves h k LinksOf out = absurd cc
made_leaves h k SizeOf out = absurd cc
made_leaves h File (BlockOf n) out = ap block_value (block-nil n)
made_leaves h Dir (BlockOf n) out = refl
made_leaves h File (NameOf x) out = refl
made_leaves h Dir (NameOf x) out = ap file_value (get-empty _ x)

named_leaves : (x : Name) (v : Option FileId) (c : Content) (f : Field) (h : FileId) (l : ℕ) → list_any (λ p. in_part p f) (parts (Named x v)) ≡ false → content_value (with_name x v c) l h f ≡ content_value c l h f
named_leaves x v (Bytes bs) f h l out = refl
named_leaves x v (Names m) KindOf h l out = refl
named_leaves x v (Names m) LinksOf h l out = refl
named_leaves x v (Names m) SizeOf h l out = refl
named_leaves x v (Names m) (BlockOf n) h l out = refl
named_leaves x v (Names m) (NameOf y) h l out = ap file_value (get-set_name m x v y ∙ ap (λ b. cond b v (get m y)) (or_no (name_eq y x) out))

linked_leaves : (c : Content) (f : Field) (h : FileId) (l n : ℕ) → list_any (λ p. in_part p f) (parts (Linked n)) ≡ false → content_value c n h f ≡ content_value c l h f
linked_leaves c KindOf h l n out = refl
linked_leaves c LinksOf h l n out = absurd cc
linked_leaves c SizeOf h l n out = refl
linked_leaves (Bytes bs) (BlockOf b) h l n out = refl
linked_leaves (Names m) (BlockOf b) h l n out = refl
linked_leaves (Bytes bs) (NameOf x) h l n out = refl
linked_leaves (Names m) (NameOf x) h l n out = refl

written_leaves : (s off : ℕ) (xs : List ℕ) (c : Content) (f : Field) (h : FileId) (l : ℕ) → kind_of c ≡ File → content_value c l h SizeOf ≡ ANumber s → 0 < length xs
    → (b : Bool) → nat_le (off + length xs) s ≡ b → list_any (λ p. in_part p f) (if b then overwritten_parts off (off + length xs) else grown_parts s off (off + length xs)) ≡ false → content_value (map_bytes (with_bytes_at off xs) c) l h f ≡ content_value c l h f
written_leaves s off xs (Names m) f h l k size some b is out = absurd cc
written_leaves s off xs (Bytes bs) KindOf h l k size some b is out = refl
written_leaves s off xs (Bytes bs) LinksOf h l k size some b is out = refl
written_leaves s off xs (Bytes bs) (NameOf x) h l k size some b is out = refl
written_leaves s off xs (Bytes bs) SizeOf h l k size some false is out = absurd cc
written_leaves s off xs (Bytes bs) SizeOf h l k size some true is out =
    let e : length bs ≡ s = cc in
    let le : off + length xs ≤ s = leb-true (off + length xs) s is in
    let a : length (with_bytes_at off xs bs) ≡ max (off + length xs) (length bs) = length-with_bytes_at off xs bs in
    let same : length (with_bytes_at off xs bs) ≡ length bs = omega arith in
    ap ANumber same
written_leaves s off xs (Bytes bs) (BlockOf n) h l k size some true is out =
    let e : length bs ≡ s = cc in
    let le : off + length xs ≤ s = leb-true (off + length xs) s is in
    ap block_value (block_written_within n off xs bs some (omega arith) (outside_run _ _ n (or_no _ out)))
written_leaves s off xs (Bytes bs) (BlockOf n) h l k size some false is out =
    let e : length bs ≡ s = cc in
    let lt : s < off + length xs = leb-false (off + length xs) s is in
    ap block_value (block_written_beyond n off xs bs some (omega arith) (subst (λ z. (n < min off z / 4096) ⊎ ((off + length xs - 1) / 4096 < n)) (sym e) (outside_run _ _ n (or_no _ out))))

resized_leaves : (s t : ℕ) (c : Content) (f : Field) (h : FileId) (l : ℕ) → kind_of c ≡ File → content_value c l h SizeOf ≡ ANumber s
    → (b : Bool) → nat_eq s t ≡ b → list_any (λ p. in_part p f) (if b then [] else other_size_parts s t) ≡ false → content_value (map_bytes (with_size t) c) l h f ≡ content_value c l h f
resized_leaves s t (Names m) f h l k size b is out = absurd cc
resized_leaves s t (Bytes bs) f h l k size true is out =
    let e : length bs ≡ s = cc in
    let d : s ≡ t = eqb-true s t is in
    ap (λ (b : List ℕ). content_value (Bytes b) l h f) (subst (λ z. with_size z bs ≡ bs) (e ∙ d) (resized_same bs))
resized_leaves s t (Bytes bs) KindOf h l k size false is out = refl
resized_leaves s t (Bytes bs) LinksOf h l k size false is out = refl
resized_leaves s t (Bytes bs) (NameOf x) h l k size false is out = refl
resized_leaves s t (Bytes bs) SizeOf h l k size false is out = absurd cc
resized_leaves s t (Bytes bs) (BlockOf n) h l k size false is out =
    let e : length bs ≡ s = cc in
    ap block_value (block_resized_outside n t bs (subst (λ z. (n < min z t / 4096) ⊎ ((max z t - 1) / 4096 < n)) (sym e) (outside_run _ _ n (or_no _ out))))

kind_is : (k j : Kind) (h g : FileId) → AKind k h ≡ AKind j g → k ≡ j
kind_is k j h g e = cc

pub leaves : (ch : InodeChange) (o : Option Inode) (f : Field) → Can ch o → list_any (λ p. in_part p f) (parts ch) ≡ false → field_value (inode_after ch o) f ≡ field_value o f
leaves (Made h k) None f can out = made_leaves h k f out
leaves (Made h k) (Some i) f can out = absurd cc
leaves (Named x v) None f can out = refl
leaves (Named x v) (Some i) f can out = named_leaves x v i.content f i.home i.links out
leaves (Linked n) None f can out = refl
leaves (Linked n) (Some i) f can out = linked_leaves i.content f i.home i.links n out
leaves (Written s off xs) None f can out = refl
leaves (Written s off xs) (Some i) f ((h, is), size, some) out = written_leaves s off xs i.content f i.home i.links (kind_is _ _ _ _ is) size some (nat_le (off + length xs) s) refl out
leaves (Resized s t) None f can out = refl
leaves (Resized s t) (Some i) f ((h, is), size) out = resized_leaves s t i.content f i.home i.links (kind_is _ _ _ _ is) size (nat_eq s t) refl out
leaves (Copied i) o f can out = absurd cc
leaves Gone o f can out = absurd cc

-- ---- what a change writes

named_alike : (x : Name) (v : Option FileId) (c d : Content) (f : Field) (h g : FileId) (l m : ℕ) → kind_of c ≡ Dir → kind_of d ≡ Dir → content_value c l h f ≡ content_value d m g f → content_value (with_name x v c) l h f ≡ content_value (with_name x v d) m g f
named_alike x v (Bytes bs) d f h g l m k j e = absurd cc
named_alike x v (Names a) (Bytes bs) f h g l m k j e = absurd cc
named_alike x v (Names a) (Names b) KindOf h g l m k j e = e
named_alike x v (Names a) (Names b) LinksOf h g l m k j e = e
named_alike x v (Names a) (Names b) SizeOf h g l m k j e = e
named_alike x v (Names a) (Names b) (BlockOf n) h g l m k j e = e
named_alike x v (Names a) (Names b) (NameOf y) h g l m k j e =
    ap file_value (get-set_name a x v y) ∙ go (name_eq y x) ∙ sym (ap file_value (get-set_name b x v y))
  where
    go : (q : Bool) → file_value (cond q v (get a y)) ≡ file_value (cond q v (get b y))
    go true = refl
    go false = e

linked_alike : (n : ℕ) (c d : Content) (f : Field) (h g : FileId) (l m : ℕ) → content_value c l h f ≡ content_value d m g f → content_value c n h f ≡ content_value d n g f
linked_alike n c d KindOf h g l m e = e
linked_alike n c d LinksOf h g l m e = refl
linked_alike n c d SizeOf h g l m e = e
linked_alike n (Bytes a) (Bytes b) (BlockOf k) h g l m e = e
linked_alike n (Bytes a) (Names b) (BlockOf k) h g l m e = e
linked_alike n (Names a) (Bytes b) (BlockOf k) h g l m e = e
linked_alike n (Names a) (Names b) (BlockOf k) h g l m e = e
linked_alike n (Bytes a) (Bytes b) (NameOf x) h g l m e = e
linked_alike n (Bytes a) (Names b) (NameOf x) h g l m e = e
linked_alike n (Names a) (Bytes b) (NameOf x) h g l m e = e
linked_alike n (Names a) (Names b) (NameOf x) h g l m e = e

-- new bytes that have a size of their own, and blocks that follow from the old block
bytes_alike : (t : List ℕ → List ℕ) (c d : Content) (f : Field) (h g : FileId) (l m s : ℕ) → kind_of c ≡ File → kind_of d ≡ File
    → content_value c l h SizeOf ≡ ANumber s → content_value d m g SizeOf ≡ ANumber s
    → ((a b : List ℕ) → length a ≡ length b → length (t a) ≡ length (t b))
    → ((n : ℕ) (a b : List ℕ) → length a ≡ length b → block n a ≡ block n b → block n (t a) ≡ block n (t b))
    → content_value c l h f ≡ content_value d m g f → content_value (map_bytes t c) l h f ≡ content_value (map_bytes t d) m g f
bytes_alike t (Names a) d f h g l m s k j p q long each e = absurd cc
bytes_alike t (Bytes a) (Names b) f h g l m s k j p q long each e = absurd cc
bytes_alike t (Bytes a) (Bytes b) KindOf h g l m s k j p q long each e = e
bytes_alike t (Bytes a) (Bytes b) LinksOf h g l m s k j p q long each e = e
bytes_alike t (Bytes a) (Bytes b) SizeOf h g l m s k j p q long each e = let same : length a ≡ length b = cc in ap ANumber (long a b same)
bytes_alike t (Bytes a) (Bytes b) (BlockOf n) h g l m s k j p q long each e = let same : length a ≡ length b = cc in ap block_value (each n a b same (block_value_same (block n a) (block n b) e))
bytes_alike t (Bytes a) (Bytes b) (NameOf x) h g l m s k j p q long each e = refl

no_none : {P : Type 0} (k : Kind) → IsA k None → P
no_none k (h, e) = absurd cc

pub alike : (ch : InodeChange) (o p : Option Inode) (f : Field) → Can ch o → Can ch p → field_value o f ≡ field_value p f → field_value (inode_after ch o) f ≡ field_value (inode_after ch p) f
alike (Made h k) o p f a b e = refl
alike (Copied i) o p f a b e = refl
alike Gone o p f a b e = refl
alike (Named x v) None p f a b e = no_none Dir a
alike (Named x v) (Some i) None f a b e = no_none Dir b
alike (Named x v) (Some i) (Some j) f (h, a) (g, b) e = named_alike x v i.content j.content f i.home j.home i.links j.links (kind_is _ _ _ _ a) (kind_is _ _ _ _ b) e
alike (Linked n) None p f (a, _, _) b e = no_none File a
alike (Linked n) (Some i) None f a (b, _, _) e = no_none File b
alike (Linked n) (Some i) (Some j) f a b e = linked_alike n i.content j.content f i.home j.home i.links j.links e
alike (Written s off xs) None p f (a, _, _) b e = no_none File a
alike (Written s off xs) (Some i) None f a (b, _, _) e = no_none File b
alike (Written s off xs) (Some i) (Some j) f ((h, a), p, _) ((g, b), q, _) e =
    bytes_alike (with_bytes_at off xs) i.content j.content f i.home j.home i.links j.links s (kind_is _ _ _ _ a) (kind_is _ _ _ _ b) p q
    (λ a b same. length-with_bytes_at off xs a ∙ ap (max (off + length xs)) same ∙ sym (length-with_bytes_at off xs b)) (λ n a b. block_written_alike n off xs a b) e
alike (Resized s t) None p f (a, _) b e = no_none File a
alike (Resized s t) (Some i) None f a (b, _) e = no_none File b
alike (Resized s t) (Some i) (Some j) f ((h, a), p) ((g, b), q) e =
    bytes_alike (with_size t) i.content j.content f i.home j.home i.links j.links s (kind_is _ _ _ _ a) (kind_is _ _ _ _ b) p q
    (λ a b same. length-with_size t a ∙ sym (length-with_size t b)) (λ n a b same. block_resized_alike n t a b) e

-- ---- links stay in their range

keeps_one_link : (ch : InodeChange) (o : Option Inode) → Can ch o → HasOneLink o → HasOneLink (inode_after ch o)
keeps_one_link (Made h k) o can one is = refl
keeps_one_link (Copied i) o can one is = can.one is
keeps_one_link Gone o can one is = no_none Dir is
keeps_one_link (Named x v) None can one is = no_none Dir is
keeps_one_link (Named x v) (Some i) can one is = one can
keeps_one_link (Linked n) None can one is = no_none Dir is
keeps_one_link (Linked n) (Some i) ((h, a), _, _) one (g, b) = absurd cc
keeps_one_link (Written s off xs) None can one is = no_none Dir is
keeps_one_link (Written s off xs) (Some i) ((h, a), _, _) one is = not_dir i.content (with_bytes_at off xs) i.home is (kind_is _ _ _ _ a)
  where
    not_dir : {P : Type 0} (c : Content) (t : List ℕ → List ℕ) (h : FileId) → ((g : FileId) × (AKind (kind_of (map_bytes t c)) h ≡ AKind Dir g)) → kind_of c ≡ File → P
    not_dir (Bytes bs) t h (g, e) k = absurd cc
    not_dir (Names m) t h (g, e) k = absurd cc
keeps_one_link (Resized s t) None can one is = no_none Dir is
keeps_one_link (Resized s t) (Some i) ((h, a), _) one is = not_dir i.content (with_size t) i.home is (kind_is _ _ _ _ a)
  where
    not_dir : {P : Type 0} (c : Content) (t : List ℕ → List ℕ) (h : FileId) → ((g : FileId) × (AKind (kind_of (map_bytes t c)) h ≡ AKind Dir g)) → kind_of c ≡ File → P
    not_dir (Bytes bs) t h (g, e) k = absurd cc
    not_dir (Names m) t h (g, e) k = absurd cc

pub number_same : (a b : ℕ) → ANumber a ≡ ANumber b → a ≡ b
number_same a b e = cc

keeps_few : (ch : InodeChange) (o : Option Inode) (l : ℕ) → Can ch o → WellLinked o → field_value (inode_after ch o) LinksOf ≡ ANumber l → (1 ≤ l) × (l ≤ 255)
keeps_few (Made h k) o l can linked e = let same : 1 ≡ l = number_same 1 l e in (omega arith, omega arith)
keeps_few (Copied i) o l can linked e = can.few l e
keeps_few Gone o l can linked e = absurd cc
keeps_few (Named x v) None l can linked e = absurd cc
keeps_few (Named x v) (Some i) l can linked e = linked.few l e
keeps_few (Linked n) None l can linked e = absurd cc
keeps_few (Linked n) (Some i) l (_, low, high) linked e = let same : n ≡ l = number_same n l e in (omega arith, omega arith)
keeps_few (Written s off xs) None l can linked e = absurd cc
keeps_few (Written s off xs) (Some i) l can linked e = linked.few l e
keeps_few (Resized s t) None l can linked e = absurd cc
keeps_few (Resized s t) (Some i) l can linked e = linked.few l e

pub stays_linked : (ch : InodeChange) (o : Option Inode) → Can ch o → WellLinked o → WellLinked (inode_after ch o)
stays_linked ch o can linked = record { one = keeps_one_link ch o can linked.one; few = λ l e. keeps_few ch o l can linked e }

-- ---- an inode is known by its cells

pub file_value_same : (o p : Option FileId) → file_value o ≡ file_value p → o ≡ p
file_value_same None None e = refl
file_value_same None (Some x) e = absurd cc
file_value_same (Some x) None e = absurd cc
file_value_same (Some x) (Some y) e = cc

content_same : (c d : Content) (h g : FileId) (l m : ℕ) → ((f : Field) → content_value c l h f ≡ content_value d m g f) → c ≡ d
content_same (Bytes a) (Bytes b) h g l m each = ap Bytes (bytes_same a b (let e = each SizeOf in cc) (λ n. block_value_same _ _ (each (BlockOf n))))
content_same (Names a) (Names b) h g l m each = ap Names (same_names a b (λ x. file_value_same _ _ (each (NameOf x))))
content_same (Bytes a) (Names b) h g l m each = absurd (let e = each KindOf in cc)
content_same (Names a) (Bytes b) h g l m each = absurd (let e = each KindOf in cc)

pub inode_same : (o p : Option Inode) → ((f : Field) → field_value o f ≡ field_value p f) → o ≡ p
inode_same None None each = refl
inode_same None (Some j) each = absurd (let e = each KindOf in cc)
inode_same (Some i) None each = absurd (let e = each KindOf in cc)
inode_same (Some i) (Some j) each =
    let c : i.content ≡ j.content = content_same i.content j.content i.home j.home i.links j.links each in
    let h : i.home ≡ j.home = (let e = each KindOf in cc) in
    let l : i.links ≡ j.links = (let e = each LinksOf in cc) in
    λ k. Some (record { home = h k; links = l k; content = c k })
