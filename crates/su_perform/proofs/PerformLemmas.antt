-- What stands in areas that are loaded is loaded of a forest as its edits ask for it, and known; and what stays so from edit to edit.
use Rattle.std.proofs.Common.{◌≡◌, ◌≢◌, ◌∙◌, ℕ, ◌+◌, ◌-◌, ◌/◌, ◌<◌, ◌≤◌, ◌^◌, min, max, Bool, true, false, cond, IsTrue, [], ◌∷◌, ◌++◌, map, Option, Some, None, refl, sym, ap, subst, arith, inl}
use Rattle.std.specs.Prelude.{Result, Ok, Err, IsErrAnd, IfErr, IfSome, IsSome, nat_eq, nat_le, if◌then◌else◌}
use Rattle.std.specs.Ordering.{eq_by_cmp}
use Rattle.std.proofs.lemmas.Bool.{eqb-true}
use Rattle.std.proofs.lemmas.Bool.Decides.{nat_tests}
use Rattle.std.specs.FinMap.{get}
use Rattle.std.specs.Option.{option_and_then}
use Rattle.su_bytes.specs.Name.{is_name}
use Rattle.su_bytes.specs.Place.{Place, GroupFile, place_cmp}
use Rattle.su_bytes.specs.Principal.{is_user}
use Rattle.su_bytes.specs.declared.file_ids.FileId.{FileId}
use Rattle.su_bytes.specs.declared.file_ids.FileId.TheVariants.{User, Group}
use Rattle.su_node.specs.Name.{Name}
use Rattle.su_bytes.specs.declared.file_ids.Kind.{Kind}
use Rattle.su_node.specs.Inode.{Inode, Content, Content.Bytes, Content.Names, new_inode, size_of}
use Rattle.su_node.specs.InodeChange.{InodeChange, InodeChange.Made, InodeChange.Named, InodeChange.Resized, InodeChange.Gone, inode_after, map_bytes, with_size}
use Rattle.su_node.specs.Field.{Field.SizeOf, content_value, field_value}
use Rattle.su_node.proofs.Public.{eq_by_cmp-same}
use Rattle.su_node.specs.Digest.{block_count}
use Rattle.su_table.specs.Cell.{Cell, Cell.At, Cell.Pointer, val}
use Rattle.su_table.specs.Edit.{Edit.Inodes, edit, edits}
use Rattle.su_table.specs.Query.{is_free_at, size_at, value_number}
use Rattle.su_table.specs.Tree.{Tree}
use Rattle.su_table.proofs.Public.{place_cmp_exact}
use Rattle.su_op.specs.Footprint.{edits_areas, grown_parts, other_size_parts, overwritten_parts, resized_parts, written_parts}
use Rattle.su_op.specs.Growth.{AreFreeFor}
use Rattle.su_op.specs.Unlink.{fewer_links, file_goes, link_goes}
use Rattle.su_op.specs.declared.areas.Area.TheVariants.{Inode as InodeArea}
use Rattle.su_op.proofs.Public.{resized_same, tree_same}
use Rattle.su_op.proofs.GrowthLemmas.{copied_gone, edit-copied_new, get-edit}
use Rattle.su_op.specs.Rule.{plan_reads, plan_writes, pointer_areas, pointer_edits}
use Rattle.su_op.specs.declared.areas.Part.TheVariants.{Whole as WholePart}
use Rattle.su_op.proofs.RuleLemmas.{pointer_written}
use Rattle.su_op.proofs.TakeLemmas.{take_writes}
use Rattle.su_group_part.specs.Part.{HasPointer, KnowsPointer}
use Rattle.su_group_part.specs.declared.groups.GroupPart.{GroupPart}
use Rattle.su_part.specs.declared.inodes.PartInode.{PartInode}
use Rattle.su_part.specs.declared.inodes.PartContent.{PartContent}
use Rattle.su_part.specs.declared.inodes.PartContent.TheVariants.{Bytes as LoadedBytes, Names as LoadedNames}
use Rattle.su_part.specs.declared.fetches.Wanted.{Wanted}
use Rattle.su_part.specs.declared.fetches.Wanted.TheVariants.{Nothing, Name as WantedName, Blocks, Write}
use Rattle.su_part.specs.declared.users.UserPart.{UserPart}
use Rattle.su_part.specs.Cut.{HasCutIn}
use Rattle.su_part.specs.Fetches.{HasWanted, HasWantedAt}
use Rattle.su_part.specs.Item.{MeantInode}
use Rattle.su_part.specs.Known.{Knows as KnowsOf, Want.AnInode, Want.AName}
use Rattle.su_part.specs.Part.{HasAt as HasOf, HasBlocksIn, HasWriteIn, IfLoaded, IsOpenAt, IsThere, MeantAt, StandsAt, StandsContent, StandsInode, StandsJust, StandsUser, at_number}
use Rattle.su_part.specs.Seen.{loaded_inodes}
use Rattle.su_part.proofs.KnownLemmas.{size_there}
use Rattle.su_part.proofs.Public.{knows_name}
use Rattle.su_part_forest.specs.Forest.{HasPointerAt, IsPart, IsThereAt, Stands, group_part, user_part}
use Rattle.su_part_forest.specs.Known.{HasCutAt, Knows, StaysKnown, Want.OfUser, Want.OfGroup}
use Rattle.su_part_forest.specs.Loading.{HasAt, KeepsLoaded}
use Rattle.su_part_forest.specs.declared.forests.PartForest.{PartForest}
use Rattle.su_part_forest.proofs.Public.{free_none, has_again, has_inode_of, pointer_again}
use Rattle.su_perform.specs.Accepted.{planned_create, planned_take}
use Rattle.su_perform.specs.Loaded.{HasAreas, OpenAt}
use Rattle.su_perform.specs.Performed.{CanCopy, IsReady, KnowsPointerOf, created_at}
use Rattle.su_perform.specs.declared.create.AcceptedCreate.{AcceptedCreate}
use Rattle.su_perform.specs.declared.take.AcceptedTake.{AcceptedTake}
use Rattle.su_perform.proofs.LoadedLemmas.{areas_right}

-- a run of blocks has each block that has bytes from where it begins up to its end
in_run : (first end n : ℕ) → first / 4096 ≤ n → n < block_count end → end < 2 ^ 32 → n < min (first / 4096 + ((end - 1) / 4096 - first / 4096) + 1) 4294967295
in_run first end n low high small = omega (arith, low, high, small)

module _ (f : PartForest) (T : Tree) (h : Stands f T) (p : Place) where
  -- ---- what is open is loaded

  pub has_of_open : (w : Wanted) → OpenAt T p w f → HasAt p w f
  has_of_open w opens = go (is_user p.0) (user_part p.0 f) (h.users p.0) opens
    where
      go : (b : Bool) (o : Option UserPart) → IsPart (λ q. StandsUser p.0 q T) b o → IfSome o (λ q. IsOpenAt p.1 (HasWanted w) q × IsThere p.0 T p.1 q) → IfSome o (HasWantedAt p.1 w)
      go b None s has = tt
      go true (Some q) s (has, there) = record { inode = has_inode_of p.0 p.1 T q s has.path there; part = has.part }
      go false (Some q) s has = absurd (let z : Some q ≡ None = s in cc)

  pub there_open : (w : Wanted) → OpenAt T p w f → IsThereAt p T f
  there_open w opens = go (is_user p.0) (user_part p.0 f) (h.users p.0) (h.no_user p.0 p.1) opens
    where
      go : (b : Bool) (o : Option UserPart) → IsPart (λ q. StandsUser p.0 q T) b o → (b ≡ false → get T.inodes (p.0, p.1) ≡ None) → IfSome o (λ q. IsOpenAt p.1 (HasWanted w) q × IsThere p.0 T p.1 q)
          → get T.inodes (p.0, p.1) ≢ None → IsSome (option_and_then (λ q. at_number (loaded_inodes q) p.1) o)
      go true None s none has some = absurd s
      go true (Some q) s none (has, there) some = there some
      go false None s none has some = absurd (some (none refl))
      go false (Some q) s none has some = absurd (let z : Some q ≡ None = s in cc)

  -- ---- and known

  pub knows_open : (w : Wanted) → p.1 < 2 ^ 32 → OpenAt T p w f → Knows T (OfUser p.0 (AnInode p.1)) f
  knows_open w small opens = go (user_part p.0 f) opens
    where
      go : (o : Option UserPart) → IfSome o (λ q. IsOpenAt p.1 (HasWanted w) q × IsThere p.0 T p.1 q) → IfSome o (KnowsOf p.0 T (AnInode p.1))
      go None has = tt
      go (Some q) (has, there) = record { number = small; path = inl has.path; there = there }

  pub knows_named : (x : Name) → p.1 < 2 ^ 32 → IsTrue (is_name x) → OpenAt T p (WantedName x) f → Knows T (OfUser p.0 (AName p.1 x)) f
  knows_named x small named opens = go (is_user p.0) (user_part p.0 f) (h.users p.0) (has_of_open (WantedName x) opens)
    where
      go : (b : Bool) (o : Option UserPart) → IsPart (λ q. StandsUser p.0 q T) b o → IfSome o (HasWantedAt p.1 (WantedName x)) → IfSome o (KnowsOf p.0 T (AName p.1 x))
      go b None s has = tt
      go true (Some q) s has = knows_name p.0 T p.1 q small s x named has
      go false (Some q) s has = absurd (let z : Some q ≡ None = s in cc)

  -- ---- what edits of a file ask for

  -- of the inode there, if it is loaded, so much is that it meets P; each inode meets it in which these blocks are loaded
  open_blocks : (P : PartContent → Type 0) (first last : ℕ) → ((c : PartContent) (d : Content) → StandsContent c d → size_at T p ≡ size_of d → HasBlocksIn first last c → P c) → OpenAt T p (Blocks first last) f
      → IfSome (user_part p.0 f) (HasOf p.1 (λ i. P i.content))
  open_blocks P first last meets opens = go (is_user p.0) (user_part p.0 f) (h.users p.0) (has_of_open (Blocks first last) opens)
    where
      inside : (o : Option PartInode) (i : Option Inode) → get T.inodes p ≡ i → StandsAt o i → IfLoaded (λ c. HasBlocksIn first last c.content) o → IfLoaded (λ c. P c.content) o
      inside None i at s has = tt
      inside (Some c) None at s has = absurd s
      inside (Some c) (Some i) at s has = meets c.content i.content s.content (size_there T p.0 p.1 i at) has

      go : (b : Bool) (o : Option UserPart) → IsPart (λ q. StandsUser p.0 q T) b o → IfSome o (HasWantedAt p.1 (Blocks first last)) → IfSome o (HasOf p.1 (λ i. P i.content))
      go b None s has = tt
      go true (Some q) s has = record { inode = has.inode; part = inside (at_number q.inodes.entries p.1) (get T.inodes p) refl (s.inodes p.1) has.part }
      go false (Some q) s has = absurd (let z : Some q ≡ None = s in cc)

  pub write_of : (first end off len : ℕ) → first ≡ min off (size_at T p) → end ≡ off + len → end < 2 ^ 32 → OpenAt T p (Blocks (first / 4096) (min (first / 4096 + ((end - 1) / 4096 - first / 4096) + 1) 4294967295)) f → HasAt p (Write off len) f
  write_of first end off len begins ends small opens = open_blocks (HasWriteIn off len) _ _ meets opens
    where
      meets : (c : PartContent) (d : Content) → StandsContent c d → size_at T p ≡ size_of d → HasBlocksIn (first / 4096) (min (first / 4096 + ((end - 1) / 4096 - first / 4096) + 1) 4294967295) c → HasWriteIn off len c
      meets (LoadedNames t) d s e has = tt
      meets (LoadedBytes b) (Names m) s e has = absurd s
      meets (LoadedBytes b) (Bytes bs) s e has = λ n low high.
          let is = s.size in
          let low' : first / 4096 ≤ n = omega (arith, low, begins, is, e) in
          has n low' (in_run first end n low' (subst (λ k. n < block_count k) (sym ends) high) small)

  pub cut_of : (first end : ℕ) → first ≤ end → end ≡ size_at T p → end < 2 ^ 32 → OpenAt T p (Blocks (first / 4096) (min (first / 4096 + ((end - 1) / 4096 - first / 4096) + 1) 4294967295)) f → HasCutAt p first f
  cut_of first end within ends small opens = open_blocks (HasCutIn first) _ _ meets opens
    where
      meets : (c : PartContent) (d : Content) → StandsContent c d → size_at T p ≡ size_of d → HasBlocksIn (first / 4096) (min (first / 4096 + ((end - 1) / 4096 - first / 4096) + 1) 4294967295) c → HasCutIn first c
      meets (LoadedNames t) d s e has = tt
      meets (LoadedBytes b) (Names m) s e has = absurd s
      meets (LoadedBytes b) (Bytes bs) s e has =
          let is = s.size in
          record {
            paths = λ n low lt. (has n low (in_run first end n low (omega (arith, lt, is, e, ends)) small)).path;
            block = λ n low high lt. let from : first / 4096 ≤ n = omega (arith, high) in (has n from (in_run first end n from (omega (arith, low, lt, is, e, ends)) small)).there (omega (arith, low, lt));
          }

  -- a write asks for what it writes
  pub written : (size off len : ℕ) → size_at T p ≡ size → off + len < 2 ^ 32 → HasAreas T f (map (InodeArea p) (written_parts size off (off + len)) ++ []) → HasAt p (Write off len) f
  written size off len is small has = go (nat_le (off + len) size) refl has
    where
      go : (b : Bool) → nat_le (off + len) size ≡ b → HasAreas T f (map (InodeArea p) (if b then overwritten_parts off (off + len) else grown_parts size off (off + len)) ++ []) → HasAt p (Write off len) f
      go true e has = write_of off (off + len) off len (grind (arith, nat_tests, e, is)) refl small has.0
      go false e has = write_of (min off size) (off + len) off len (ap (min off) (sym is)) refl small has.1.0

  module _ (size new : ℕ) (is : size_at T p ≡ size) where
    other_size : size ≢ new → HasAreas T f (map (InodeArea p) (resized_parts size new) ++ []) → OpenAt T p (Blocks (min size new / 4096) (min (min size new / 4096 + ((max size new - 1) / 4096 - min size new / 4096) + 1) 4294967295)) f
    other_size other has = go (nat_eq size new) refl has
      where
        go : (b : Bool) → nat_eq size new ≡ b → HasAreas T f (map (InodeArea p) (if b then [] else other_size_parts size new) ++ [])
            → OpenAt T p (Blocks (min size new / 4096) (min (min size new / 4096 + ((max size new - 1) / 4096 - min size new / 4096) + 1) 4294967295)) f
        go true e has = absurd (other (eqb-true size new e))
        go false e has = has.1.0

    -- so does a change of a size
    pub grown : size < new → new < 2 ^ 32 → HasAreas T f (map (InodeArea p) (resized_parts size new) ++ []) → HasAt p (Write new 0) f
    grown above small has = write_of (min size new) (max size new) new 0 (omega (arith, above, is)) (omega (arith, above)) (omega (arith, above, small)) (other_size (λ e. omega (arith, above, e)) has)

    pub shrunk : new < size → size < 2 ^ 32 → HasAreas T f (map (InodeArea p) (resized_parts size new) ++ []) → HasCutAt p new f
    shrunk below small has =
        subst (λ k. HasCutAt p k f) (omega (arith, below)) (cut_of (min size new) (max size new) (omega arith) (omega (arith, below, is)) (omega (arith, below, small)) (other_size (λ e. omega (arith, below, e)) has))

-- ---- pointers

pub knows_pointer : (f : PartForest) (T : Tree) (g : GroupFile) → HasPointerAt g f → Knows T (OfGroup g) f
knows_pointer f T g has = go (group_part g.0 f) has
  where
    go : (o : Option GroupPart) → IfSome o (HasPointer g.1) → IfSome o (KnowsPointer g.0 T g.1)
    go None has = tt
    go (Some q) has = inl has

-- ---- after an edit

pub pointers_again : (f g : PartForest) (T V : Tree) → KeepsLoaded f g → Stands f T → Stands g V → (file : FileId) (v : Option Place) → HasAreas T f (edits_areas (pointer_edits file v)) → HasAreas V g (edits_areas (pointer_edits file v))
pointers_again f g T V keeps before after (User u n) v has = tt
pointers_again f g T V keeps before after (Group k n) v (has, more) = (pointer_again f g T V keeps before after (k, n) has, tt)

-- ---- trees that are the same

module _ (T : Tree) (p : Place) (ch : InodeChange) (none : inode_after ch (get T.inodes p) ≡ get T.inodes p) where
  change_same : (q : Place) → get (edit T (Inodes p ch)).inodes q ≡ get T.inodes q
  change_same q = get-edit T p ch q ∙ go (eq_by_cmp place_cmp q p) refl
    where
      go : (b : Bool) → eq_by_cmp place_cmp q p ≡ b → cond b (inode_after ch (get T.inodes p)) (get T.inodes q) ≡ get T.inodes q
      go true e = none ∙ ap (get T.inodes) (sym (eq_by_cmp-same place_cmp_exact q p e))
      go false e = refl

  -- a change that changes nothing
  pub nothing_done : edit T (Inodes p ch) ≡ T
  unfolding val edit
  nothing_done = tree_same (edit T (Inodes p ch)) T each
    where
      each : (c : Cell) → val (edit T (Inodes p ch)) c ≡ val T c
      each (At q field) = ap (λ o. field_value o field) (change_same q)
      each (Pointer g) = refl

-- a file gets the size that it has
pub same_size : (T : Tree) (p : Place) (size : ℕ) → size_at T p ≡ size → edit T (Inodes p (Resized size size)) ≡ T
unfolding val
same_size T p size is = nothing_done T p (Resized size size) (go (get T.inodes p) is)
  where
    content : (c : Content) (l : ℕ) (home : FileId) → value_number (content_value c l home SizeOf) ≡ size → map_bytes (with_size size) c ≡ c
    content (Bytes bs) l home e = ap Bytes (ap (λ n. with_size n bs) (sym e) ∙ resized_same bs)
    content (Names m) l home e = refl

    go : (o : Option Inode) → value_number (field_value o SizeOf) ≡ size → inode_after (Resized size size) o ≡ o
    go None e = refl
    go (Some i) e = ap (λ c. Some (record i { content = c })) (content i.content i.links i.home e)

-- none goes where none stands
pub none_gone : (T : Tree) (p : Place) → is_free_at T p ≡ true → edit T (Inodes p Gone) ≡ T
none_gone T p free = nothing_done T p Gone (sym (free_none T p free))

-- a new inode goes again
pub made_gone : (T : Tree) (p : Place) (home : FileId) (kind : Kind) → is_free_at T p ≡ true → edit (edit T (Inodes p (Made home kind))) (Inodes p Gone) ≡ T
made_gone T p home kind free = subst (λ S. edit S (Inodes p Gone) ≡ T) (edit-copied_new T p home kind) (copied_gone T p (new_inode home kind) free)

-- ---- operations

-- behind the name of a create
pub ready : (x : AcceptedCreate) (name : Name) → name ≡ x.create.now.name → (f g : PartForest) (T : Tree) → Stands f T → x.create.now.body < 2 ^ 32 → AreFreeFor T (planned_create x).edits → HasAreas T f (plan_writes (planned_create x)) → KeepsLoaded f g
    → Stands g (edit T (Inodes x.directory (Named name (Some x.create.now.file)))) → StaysKnown T (edit T (Inodes x.directory (Named name (Some x.create.now.file)))) f g → IsReady (edit T (Inodes x.directory (Named name (Some x.create.now.file)))) g x
ready x name same f g T h small fits has keeps after known = record {
  free = subst (λ n. is_free_at (edit T (Inodes x.directory (Named n (Some x.create.now.file)))) (created_at x) ≡ true) (sym same) fits.1.0;
  inode = has_again f g T (edit T (Inodes x.directory (Named name (Some x.create.now.file)))) keeps h after (created_at x) (has_of_open f T h (created_at x) Nothing has.1.0)
      (known (OfUser x.author (AnInode x.create.now.body)) (knows_open f T h (created_at x) Nothing small has.1.0));
  pointer = pointers_again f g T (edit T (Inodes x.directory (Named name (Some x.create.now.file)))) keeps h after x.create.now.file (Some (created_at x)) has.1.1.1.1;
}

-- the link that goes, or the file
pub few_links : (links : ℕ) (file : FileId) (p : Place) → 2 ≤ links → link_goes links file p ≡ fewer_links links p
few_links links file p many = let e : nat_le 2 links ≡ true = grind (arith, nat_tests, many) in ap (λ b. if b then fewer_links links p else file_goes file p) e

pub last_link : (links : ℕ) (file : FileId) (p : Place) → links < 2 → link_goes links file p ≡ file_goes file p
last_link links file p few = let e : nat_le 2 links ≡ false = grind (arith, nat_tests, few) in ap (λ b. if b then fewer_links links p else file_goes file p) e

pub goes_known : (f : PartForest) (T : Tree) → Stands f T → (file : FileId) (p : Place) → p.1 < 2 ^ 32 → HasAreas T f (edits_areas (file_goes file p)) → KnowsPointerOf T file f × Knows T (OfUser p.0 (AnInode p.1)) f
goes_known f T h (User u n) p small has = (tt, knows_open f T h p Nothing small has.0)
goes_known f T h (Group k n) p small has = (knows_pointer f T (k, n) has.0, knows_open f T h p Nothing small has.1.0)

pub pointer_stays : (f g : PartForest) (T V : Tree) → StaysKnown T V f g → (file : FileId) → KnowsPointerOf T file f → KnowsPointerOf V file g
pointer_stays f g T V known (User u n) k = tt
pointer_stays f g T V known (Group g' n) k = known (OfGroup (g', n)) k

pub goes_edits : (T : Tree) (file : FileId) (p : Place) → edit (edits T (pointer_edits file None)) (Inodes p Gone) ≡ edits T (file_goes file p)
goes_edits T (User u n) p = refl
goes_edits T (Group k n) p = refl

-- ---- a take

-- what stands in a tree is meant
meant_at : (f : PartForest) (T : Tree) → Stands f T → (p : Place) → MeantAt (get T.inodes p)
meant_at f T h p = go (is_user p.0) (user_part p.0 f) (h.users p.0) (h.no_user p.0 p.1)
  where
    go : (b : Bool) (o : Option UserPart) → IsPart (λ q. StandsUser p.0 q T) b o → (b ≡ false → get T.inodes (p.0, p.1) ≡ None) → MeantAt (get T.inodes p)
    go true None s none = absurd s
    go true (Some q) s none = s.meant p.1
    go false o s none = subst MeantAt (sym (none refl)) tt

-- what was copied is the inode there
pub copied : (f : PartForest) (T : Tree) → Stands f T → (p : Place) (o : Option PartInode) (q : PartInode) → StandsJust o (get T.inodes p) → o ≡ Some q → (i : Inode) × (get T.inodes p ≡ Some i) × StandsInode q i × MeantInode i
copied f T h p o q just is = go (get T.inodes p) refl (subst (λ r. StandsJust r (get T.inodes p)) is just) (meant_at f T h p)
  where
    go : (i : Option Inode) → get T.inodes p ≡ i → StandsJust (Some q) (get T.inodes p) → MeantAt (get T.inodes p) → (k : Inode) × (get T.inodes p ≡ Some k) × StandsInode q k × MeantInode k
    go None at s meant = absurd (subst (StandsJust (Some q)) at s)
    go (Some k) at s meant = (k, at, subst (StandsJust (Some q)) at s, subst MeantAt at meant)

pub none_copied : (T : Tree) (p : Place) (o : Option PartInode) → StandsJust o (get T.inodes p) → o ≡ None → get T.inodes p ≡ None
none_copied T p o just is = subst (λ r. StandsJust r (get T.inodes p)) is just

pub knows_has : (f : PartForest) (T : Tree) → Stands f T → (p : Place) → p.1 < 2 ^ 32 → HasAt p Nothing f → Knows T (OfUser p.0 (AnInode p.1)) f
knows_has f T h p small has = go (is_user p.0) (user_part p.0 f) (h.users p.0) has
  where
    go : (b : Bool) (o : Option UserPart) → IsPart (λ q. StandsUser p.0 q T) b o → IfSome o (HasWantedAt p.1 Nothing) → IfSome o (KnowsOf p.0 T (AnInode p.1))
    go b None s has = tt
    go true (Some q) s has = record { number = small; path = inl has.inode.path; there = has.inode.there p.0 T s }
    go false (Some q) s has = absurd (let z : Some q ≡ None = s in cc)

-- where a take copies to
abbrev pub taken_to : AcceptedTake → Place
taken_to x = (x.author, x.take.now.body)

take_areas : (x : AcceptedTake) (f : PartForest) (T : Tree) → HasAreas T f (plan_reads (planned_take T x)) → HasAreas T f (InodeArea (taken_to x) WholePart ∷ pointer_areas x.take.now.file)
take_areas x f T has =
    let p = planned_take T x in
    subst (HasAreas T f) (take_writes (get T.inodes x.place) x.author x.take.now x.place) (areas_right f T p.reads (plan_writes p) has)

pub can_copy : (x : AcceptedTake) (f : PartForest) (T : Tree) → Stands f T → is_free_at T (taken_to x) ≡ true → HasAreas T f (plan_reads (planned_take T x)) → CanCopy T f x.place (taken_to x)
can_copy x f T h free has = record {
  there = there_open f T h x.place Nothing has.0;
  free = free;
  inode = has_of_open f T h (taken_to x) Nothing (take_areas x f T has).0;
}

pub take_pointer : (x : AcceptedTake) (f : PartForest) (T : Tree) → HasAreas T f (plan_reads (planned_take T x)) → HasAreas T f (edits_areas (pointer_edits x.take.now.file (Some (taken_to x))))
take_pointer x f T has = subst (HasAreas T f) (sym (pointer_written x.take.now.file (Some (taken_to x)))) (take_areas x f T has).1

-- ---- answers

-- a refusal is handed on
pub handed_on : {A E : Type 0} (P : E → Type 0) (r : Result A E) (e : E) → IsErrAnd r (λ x. x ≡ e) → P e → IfErr r P
handed_on P (Ok x) e is p = absurd is
handed_on P (Err y) e is p = subst P (sym is) p
