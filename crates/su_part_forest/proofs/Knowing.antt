-- What is known of a user's part, of a group's part, or of a forest, and stays so; and that what is known and stands there is loaded.
use Rattle.std.proofs.Common.{◌≡◌, ◌≢◌, ◌∙◌, ℕ, ◌*◌, ◌/◌, ◌<◌, ◌≤◌, ◌^◌, Bool, true, false, cond, IsTrue, length, Option, Some, None, refl, sym, ap, subst, arith, ◌⊎◌, inl, inr}
use Rattle.std.specs.Prelude.{IsSome, IfSome, OnOk, OnErr, IsOk, Result, Ok, Err}
use Rattle.std.specs.BTreeMap.{is_at}
use Rattle.std.specs.Option.{option_map}
use Rattle.std.specs.Ordering.{nat_cmp, eq_by_cmp}
use Rattle.std.specs.FinMap.{find, get, entries, get-entries, nat_cmp-IsAntisymmetric}
use Rattle.su_bytes.specs.Place.{GroupFile, Place, place_cmp}
use Rattle.su_bytes.specs.Principal.{is_user, is_group}
use Rattle.su_tree.specs.Number.{number_bits, number_bytes, is_u32}
use Rattle.su_tree.specs.Value.{is_digest}
use Rattle.su_tree.specs.Laws.Numbers as number
use Rattle.su_part_tree.specs.Part.{reaches}
use Rattle.su_node.specs.Name.{Name}
use Rattle.su_node.specs.Inode.{Inode, Content, Content.Bytes, Content.Names, size_of}
use Rattle.su_node.specs.Digest.{block_count, inode_digest}
use Rattle.su_node.specs.Field.{Field.KindOf, Field.NameOf, content_value, field_value, file_value}
use Rattle.su_node.specs.InodeChange.{InodeChange, InodeChange.Resized, inode_after, map_bytes, with_size}
use Rattle.su_node.proofs.Public.{get-set_key, eq_by_cmp-same, length-with_size}
use Rattle.su_table.specs.Cell.{Cell.Pointer, place_value, val}
use Rattle.su_table.specs.Edit.{Edit.Inodes, Edit.Pointers, edit}
use Rattle.su_table.specs.Handle.{user_table}
use Rattle.su_table.specs.Query.{is_free_at, is_name_free_at, is_nothing, size_at}
use Rattle.su_table.specs.Tree.{Tree}
use Rattle.su_table.proofs.Public.{place_cmp_exact, place_cmp_total}
use Rattle.su_table.proofs.TableEdits.{find-pairs_of}
use Rattle.su_part.specs.declared.inodes.PartInode.{PartInode}
use Rattle.su_part.specs.declared.inodes.PartContent.{PartContent}
use Rattle.su_part.specs.declared.inodes.PartContent.TheVariants.{Bytes as LoadedBytes, Names as PartNames}
use Rattle.su_part.specs.declared.users.UserPart.{UserPart}
use Rattle.su_part.specs.Cut.{HasCutIn, HasCutOf}
use Rattle.su_part.specs.Known.{HasIfLoaded, KnowsBlock, KnowsBlockIn, KnowsInode, KnowsName, KnowsNameIn, Knows as KnowsOf, OfLoaded, StaysKnown as StaysKnownOf, Want as PartWant, Want.AnInode, Want.AName, Want.ABlock, number_of}
use Rattle.su_part.specs.Part.{HasAll, HasAllOf, HasAt as HasOf, HasBlocksIn, HasInode, HasName, HasNameIn, HasWriteIn, HasWriteOf, IfLoaded, IsAllIn, IsThere, StandsAt, StandsContent, StandsUser, StaysLoaded, at_number}
use Rattle.su_part.specs.Fetches.{HasWanted, HasWantedAt}
use Rattle.su_part.specs.declared.fetches.Wanted.TheVariants.{Nothing}
use Rattle.su_part.proofs.KnownLemmas.{size_there}
use Rattle.su_part.proofs.Numbers.{same_number}
use Rattle.su_part.proofs.Public.{known_beside, known_on, knows_block}
use Rattle.su_part.proofs.SeenLemmas.{found_loaded}
use Rattle.su_part.proofs.UserLemmas.{all_itself, edit_here}
use Rattle.su_group_part.specs.declared.groups.GroupPart.{GroupPart}
use Rattle.su_group_part.specs.Part.{HasPointer, KnowsPointer, StandsGroup}
use Rattle.su_part_forest.specs.Forest.{HasPointerAt, IsPart, Stands, user_part, group_part}
use Rattle.su_part_forest.specs.Known.{IsBeside, Knows, StaysKnown, Want.OfUser, Want.OfGroup}
use Rattle.su_part_forest.specs.Loading.{HasAt, IsKept, KeepsLoaded, KeepsPointers}
use Rattle.su_part_forest.specs.declared.forests.PartForest.{PartForest}

-- ---- answers

pub on_two : {A E : Type 0} {P Q R : Type 0} (r : Result A E) → (P → Q → R) → OnOk r P → OnOk r Q → OnOk r R
on_two (Ok x) f p q = f p q
on_two (Err e) f p q = tt

pub on_three : {A E : Type 0} {P Q R S : Type 0} (r : Result A E) → (P → Q → R → S) → OnOk r P → OnOk r Q → OnOk r R → OnOk r S
on_three (Ok x) f p q o = f p q o
on_three (Err e) f p q o = tt

pub on_four : {A E : Type 0} {P Q R S V : Type 0} (r : Result A E) → (P → Q → R → S → V) → OnOk r P → OnOk r Q → OnOk r R → OnOk r S → OnOk r V
on_four (Ok x) f p q o w = f p q o w
on_four (Err e) f p q o w = tt

pub on_errs : {A E : Type 0} {P Q R : Type 0} (r : Result A E) → (P → Q → R) → OnErr r P → OnErr r Q → OnErr r R
on_errs (Ok x) f p q = tt
on_errs (Err e) f p q = f p q

-- whatever was answered
pub ok_or_err : {A E : Type 0} {P Q R : Type 0} (r : Result A E) → OnOk r P → OnErr r Q → (P → R) → (Q → R) → R
ok_or_err (Ok x) p q f g = f p
ok_or_err (Err e) p q f g = g q

-- what an error would tell is not so
pub no_err : {A E : Type 0} {Q : Type 0} (r : Result A E) → OnErr r Q → (Q → ⊥) → IsOk r
no_err (Ok x) q none = refl
no_err (Err e) q none = absurd (none q)

-- ---- a number whose path is loaded

-- what a user's table has at a number
table_inode : (T : Tree) (u n : ℕ) → find nat_cmp n (user_table T u) ≡ option_map inode_digest (get T.inodes (u, n))
unfolding user_table
table_inode T u n = find-pairs_of inode_digest u n (entries T.inodes) ∙ ap (option_map inode_digest) (sym (get-entries T.inodes (u, n)))

-- a tree has an inode there just where each other one has for which the part stands
path_tells : (u v n : ℕ) (T V : Tree) (p : UserPart) → StandsUser u p T → StandsUser v p V → IsTrue (reaches number_bits n p.table) → option_map inode_digest (get T.inodes (u, n)) ≡ option_map inode_digest (get V.inodes (v, n))
path_tells u v n T V p h k path =
    sym (table_inode T u n)
    ∙ sym (found_loaded number_bits number_bytes is_u32 (λ d. d) is_digest nat_cmp nat_cmp-IsAntisymmetric number.ordered p.table (user_table T u) h.table n path)
    ∙ found_loaded number_bits number_bytes is_u32 (λ d. d) is_digest nat_cmp nat_cmp-IsAntisymmetric number.ordered p.table (user_table V v) k.table n path
    ∙ table_inode V v n

pub has_inode_of : (u n : ℕ) (T : Tree) (p : UserPart) → StandsUser u p T → IsTrue (reaches number_bits n p.table) → IsThere u T n p → HasInode n p
has_inode_of u n T p h path there = record { path = path; there = λ v V k some. go (get T.inodes (u, n)) (get V.inodes (v, n)) (path_tells u v n T V p h k path) there some }
  where
    go : (a b : Option Inode) → option_map inode_digest a ≡ option_map inode_digest b → (a ≢ None → IsSome (at_number p.inodes.entries n)) → b ≢ None → IsSome (at_number p.inodes.entries n)
    go None None e is some = absurd (some refl)
    go None (Some i) e is some = absurd (let z : None ≡ Some (inode_digest i) = e in cc)
    go (Some i) b e is some = is (λ none. absurd cc)

-- ---- what is known and stands there is loaded

pub inode_loaded : (u n : ℕ) (T : Tree) (p : UserPart) → StandsUser u p T → KnowsInode u T n p → get T.inodes (u, n) ≢ None → HasInode n p
inode_loaded u n T p h w some = has_inode_of u n T p h (go w.path) w.there
  where
    go : IsTrue (reaches number_bits n p.table) ⊎ (get T.inodes (u, n) ≡ None) → IsTrue (reaches number_bits n p.table)
    go (inl r) = r
    go (inr none) = absurd (some none)

pub taken : (T : Tree) (p : Place) → is_free_at T p ≡ false → get T.inodes p ≢ None
unfolding val
taken T p e none = let z : true ≡ false = ap (λ o. is_nothing (field_value o KindOf)) (sym none) ∙ e in cc

pub free_none : (T : Tree) (p : Place) → is_free_at T p ≡ true → get T.inodes p ≡ None
unfolding val
free_none T p e = go (get T.inodes p) e
  where
    go : (o : Option Inode) → is_nothing (field_value o KindOf) ≡ true → o ≡ None
    go None e = refl
    go (Some i) e = absurd cc

named_taken : (T : Tree) (p : Place) (x : Name) → is_name_free_at T p x ≡ false → get T.inodes p ≢ None
unfolding val
named_taken T p x e none = let z : true ≡ false = ap (λ o. is_nothing (field_value o (NameOf x))) (sym none) ∙ e in cc

pub name_loaded : (u n : ℕ) (T : Tree) (x : Name) (p : UserPart) → StandsUser u p T → KnowsName u T n x p → is_name_free_at T (u, n) x ≡ false → HasOf n (HasName x) p
unfolding val
name_loaded u n T x p h w there = record {
  inode = inode_loaded u n T p h w.inode (named_taken T (u, n) x there);
  part = go (at_number p.inodes.entries n) (get T.inodes (u, n)) (h.inodes n) w.part there;
}
  where
    inside : (q : PartContent) (c : Content) (l : ℕ) (i : Inode) → StandsContent q c → KnowsNameIn x q c → is_nothing (content_value c l i.home (NameOf x)) ≡ false → HasNameIn x q
    inside (PartNames t) (Names m) l i s (inl r) e = r
    inside (PartNames t) (Names m) l i s (inr none) e = absurd (let z : true ≡ false = ap (λ o. is_nothing (file_value o)) (sym none) ∙ e in cc)
    inside (PartNames t) (Bytes bs) l i s k e = absurd s
    inside (LoadedBytes b) c l i s k e = tt

    go : (o : Option PartInode) (i : Option Inode) → StandsAt o i → OfLoaded (KnowsNameIn x) o i → is_nothing (field_value i (NameOf x)) ≡ false → IfLoaded (HasName x) o
    go None i s k e = tt
    go (Some q) None s k e = absurd s
    go (Some q) (Some i) s k e = inside q.content i.content i.links i s.content k e

pub pointer_loaded : (k n : ℕ) (T : Tree) (p : GroupPart) → KnowsPointer k T n p → is_nothing (val T (Pointer (k, n))) ≡ false → HasPointer n p
unfolding val
pointer_loaded k n T p (inl r) e = r
pointer_loaded k n T p (inr none) e = absurd (let z : true ≡ false = ap (λ o. is_nothing (place_value o)) (sym none) ∙ e in cc)

-- ---- an inode stands at a number, of which the path was loaded

module _ (u n : ℕ) (T : Tree) (ch : InodeChange) (p q : UserPart) (stays : StaysLoaded n p q) (has : HasInode n p) (small : n < 2 ^ 32) (some : IsSome (at_number q.inodes.entries n)) where
  -- it is known
  pub known_put : KnowsInode u (edit T (Inodes (u, n) ch)) n q
  known_put = record { number = small; path = inl (stays.paths n has.path); there = λ _. some }

  -- what was known stays known, but for names and blocks of what stood there
  pub known_besides : (w : PartWant) → IsBeside (u, n) (OfUser u w) → KnowsOf u T w p → KnowsOf u (edit T (Inodes (u, n) ch)) w q
  known_besides w beside k = go (is_at (nat_cmp n) (number_of w)) refl
    where
      at : (want : PartWant) → n ≡ number_of want → IsBeside (u, n) (OfUser u want) → KnowsOf u (edit T (Inodes (u, n) ch)) want q
      at (AnInode m) e b = subst (λ i. KnowsInode u (edit T (Inodes (u, n) ch)) i q) e known_put
      at (AName m x) e b = absurd (b (ap (λ i. (u, i)) (sym e)))
      at (ABlock m j) e b = absurd (b (ap (λ i. (u, i)) (sym e)))

      go : (b : Bool) → is_at (nat_cmp n) (number_of w) ≡ b → KnowsOf u (edit T (Inodes (u, n) ch)) w q
      go true e = at w (same_number n (number_of w) e) beside
      go false e = known_beside u T n ch p q stays w e k

  -- all of it is loaded
  pub made_known : HasIfLoaded n (λ i. IsAllIn i.content) q → StandsUser u q (edit T (Inodes (u, n) ch)) → StaysKnownOf u T (edit T (Inodes (u, n) ch)) p q
  made_known all h w k = go (is_at (nat_cmp n) (number_of w)) refl
    where
      in_name : (x : Name) (c : PartContent) (d : Content) → IsAllIn c → KnowsNameIn x c d
      in_name x (PartNames t) (Names m) a = inl (a x)
      in_name x (PartNames t) (Bytes bs) a = tt
      in_name x (LoadedBytes b) (Names m) a = tt
      in_name x (LoadedBytes b) (Bytes bs) a = tt

      in_block : (j : ℕ) (c : PartContent) (d : Content) → IsAllIn c → StandsContent c d → KnowsBlockIn j c d
      in_block j (LoadedBytes b) (Bytes bs) a s = let size = s.size in record { path = inl (a j).path; there = λ lt. (a j).there (omega (arith, lt, size)) }
      in_block j (LoadedBytes b) (Names m) a s = tt
      in_block j (PartNames t) (Bytes bs) a s = tt
      in_block j (PartNames t) (Names m) a s = tt

      name_of : (x : Name) (o : Option PartInode) (i : Option Inode) → IfLoaded (λ i. IsAllIn i.content) o → OfLoaded (KnowsNameIn x) o i
      name_of x None None a = tt
      name_of x None (Some i) a = tt
      name_of x (Some c) None a = tt
      name_of x (Some c) (Some i) a = in_name x c.content i.content a

      block_of : (j : ℕ) (o : Option PartInode) (i : Option Inode) → IfLoaded (λ i. IsAllIn i.content) o → StandsAt o i → OfLoaded (KnowsBlockIn j) o i
      block_of j None None a s = tt
      block_of j None (Some i) a s = tt
      block_of j (Some c) None a s = tt
      block_of j (Some c) (Some i) a s = in_block j c.content i.content a s.content

      inode : (m : ℕ) → n ≡ m → KnowsInode u (edit T (Inodes (u, n) ch)) m q
      inode m e = subst (λ i. KnowsInode u (edit T (Inodes (u, n) ch)) i q) e known_put

      at : (want : PartWant) → n ≡ number_of want → KnowsOf u T want p → KnowsOf u (edit T (Inodes (u, n) ch)) want q
      at (AnInode m) e w = inode m e
      at (AName m x) e w = record {
        name = w.name;
        inode = inode m e;
        part = name_of x (at_number q.inodes.entries m) (get (edit T (Inodes (u, n) ch)).inodes (u, m)) (subst (λ i. HasIfLoaded i (λ i. IsAllIn i.content) q) e all);
      }
      at (ABlock m j) e w = record {
        inode = inode m e;
        part = block_of j (at_number q.inodes.entries m) (get (edit T (Inodes (u, n) ch)).inodes (u, m)) (subst (λ i. HasIfLoaded i (λ i. IsAllIn i.content) q) e all) (h.inodes m);
      }

      go : (b : Bool) → is_at (nat_cmp n) (number_of w) ≡ b → KnowsOf u (edit T (Inodes (u, n) ch)) w q
      go true e = at w (same_number n (number_of w) e) k
      go false e = known_beside u T n ch p q stays w e k

-- nothing that was loaded is lost where nothing stood
pub kept_beside : (u n : ℕ) (T : Tree) (p q : UserPart) → StandsUser u p T → get T.inodes (u, n) ≡ None → StaysLoaded n p q → HasAll p q
kept_beside u n T p q h none stays = record { paths = stays.paths; inodes = λ m. go m (is_at (nat_cmp n) m) refl }
  where
    nothing : (o : Option PartInode) (i : Option Inode) (r : Option PartInode) → StandsAt o i → i ≡ None → HasAllOf o r
    nothing None i r s e = tt
    nothing (Some c) None r s e = absurd s
    nothing (Some c) (Some i) r s e = absurd (let z : Some i ≡ None = e in cc)

    go : (m : ℕ) (b : Bool) → is_at (nat_cmp n) m ≡ b → HasAllOf (at_number p.inodes.entries m) (at_number q.inodes.entries m)
    go m true e = nothing (at_number p.inodes.entries m) (get T.inodes (u, m)) (at_number q.inodes.entries m) (h.inodes m) (ap (λ i. get T.inodes (u, i)) (sym (same_number n m e)) ∙ none)
    go m false e = subst (HasAllOf (at_number p.inodes.entries m)) (sym (stays.others m e)) ((all_itself p).inodes m)

-- ---- a file that grew can be cut again

module _ (u n size : ℕ) (T : Tree) (p q : UserPart) (small : n < 2 ^ 32) (h : StandsUser u p T) (has : HasOf n (HasWriteOf size 0) p) (within : size_at T (u, n) ≤ size) where
  -- the blocks from the old end on were known
  was_known : (j : ℕ) → size_at T (u, n) / 4096 ≤ j → 4096 * j < size → KnowsBlock u T n j p
  was_known j low high = knows_block u T n p small h (size_at T (u, n) / 4096) (block_count size) j low (omega (arith, high)) (record { inode = has.inode; part = go (at_number p.inodes.entries n) (get T.inodes (u, n)) refl (h.inodes n) has.part })
    where
      inside : (c : PartContent) (d : Content) → StandsContent c d → size_at T (u, n) ≡ size_of d → HasWriteIn size 0 c → HasBlocksIn (size_at T (u, n) / 4096) (block_count size) c
      inside (LoadedBytes b) (Bytes bs) s e w = λ i low high. w i (let is = s.size in omega (arith, is, e, within, low)) (omega (arith, high))
      inside (LoadedBytes b) (Names m) s e w = absurd s
      inside (PartNames t) d s e w = tt

      go : (o : Option PartInode) (i : Option Inode) → get T.inodes (u, n) ≡ i → StandsAt o i → IfLoaded (HasWriteOf size 0) o → IfLoaded (λ c. HasBlocksIn (size_at T (u, n) / 4096) (block_count size) c.content) o
      go None i e s w = tt
      go (Some c) None e s w = absurd s
      go (Some c) (Some i) e s w = inside c.content i.content s.content (size_there T u n i e) w

  pub grown_cut : StaysLoaded n p q → StandsUser u q (edit T (Inodes (u, n) (Resized (size_at T (u, n)) size))) → StaysKnownOf u T (edit T (Inodes (u, n) (Resized (size_at T (u, n)) size))) p q
      → HasOf n (HasCutOf (size_at T (u, n))) q
  grown_cut stays k known = record {
    inode = has_inode_of u n (edit T (Inodes (u, n) (Resized (size_at T (u, n)) size))) q k (stays.paths n has.inode.path) (known (AnInode n) before).there;
    part = go (at_number q.inodes.entries n) (get (edit T (Inodes (u, n) (Resized (size_at T (u, n)) size))).inodes (u, n)) (get T.inodes (u, n)) (edit_here T u n (Resized (size_at T (u, n)) size)) (k.inodes n) is_known;
  }
    where
      before : KnowsInode u T n p
      before = record { number = small; path = inl has.inode.path; there = has.inode.there u T h }

      is_known : (j : ℕ) → size_at T (u, n) / 4096 ≤ j → 4096 * j < size → OfLoaded (KnowsBlockIn j) (at_number q.inodes.entries n) (get (edit T (Inodes (u, n) (Resized (size_at T (u, n)) size))).inodes (u, n))
      is_known j low high = (known (ABlock n j) (was_known j low high)).part

      inside : (c : PartContent) (d : Content) → StandsContent c (map_bytes (with_size size) d) → ((j : ℕ) → size_at T (u, n) / 4096 ≤ j → 4096 * j < size → KnowsBlockIn j c (map_bytes (with_size size) d)) → HasCutIn (size_at T (u, n)) c
      inside (PartNames t) d s w = tt
      inside (LoadedBytes b) (Names m) s w = absurd s
      inside (LoadedBytes b) (Bytes bs) s w = record { paths = λ j low lt. path j (w j low (short j lt)).path (short j lt); block = λ j low high lt. (w j (omega (arith, low, high)) (omega (arith, low, within))).there (omega (arith, low, within, long)) }
        where
          long : length (with_size size bs) ≡ size
          long = length-with_size size bs

          short : (j : ℕ) → 4096 * j < b.size → 4096 * j < size
          short j lt = let is = s.size in omega (arith, is, long, lt)

          path : (j : ℕ) → IsTrue (reaches number_bits j b.digests) ⊎ (length (with_size size bs) ≤ 4096 * j) → 4096 * j < size → IsTrue (reaches number_bits j b.digests)
          path j (inl r) lt = r
          path j (inr past) lt = absurd (omega (arith, past, long, lt))

      go : (o : Option PartInode) (i j : Option Inode) → i ≡ inode_after (Resized (size_at T (u, n)) size) j → StandsAt o i → ((b : ℕ) → size_at T (u, n) / 4096 ≤ b → 4096 * b < size → OfLoaded (KnowsBlockIn b) o i) → IfLoaded (HasCutOf (size_at T (u, n))) o
      go None i j e s w = tt
      go (Some c) None j e s w = absurd s
      go (Some c) (Some i) None e s w = absurd (let z : Some i ≡ None = e in cc)
      go (Some c) (Some i) (Some j) e s w =
          let same : i ≡ record j { content = map_bytes (with_size size) j.content } = cc in
          inside c.content j.content (subst (λ x. StandsContent c.content x.content) same s.content) (λ b low high. subst (λ x. KnowsBlockIn b c.content x.content) same (w b low high))

-- ---- a pointer is put, of which the path was loaded

pub pointer_put : (k n : ℕ) (T : Tree) (o : Option Place) (p q : GroupPart) → HasPointer n p → KeepsPointers p q → (i : ℕ) → KnowsPointer k T i p → KnowsPointer k (edit T (Pointers (k, n) o)) i q
unfolding edit
pointer_put k n T o p q has keeps i (inl r) = inl (keeps i r)
pointer_put k n T o p q has keeps i (inr none) = go (eq_by_cmp place_cmp (k, i) (k, n)) refl
  where
    go : (b : Bool) → eq_by_cmp place_cmp (k, i) (k, n) ≡ b → HasPointer i q ⊎ (get (edit T (Pointers (k, n) o)).pointers (k, i) ≡ None)
    go true e = inl (keeps i (subst (λ j. HasPointer j p) (sym (ap (λ (x : Place). x.1) (eq_by_cmp-same place_cmp_exact (k, i) (k, n) e))) has))
    go false e = inr (get-set_key place_cmp_total T.pointers (k, n) o (k, i) ∙ ap (λ b. cond b o (get T.pointers (k, i))) e ∙ none)

-- ---- of a forest

-- where nothing that is loaded is lost, all stays known
pub known_kept : (f g : PartForest) (T : Tree) → KeepsLoaded f g → Stands f T → Stands g T → StaysKnown T T f g
known_kept f g T keeps before h (OfUser u w) k = go (is_user u) (user_part u f) (user_part u g) (keeps.users u) (before.users u) (h.users u) k
  where
    go : (b : Bool) (o r : Option UserPart) → IsKept HasAll o r → IsPart (λ q. StandsUser u q T) b o → IsPart (λ q. StandsUser u q T) b r → IfSome o (KnowsOf u T w) → IfSome r (KnowsOf u T w)
    go b o None kept was s k = tt
    go true None (Some r) kept was s k = absurd was
    go false None (Some r) kept was s k = absurd (let z : Some r ≡ None = s in cc)
    go false (Some q) (Some r) kept was s k = absurd (let z : Some r ≡ None = s in cc)
    go true (Some q) (Some r) kept was s k = known_on u T q r kept w k
known_kept f g T keeps before h (OfGroup j) k = go (is_group j.0) (group_part j.0 f) (group_part j.0 g) (keeps.groups j.0) (before.groups j.0) (h.groups j.0) k
  where
    go : (b : Bool) (o r : Option GroupPart) → IsKept KeepsPointers o r → IsPart (λ q. StandsGroup j.0 q T) b o → IsPart (λ q. StandsGroup j.0 q T) b r → IfSome o (KnowsPointer j.0 T j.1) → IfSome r (KnowsPointer j.0 T j.1)
    go b o None kept was s k = tt
    go true None (Some r) kept was s k = absurd was
    go false None (Some r) kept was s k = absurd (let z : Some r ≡ None = s in cc)
    go false (Some q) (Some r) kept was s k = absurd (let z : Some r ≡ None = s in cc)
    go true (Some q) (Some r) kept was s (inl x) = inl (kept j.1 x)
    go true (Some q) (Some r) kept was s (inr none) = inr none

any_loaded : (o : Option PartInode) → IfLoaded (HasWanted Nothing) o
any_loaded None = tt
any_loaded (Some i) = tt

-- after an edit that loses nothing that is loaded
module _ (f g : PartForest) (T V : Tree) (keeps : KeepsLoaded f g) (before : Stands f T) (after : Stands g V) where
  -- an inode whose place was loaded, and that is known still
  pub has_again : (p : Place) → HasAt p Nothing f → Knows V (OfUser p.0 (AnInode p.1)) g → HasAt p Nothing g
  has_again p has known = go (is_user p.0) (user_part p.0 f) (user_part p.0 g) (keeps.users p.0) (before.users p.0) (after.users p.0) has known
    where
      go : (b : Bool) (o r : Option UserPart) → IsKept HasAll o r → IsPart (λ q. StandsUser p.0 q T) b o → IsPart (λ q. StandsUser p.0 q V) b r → IfSome o (HasWantedAt p.1 Nothing) → IfSome r (KnowsOf p.0 V (AnInode p.1))
          → IfSome r (HasWantedAt p.1 Nothing)
      go b o None kept was s has k = tt
      go true None (Some r) kept was s has k = absurd was
      go false None (Some r) kept was s has k = absurd (let z : Some r ≡ None = s in cc)
      go false (Some q) (Some r) kept was s has k = absurd (let z : Some r ≡ None = s in cc)
      go true (Some q) (Some r) kept was s has k = record { inode = has_inode_of p.0 p.1 V r s (kept.paths p.1 has.inode.path) k.there; part = any_loaded (at_number r.inodes.entries p.1) }

  -- a pointer
  pub pointer_again : (k : GroupFile) → HasPointerAt k f → HasPointerAt k g
  pointer_again k has = go (is_group k.0) (group_part k.0 f) (group_part k.0 g) (keeps.groups k.0) (before.groups k.0) (after.groups k.0) has
    where
      go : (b : Bool) (o r : Option GroupPart) → IsKept KeepsPointers o r → IsPart (λ q. StandsGroup k.0 q T) b o → IsPart (λ q. StandsGroup k.0 q V) b r → IfSome o (HasPointer k.1) → IfSome r (HasPointer k.1)
      go b o None kept was s has = tt
      go true None (Some r) kept was s has = absurd was
      go false None (Some r) kept was s has = absurd (let z : Some r ≡ None = s in cc)
      go false (Some q) (Some r) kept was s has = absurd (let z : Some r ≡ None = s in cc)
      go true (Some q) (Some r) kept was s has = kept k.1 has
