-- The lemmas that proofs of other crates may cite: how what is loaded stays so from call to call.
use Rattle.std.proofs.Common.{◌≡◌, ◌∙◌, ℕ, ◌<◌, ◌≤◌, ◌^◌, ◌⊎◌, inl, inr, true, false, IsTrue, Option, Some, None, refl, sym, ap, subst, arith, ◌≢◌}
use Rattle.std.specs.Prelude.{IsSome}
use Rattle.std.specs.BTreeMap.{is_at}
use Rattle.std.specs.Ordering.{nat_cmp}
use Rattle.su_node.specs.InodeChange.{InodeChange, inode_after}
use Rattle.su_table.specs.Edit.{Edit.Inodes, edit}
use Rattle.su_table.specs.Tree.{Tree}
use Rattle.su_part.specs.declared.inodes.PartInode.{PartInode}
use Rattle.su_part.specs.declared.users.UserPart.{UserPart}
use Rattle.std.specs.FinMap.{get}
use Rattle.su_bytes.specs.Name.{is_name}
use Rattle.su_tree.specs.Number.{number_bits}
use Rattle.su_part_tree.specs.Part.{reaches}
use Rattle.su_node.specs.Name.{Name}
use Rattle.su_node.specs.Inode.{Inode, Content, Content.Bytes, Content.Names}
use Rattle.std.proofs.Common.{◌/◌, min}
use Rattle.su_part.specs.declared.blocks.PartBytes.{PartBytes}
use Rattle.su_part.specs.Bytes.{HasAllBlocks, HasCut, HasWrite}
use Rattle.su_part.specs.Cut.{HasCutIn, HasCutOf}
use Rattle.su_part.specs.declared.inodes.PartContent.{PartContent}
use Rattle.su_part.specs.declared.inodes.PartContent.TheVariants.{Bytes as LoadedBytes, Names as PartNames}
use Rattle.su_part.specs.Known.{HasIfLoaded, KnowsBlock, KnowsBlockIn, KnowsInode, KnowsName, KnowsNameIn, Knows, OfLoaded, Want, Want.AnInode, Want.AName, Want.ABlock, number_of, StaysKnown}
use Rattle.su_part.specs.Part.{StandsAt, StandsContent, StandsUser, HasInode, HasAt, HasAll, HasAllIn, HasAllOf, HasWriteIn, HasWriteOf, HasBlocksAt, HasBlocksIn, HasName, HasNameAt, HasNameIn, IfLoaded, IsOpenAt, IsThere, StaysLoaded, at_number}
use Rattle.su_part.proofs.UserLemmas.{edit_here, edit_there}

-- ---- after a load

pub open_of : (P : PartInode → Type 0) (n : ℕ) (p : UserPart) → HasAt n P p → IsOpenAt n P p
open_of P n p h = record { path = h.inode.path; part = h.part }

pub there_of : (u : ℕ) (T : Tree) (n : ℕ) (p : UserPart) → HasInode n p → StandsUser u p T → IsThere u T n p
there_of u T n p h stands = h.there u T stands

-- an inode that was loaded is so after another load
pub there_on : (u : ℕ) (T : Tree) (n : ℕ) (p q : UserPart) → HasAll p q → IsThere u T n p → IsThere u T n q
there_on u T n p q h there = λ some. go (at_number p.inodes.entries n) (at_number q.inodes.entries n) (h.inodes n) (there some)
  where
    go : (o r : Option PartInode) → HasAllOf o r → IsSome o → IsSome r
    go None r h some = absurd (let z : false ≡ true = some in cc)
    go (Some i) None h some = absurd h
    go (Some i) (Some j) h some = refl

-- ---- after an edit of the inode of a number

module _ (u : ℕ) (T : Tree) (n : ℕ) (ch : InodeChange) (p q : UserPart) (stays : StaysLoaded n p q) where
  -- an inode beside it
  pub there_beside : (m : ℕ) → is_at (nat_cmp n) m ≡ false → IsThere u T m p → IsThere u (edit T (Inodes (u, n) ch)) m q
  there_beside m other there = λ some. stays.there m (there (λ none. some (edit_there T u n m ch other ∙ none)))

  -- itself, where the change makes nothing of nothing
  pub there_itself : inode_after ch None ≡ None → IsThere u T n p → IsThere u (edit T (Inodes (u, n) ch)) n q
  there_itself nothing there = λ some. stays.there n (there (λ none. some (edit_here T u n ch ∙ ap (inode_after ch) none ∙ nothing)))

pub open_beside : (P : PartInode → Type 0) (n m : ℕ) (p q : UserPart) → StaysLoaded n p q → is_at (nat_cmp n) m ≡ false → IsOpenAt m P p → IsOpenAt m P q
open_beside P n m p q stays other h = record { path = stays.paths m h.path; part = subst (IfLoaded P) (sym (stays.others m other)) h.part }

-- ---- what is known

-- after a load
module _ (u : ℕ) (T : Tree) (n : ℕ) (p : UserPart) (number : n < 2 ^ 32) (stands : StandsUser u p T) where
  pub knows_inode : HasInode n p → KnowsInode u T n p
  knows_inode h = record { number = number; path = inl h.path; there = h.there u T stands }

  pub knows_name : (x : Name) → IsTrue (is_name x) → HasNameAt n x p → KnowsName u T n x p
  knows_name x named h = record { name = named; inode = knows_inode h.inode; part = go (at_number p.inodes.entries n) (get T.inodes (u, n)) h.part }
    where
      inside : (q : PartContent) (c : Content) → HasNameIn x q → KnowsNameIn x q c
      inside (PartNames t) (Names m) r = inl r
      inside (PartNames t) (Bytes bs) r = tt
      inside (LoadedBytes b) (Names m) r = tt
      inside (LoadedBytes b) (Bytes bs) r = tt

      go : (o : Option PartInode) (i : Option Inode) → IfLoaded (HasName x) o → OfLoaded (KnowsNameIn x) o i
      go None None r = tt
      go None (Some i) r = tt
      go (Some q) None r = tt
      go (Some q) (Some i) r = inside q.content i.content r

  pub knows_block : (first end_ k : ℕ) → first ≤ k → k < end_ → HasBlocksAt n first end_ p → KnowsBlock u T n k p
  knows_block first end_ k low high h = record { inode = knows_inode h.inode; part = go (at_number p.inodes.entries n) (get T.inodes (u, n)) h.part (stands.inodes n) }
    where
      inside : (q : PartContent) (c : Content) → HasBlocksIn first end_ q → StandsContent q c → KnowsBlockIn k q c
      inside (LoadedBytes b) (Bytes bs) r s = let has = r k low high in let size = s.size in record { path = inl has.path; there = λ lt. has.there (omega (arith, lt, size)) }
      inside (LoadedBytes b) (Names m) r s = tt
      inside (PartNames t) (Bytes bs) r s = tt
      inside (PartNames t) (Names m) r s = tt

      go : (o : Option PartInode) (i : Option Inode) → IfLoaded (λ q. HasBlocksIn first end_ q.content) o → StandsAt o i → OfLoaded (KnowsBlockIn k) o i
      go None None r s = tt
      go None (Some i) r s = tt
      go (Some q) None r s = tt
      go (Some q) (Some i) r s = inside q.content i.content r s.content

-- of the other inodes, after an edit of the one of a number
module _ (u : ℕ) (T : Tree) (n : ℕ) (ch : InodeChange) (p q : UserPart) (stays : StaysLoaded n p q) where
  pub inode_beside : (m : ℕ) → is_at (nat_cmp n) m ≡ false → KnowsInode u T m p → KnowsInode u (edit T (Inodes (u, n) ch)) m q
  inode_beside m other w = record { number = w.number; path = go w.path; there = there_beside u T n ch p q stays m other w.there }
    where
      go : IsTrue (reaches number_bits m p.table) ⊎ (get T.inodes (u, m) ≡ None) → IsTrue (reaches number_bits m q.table) ⊎ (get (edit T (Inodes (u, n) ch)).inodes (u, m) ≡ None)
      go (inl r) = inl (stays.paths m r)
      go (inr none) = inr (edit_there T u n m ch other ∙ none)

  pub part_beside : (P : PartContent → Content → Type 0) (m : ℕ) → is_at (nat_cmp n) m ≡ false → OfLoaded P (at_number p.inodes.entries m) (get T.inodes (u, m))
      → OfLoaded P (at_number q.inodes.entries m) (get (edit T (Inodes (u, n) ch)).inodes (u, m))
  part_beside P m other w =
      subst (λ o. OfLoaded P o (get (edit T (Inodes (u, n) ch)).inodes (u, m))) (sym (stays.others m other))
      (subst (OfLoaded P (at_number p.inodes.entries m)) (sym (edit_there T u n m ch other)) w)

  pub known_beside : (w : Want) → is_at (nat_cmp n) (number_of w) ≡ false → Knows u T w p → Knows u (edit T (Inodes (u, n) ch)) w q
  known_beside (AnInode m) other w = inode_beside m other w
  known_beside (AName m x) other w = record { name = w.name; inode = inode_beside m other w.inode; part = part_beside (KnowsNameIn x) m other w.part }
  known_beside (ABlock m k) other w = record { inode = inode_beside m other w.inode; part = part_beside (KnowsBlockIn k) m other w.part }

-- ---- what an edit of a file needs, after another load or edit that loses nothing

cut_on : (size : ℕ) (b c : PartBytes) → HasAllBlocks b c → HasCut size b → HasCut size c
cut_on size b c all h =
    let same = all.size in
    record {
      paths = λ n low lt. all.paths n (h.paths n low (omega (arith, lt, same)));
      block = λ n low high lt. all.loaded n (h.block n low high (omega (arith, lt, same)));
    }

write_on : (off len : ℕ) (b c : PartBytes) → HasAllBlocks b c → HasWrite off len b → HasWrite off len c
write_on off len b c all h n low high = all.blocks n (h n (subst (λ s. min off s / 4096 ≤ n) all.size low) high)

-- of an inode that was loaded already
if_loaded_on : (P : PartContent → Type 0) → ((q r : PartContent) → HasAllIn q r → P q → P r) → (n : ℕ) (p q : UserPart) → HasAll p q → IsSome (at_number p.inodes.entries n) → HasIfLoaded n (λ i. P i.content) p → HasIfLoaded n (λ i. P i.content) q
if_loaded_on P on n p q all some h = go (at_number p.inodes.entries n) (at_number q.inodes.entries n) (all.inodes n) some h
  where
    go : (o r : Option PartInode) → HasAllOf o r → IsSome o → IfLoaded (λ i. P i.content) o → IfLoaded (λ i. P i.content) r
    go None r a some h = absurd (let z : false ≡ true = some in cc)
    go (Some i) None a some h = absurd a
    go (Some i) (Some j) a some h = on i.content j.content a h

pub cut_stays : (size n : ℕ) (p q : UserPart) → HasAll p q → IsSome (at_number p.inodes.entries n) → HasIfLoaded n (HasCutOf size) p → HasIfLoaded n (HasCutOf size) q
cut_stays size n p q all some h = if_loaded_on (HasCutIn size) on n p q all some h
  where
    on : (q r : PartContent) → HasAllIn q r → HasCutIn size q → HasCutIn size r
    on (LoadedBytes b) (LoadedBytes c) a k = cut_on size b c a k
    on (LoadedBytes b) (PartNames t) a k = tt
    on (PartNames t) (LoadedBytes c) a k = absurd a
    on (PartNames t) (PartNames v) a k = tt

pub write_stays : (off len n : ℕ) (p q : UserPart) → HasAll p q → IsSome (at_number p.inodes.entries n) → HasIfLoaded n (HasWriteOf off len) p → HasIfLoaded n (HasWriteOf off len) q
write_stays off len n p q all some h = if_loaded_on (HasWriteIn off len) on n p q all some h
  where
    on : (q r : PartContent) → HasAllIn q r → HasWriteIn off len q → HasWriteIn off len r
    on (LoadedBytes b) (LoadedBytes c) a k = write_on off len b c a k
    on (LoadedBytes b) (PartNames t) a k = tt
    on (PartNames t) (LoadedBytes c) a k = absurd a
    on (PartNames t) (PartNames v) a k = tt

-- and beside an edit of another inode
pub if_loaded_beside : (P : PartInode → Type 0) (n m : ℕ) (p q : UserPart) → StaysLoaded n p q → is_at (nat_cmp n) m ≡ false → HasIfLoaded m P p → HasIfLoaded m P q
if_loaded_beside P n m p q stays other h = subst (IfLoaded P) (sym (stays.others m other)) h

-- ---- what is known, after another load or edit that loses nothing

name_on : (x : Name) (q r : PartContent) (c : Content) → HasAllIn q r → KnowsNameIn x q c → KnowsNameIn x r c
name_on x (PartNames t) (PartNames v) (Names m) a (inl l) = inl (a x l)
name_on x (PartNames t) (PartNames v) (Names m) a (inr none) = inr none
name_on x (PartNames t) (PartNames v) (Bytes bs) a h = tt
name_on x (PartNames t) (LoadedBytes d) c a h = absurd a
name_on x (LoadedBytes b) (LoadedBytes d) (Names m) a h = tt
name_on x (LoadedBytes b) (LoadedBytes d) (Bytes bs) a h = tt
name_on x (LoadedBytes b) (PartNames v) c a h = absurd a

block_on : (k : ℕ) (q r : PartContent) (c : Content) → HasAllIn q r → KnowsBlockIn k q c → KnowsBlockIn k r c
block_on k (LoadedBytes b) (LoadedBytes d) (Bytes bs) a h = record { path = elim h.path [ inl l ↦ inl (a.paths k l) | inr past ↦ inr past ]; there = λ lt. a.loaded k (h.there lt) }
block_on k (LoadedBytes b) (LoadedBytes d) (Names m) a h = tt
block_on k (LoadedBytes b) (PartNames v) c a h = absurd a
block_on k (PartNames t) (PartNames v) (Names m) a h = tt
block_on k (PartNames t) (PartNames v) (Bytes bs) a h = tt
block_on k (PartNames t) (LoadedBytes d) c a h = absurd a

module _ (u : ℕ) (T : Tree) (p q : UserPart) (all : HasAll p q) where
  inode_on : (n : ℕ) → KnowsInode u T n p → KnowsInode u T n q
  inode_on n h = record { number = h.number; path = elim h.path [ inl r ↦ inl (all.paths n r) | inr none ↦ inr none ]; there = there_on u T n p q all h.there }

  part_on : (P : PartContent → Content → Type 0) → ((q r : PartContent) (c : Content) → HasAllIn q r → P q c → P r c) → (n : ℕ) → IsThere u T n p → OfLoaded P (at_number p.inodes.entries n) (get T.inodes (u, n))
      → OfLoaded P (at_number q.inodes.entries n) (get T.inodes (u, n))
  part_on P on n there h = go (at_number p.inodes.entries n) (at_number q.inodes.entries n) (get T.inodes (u, n)) (all.inodes n) there h
    where
      go : (o r : Option PartInode) (i : Option Inode) → HasAllOf o r → (i ≢ None → IsSome o) → OfLoaded P o i → OfLoaded P r i
      go None None None a some h = tt
      go None None (Some i) a some h = tt
      go None (Some w) None a some h = tt
      go None (Some w) (Some i) a some h = absurd (let z : false ≡ true = some (λ e. absurd cc) in cc)
      go (Some v) None i a some h = absurd a
      go (Some v) (Some w) None a some h = tt
      go (Some v) (Some w) (Some i) a some h = on v.content w.content i.content a h

  pub known_on : StaysKnown u T T p q
  known_on (AnInode n) h = inode_on n h
  known_on (AName n x) h = record { name = h.name; inode = inode_on n h.inode; part = part_on (KnowsNameIn x) (name_on x) n h.inode.there h.part }
  known_on (ABlock n k) h = record { inode = inode_on n h.inode; part = part_on (KnowsBlockIn k) (block_on k) n h.inode.there h.part }
