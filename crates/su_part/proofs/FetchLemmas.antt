-- What is part of a user's part, of an inode, and of a file's bytes, and is loaded.
use Rattle.std.proofs.Common.{arith, ◌≡◌, ◌∙◌, ℕ, ◌*◌, ◌<◌, ◌^◌, cond, IsTrue, List, Option, Some, None, subst, sym, refl, inl, inr}
use Rattle.std.specs.List.{Contains}
use Rattle.std.specs.BTreeMap.{is_at}
use Rattle.std.specs.Ordering.{nat_cmp}
use Rattle.std.specs.FinMap.{FinMap, get, entries}
use Rattle.sha2.specs.Sha256.{sha256}
use Rattle.su_bytes.specs.FileId.{file_id_bytes}
use Rattle.su_bytes.specs.declared.file_ids.FileId.{FileId}
use Rattle.su_tree.specs.Collision.{encodings}
use Rattle.su_tree.specs.Name.{names}
use Rattle.su_tree.specs.Number.{number_bits, numbers, is_u32}
use Rattle.su_hash_tree.specs.Edits.{value_at}
use Rattle.su_part_tree.specs.declared.parts.PartTree.{PartTree}
use Rattle.su_part_tree.specs.Part.{StandsFor}
use Rattle.su_node.specs.Digest.{block_item, block_digests, inode_item, inode_digest}
use Rattle.su_node.specs.Field.{block}
use Rattle.su_node.proofs.Contents.{length-block}
use Rattle.su_node.specs.Inode.{Inode, Content, Content.Bytes, Content.Names}
use Rattle.su_node.specs.Name.{Name, name_cmp}
use Rattle.su_table.specs.Handle.{user_table}
use Rattle.su_table.specs.Tree.{Tree}
use Rattle.su_part.specs.Bytes.{number_sort, StandsBytes, BytesItem, SpellsBlock}
use Rattle.su_part.specs.Item.{SpellsInode, item_of}
use Rattle.su_part.specs.Part.{name_sort, StandsContent, StandsInode, StandsUser, StandsAt, MeantAt, ContentItem, InodeItemOf, ItemOf, at_number}
use Rattle.su_part.specs.declared.blocks.PartBytes.{PartBytes}
use Rattle.su_part.specs.declared.inodes.PartContent.TheVariants.{Bytes as LoadedBytes, Names as LoadedNames}
use Rattle.su_part.specs.declared.inodes.PartInode.{PartInode}
use Rattle.su_part.specs.declared.users.UserPart.{UserPart}
use Rattle.std.specs.Prelude.{Result}
use Rattle.su_bytes.specs.declared.refusals.Refusal.{Refusal}
use Rattle.su_block.specs.declared.failures.Failures.{Failures}
use Rattle.su_part.specs.Fetches.{LoadsDigests, LoadsBytes, LoadsUser}
use Rattle.su_part.proofs.BytesLemmas.{digest_there, is_number, all_with_path as blocks_with_path}
use Rattle.su_part.proofs.ItemLemmas.{item_begins}
use Rattle.su_part.proofs.LoadLemmas.{IsWithin, HasItem, loads_within}
use Rattle.su_part.proofs.UserLemmas.{IsItemAt, all_with_path, inserted, some_there, table_value}

-- ---- a file's bytes

-- the digests of the blocks
pub digests_within : (b : PartBytes) (t : PartTree ℕ (List ℕ)) (bs : List ℕ) → StandsBytes b bs → IsWithin (StandsFor number_sort) (λ m. Contains (encodings (numbers (λ d. d)) m)) StandsBytes BytesItem b.digests t b (record b { digests = t }) bs
digests_within b t bs h = record {
  part = block_digests bs;
  before = h.digests;
  hashed = λ i c. inl c;
  after = λ d. record { size = h.size; digests = d; blocks = h.blocks };
}

-- it is the item of the block of that number
abbrev pub IsBlockItem : ℕ → List ℕ → List ℕ → Type 0
IsBlockItem n bs i = i ≡ block_item (block n bs)

-- the item of a block whose digest is there
pub block_there : (n : ℕ) (d : List ℕ) (b : PartBytes) → 4096 * n < b.size → n < 2 ^ 32 → ((m : List (ℕ × List ℕ)) → StandsFor number_sort b.digests m → Some d ≡ value_at number_bits n m)
    → (bs : List ℕ) → StandsBytes b bs → HasItem BytesItem (IsBlockItem n) SpellsBlock d bs
block_there n d b some small found bs h =
    let digest : Some d ≡ Some (sha256 (block_item (block n bs))) = found (block_digests bs) h.digests ∙ digest_there bs n b.digests h.digests (subst (λ z. 4096 * n < z) h.size some) (is_number n small) in
    record {
      item = block_item (block n bs);
      is = refl;
      hashed = inr (n, refl);
      digested = let e : d ≡ sha256 (block_item (block n bs)) = cc in sym e;
      value = block n bs;
      spelled = (refl, let l = length-block n bs in omega (arith, l));
    }

-- ---- an inode

bytes_of_content : (k : Content) (b : PartBytes) → StandsContent (LoadedBytes b) k → (bs : List ℕ) × (k ≡ Bytes bs) × StandsBytes b bs
bytes_of_content (Bytes bs) b h = (bs, refl, h)
bytes_of_content (Names m) b h = absurd h

names_of_content : (k : Content) (t : PartTree Name FileId) → StandsContent (LoadedNames t) k → (m : FinMap name_cmp FileId) × (k ≡ Names m) × StandsFor name_sort t (entries m)
names_of_content (Bytes bs) t h = absurd h
names_of_content (Names m) t h = (m, refl, h)

pub bytes_within : (p : PartInode) (b c : PartBytes) → p.content ≡ LoadedBytes b → (i : Inode) → StandsInode p i → IsWithin StandsBytes BytesItem StandsInode InodeItemOf b c p (record p { content = LoadedBytes c }) i
bytes_within p b c is i h =
    let y = bytes_of_content i.content b (subst (λ x. StandsContent x i.content) is h.content) in
    record {
      part = y.0;
      before = y.2;
      hashed = λ s d. inr (subst (λ k. ContentItem k s) (sym y.1) d);
      after = λ d. record { home = h.home; links = h.links; content = subst (StandsContent (LoadedBytes c)) (sym y.1) d };
    }

pub names_within : (p : PartInode) (t v : PartTree Name FileId) → p.content ≡ LoadedNames t → (i : Inode) → StandsInode p i
    → IsWithin (StandsFor name_sort) (λ m. Contains (encodings (names file_id_bytes) m)) StandsInode InodeItemOf t v p (record p { content = LoadedNames v }) i
names_within p t v is i h =
    let y = names_of_content i.content t (subst (λ x. StandsContent x i.content) is h.content) in
    record {
      part = entries y.0;
      before = y.2;
      hashed = λ s d. inr (subst (λ k. ContentItem k s) (sym y.1) d);
      after = λ d. record { home = h.home; links = h.links; content = subst (StandsContent (LoadedNames v)) (sym y.1) d };
    }

-- ---- what a user has

abbrev pub StandsPair : UserPart → ℕ × Tree → Type 0
StandsPair p x = StandsUser x.0 p x.1

abbrev pub PairItem : ℕ × Tree → List ℕ → Type 0
PairItem x s = ItemOf x.0 x.1 s

-- the i-table
pub table_within : (p : UserPart) (t : PartTree ℕ (List ℕ)) (x : ℕ × Tree) → StandsPair p x → IsWithin (StandsFor number_sort) (λ m. Contains (encodings (numbers (λ d. d)) m)) StandsPair PairItem p.table t p (record p { table = t }) x
table_within p t x h = record {
  part = user_table x.1 x.0;
  before = h.table;
  hashed = λ i c. inl c;
  after = λ d. record { table = d; meant = h.meant; inodes = h.inodes };
}

pub inode_of : (o : Option Inode) (i : PartInode) → StandsAt (Some i) o → (k : Inode) × (o ≡ Some k) × StandsInode i k
inode_of None i h = absurd h
inode_of (Some k) i h = (k, refl, h)

-- an inode that is loaded
pub inode_within : (n : ℕ) (i j : PartInode) (p q : UserPart) → q.table ≡ p.table → Some i ≡ at_number p.inodes.entries n
    → ((k : ℕ) → at_number q.inodes.entries k ≡ cond (is_at (nat_cmp n) k) (Some j) (at_number p.inodes.entries k))
    → (x : ℕ × Tree) → StandsPair p x → IsWithin StandsInode InodeItemOf StandsPair PairItem i j p q x
inode_within n i j p q same found updates x h =
    let y = inode_of (get x.1.inodes (x.0, n)) i (subst (λ v. StandsAt v (get x.1.inodes (x.0, n))) (sym found) (h.inodes n)) in
    record {
      part = y.0;
      before = y.2;
      hashed = λ s d. inr (n, y.0, y.1, d);
      after = λ d. record {
        table = subst (λ t. StandsFor number_sort t (user_table x.1 x.0)) (sym same) h.table;
        meant = h.meant;
        inodes = inserted p.inodes.entries q.inodes.entries n j (λ k. get x.1.inodes (x.0, k)) updates h.inodes (subst (StandsAt (Some j)) (sym y.1) d);
      };
    }

-- the item of an inode whose digest is there
pub inode_there : (n : ℕ) (d : List ℕ) (p : UserPart) → IsTrue (is_u32 n) → ((m : List (ℕ × List ℕ)) → StandsFor number_sort p.table m → Some d ≡ value_at number_bits n m)
    → (x : ℕ × Tree) → StandsPair p x → HasItem PairItem (λ y s. IsItemAt y.0 n y.1 s) SpellsInode d x
unfolding inode_digest
inode_there n d p small found x h =
    let y = some_there d (get x.1.inodes (x.0, n)) (found (user_table x.1 x.0) h.table ∙ table_value x.0 n x.1 p.table h.table small) in
    let meant = subst MeantAt y.1 (h.meant n) in
    record {
      item = inode_item y.0;
      is = record { inode = y.0; at = y.1; meant = meant; item = refl };
      hashed = inr (n, y.0, y.1, inl refl);
      digested = sym y.2;
      value = item_of y.0;
      spelled = item_begins y.0 meant;
    }

-- ---- trees that are loaded

module _ {S A : Type 0} (may_give : S → List ℕ → Type 0) (failed_of : S → Failures) (comes : S → S → Type 0) where
  pub digests_loaded : (b : PartBytes) (t : PartTree ℕ (List ℕ)) (s v : S) (r : Result A Refusal) → LoadsDigests may_give failed_of comes b.digests t s v r → LoadsBytes may_give failed_of comes b (record b { digests = t }) s v r
  digests_loaded b t s v r h = loads_within b (record b { digests = t }) (digests_within b t) (blocks_with_path b (record b { digests = t }) refl h.keeps refl) h

  pub table_loaded : (p : UserPart) (t : PartTree ℕ (List ℕ)) (s v : S) (r : Result A Refusal) → LoadsDigests may_give failed_of comes p.table t s v r → LoadsUser may_give failed_of comes p (record p { table = t }) s v r
  table_loaded p t s v r h = loads_within p (record p { table = t }) (table_within p t) (all_with_path p (record p { table = t }) h.keeps refl) h
