-- What is left of a part is left of the whole: of a tree, of an inode's content, of an inode, of a user's part.
use Rattle.std.proofs.Common.{◌≡◌, ◌∙◌, ◌⊎◌, ℕ, List, ◌∷◌, ◌++◌, Bool, true, false, cond, Option, Some, None, ap, subst, sym, refl, inl, inr}
use Rattle.std.specs.Prelude.{Result, Ok, Err, OnOk, IfErr}
use Rattle.std.specs.BTreeMap.{is_at}
use Rattle.std.specs.FinMap.{get, entries}
use Rattle.std.specs.Int.{w32, to_be_bytes}
use Rattle.std.specs.List.{Contains}
use Rattle.std.specs.Ordering.{nat_cmp}
use Rattle.su_bytes.specs.FileId.{file_id_bytes, is_file_id}
use Rattle.su_bytes.specs.Name.{is_name}
use Rattle.su_bytes.specs.declared.file_ids.FileId.{FileId}
use Rattle.su_bytes.specs.declared.refusals.Refusal.{Refusal}
use Rattle.su_bytes.specs.declared.refusals.Refusal.TheVariants.{NoMemory, SourceFailed}
use Rattle.su_block.specs.declared.failures.Failures.{Failures}
use Rattle.su_tree.specs.Collision.{encodings}
use Rattle.su_tree.specs.Laws.Names as name
use Rattle.su_tree.specs.Laws.Numbers as number
use Rattle.su_tree.specs.Laws.Values.{file_id_told}
use Rattle.su_tree.specs.Name.{name_bits}
use Rattle.su_tree.specs.Number.{number_bits, number_bytes, is_u32}
use Rattle.su_tree.specs.Value.{is_digest}
use Rattle.su_hash_tree.specs.Sort.{Sort}
use Rattle.su_hash_tree.proofs.Standing.{stands_map}
use Rattle.su_part_tree.specs.Loading.{FailedAtItem}
use Rattle.su_part_tree.specs.declared.parts.PartTree.{PartTree}
use Rattle.su_part_tree.specs.Part.{HasNone, IsItemIn, StandsFor}
use Rattle.su_part_tree.specs.Putting.{Took}
use Rattle.su_part_tree.proofs.Loading.{encoding}
use Rattle.su_part_tree.proofs.Putting.{item_in}
use Rattle.su_node.specs.Digest.{block_digests, content_digest, inode_item, kind_byte}
use Rattle.su_node.specs.Inode.{Inode, Content, Content.Bytes, Content.Names, kind_of, size_of}
use Rattle.su_table.specs.Handle.{user_table}
use Rattle.su_table.specs.Tree.{Tree}
use Rattle.su_part.specs.Bytes.{BytesItem, StandsBytes, number_sort}
use Rattle.su_part.specs.Loads.{FailedAt}
use Rattle.su_part.specs.Part.{ContentItem, InodeItemOf, StandsAt, StandsContent, StandsInode, at_number, name_sort}
use Rattle.su_part.specs.Sheds.{HasNothingIn, IsItemInContent, IsItemInInode, IsItemInUser, Sheds, ShedsBytes, ShedsContent, ShedsInode, ShedsUser, digest_in, kind_in, own_item, size_in}
use Rattle.su_part.specs.declared.blocks.PartBytes.{PartBytes}
use Rattle.su_part.specs.declared.inodes.PartContent.{PartContent}
use Rattle.su_part.specs.declared.inodes.PartContent.TheVariants.{Bytes as LoadedBytes, Names as LoadedNames}
use Rattle.su_part.specs.declared.inodes.PartInode.{PartInode}
use Rattle.su_part.specs.declared.users.UserPart.{UserPart}
use Rattle.su_part.proofs.FetchLemmas.{StandsPair, PairItem, inode_of, inode_within, table_within}
use Rattle.su_part.proofs.LoadLemmas.{IsWithin, err_weaker}
use Rattle.su_part.proofs.Numbers.{at_itself, same_number, updated}
use Rattle.su_part.proofs.ShedLemmas.{bytes_hashed, none_in, on_ok}

-- ---- a part of something else

pub sheds_within : {P X P' X' S A : Type 0} {Stands : P → X → Type 0} {Hashed : X → List ℕ → Type 0} {IsIn : P → List ℕ → Type 0} {Stands' : P' → X' → Type 0} {Hashed' : X' → List ℕ → Type 0} {IsIn' : P' → List ℕ → Type 0}
    {may_give : S → List ℕ → Type 0} {failed_of : S → Failures} {comes : S → S → Type 0} {puts : S → List ℕ → S → Type 0} {p q : P} (p' q' : P') {s t : S} {r : Result A Refusal}
    → ((x' : X') → Stands' p' x' → IsWithin Stands Hashed Stands' Hashed' p q p' q' x') → ((x' : X') → Stands' p' x' → (i : List ℕ) → IsIn' p' i → Hashed' x' i)
    → ((i : List ℕ) → IsIn p i → IsIn' p' i) → ((i : List ℕ) → IsIn q i → IsIn' q' i)
    → ((i : List ℕ) → IsIn' p' i → IsIn p i ⊎ IsIn' q' i) → ((i : List ℕ) → IsIn' q' i → IsIn q i ⊎ IsIn' p' i)
    → Sheds Stands Hashed IsIn may_give failed_of comes puts p q s t r → Sheds Stands' Hashed' IsIn' may_give failed_of comes puts p' q' s t r
sheds_within {Hashed = Hashed} {IsIn = IsIn} {Hashed' = Hashed'} {IsIn' = IsIn'} {may_give = may_give} {failed_of = failed_of} {comes = comes} {puts = puts} {p = p} {q = q} p' q' {s = s} {t = t} {r = r} within hashed up up_after parts parts_after h = record {
  stands = λ x a. let y = within x a in y.after (h.stands y.part y.before);
  no_new = on_ok r ((i : List ℕ) → IsIn q i → IsIn p i) ((i : List ℕ) → IsIn' q' i → IsIn' p' i) (λ none i own. old none i (parts_after i own)) h.no_new;
  not_lost = λ i own. kept_or i (parts i own);
  more = λ i m. given i (h.more i m);
  hashed = hashed;
  failed = λ x a. let y = within x a in err_weaker r (FailedAt (Hashed y.part) (failed_of t)) (FailedAt (Hashed' x) (failed_of t)) (λ e there failure. let z = there failure in (z.0, y.hashed z.0 z.1, z.2)) (h.failed y.part y.before);
  refused = h.refused;
  follows = h.follows;
}
  where
    old : ((i : List ℕ) → IsIn q i → IsIn p i) → (i : List ℕ) → IsIn q i ⊎ IsIn' p' i → IsIn' p' i
    old none i (inl own) = up i (none i own)
    old none i (inr was) = was

    still : (i : List ℕ) → Took comes puts s t i ⊎ IsIn q i → Took comes puts s t i ⊎ IsIn' q' i
    still i (inl took) = inl took
    still i (inr own) = inr (up_after i own)

    kept_or : (i : List ℕ) → IsIn p i ⊎ IsIn' q' i → Took comes puts s t i ⊎ IsIn' q' i
    kept_or i (inl own) = still i (h.not_lost i own)
    kept_or i (inr there) = inr there

    given : (i : List ℕ) → may_give s i ⊎ IsIn p i → may_give s i ⊎ IsIn' p' i
    given i (inl m) = inl m
    given i (inr own) = inr (up i own)

-- ---- a tree

module _ {K V S A : Type 0} (t : Sort K V) (may_give : S → List ℕ → Type 0) (failed_of : S → Failures) (comes : S → S → Type 0) (puts : S → List ℕ → S → Type 0) (p q : PartTree K V) (s v : S) (r : Result A Refusal) where
  pub tree_sheds : ((m : List (K × V)) → StandsFor t p m → StandsFor t q m) → OnOk r (HasNone q)
      → ((i : List ℕ) → IsItemIn t p i → Took comes puts s v i ⊎ IsItemIn t q i) → ((i : List ℕ) → may_give v i → may_give s i ⊎ IsItemIn t p i)
      → ((m : List (K × V)) → StandsFor t p m → (i : List ℕ) → IsItemIn t p i → Contains (encodings t.kind m) i)
      → ((m : List (K × V)) → StandsFor t p m → IfErr r (FailedAtItem t m (failed_of v))) → IfErr r (λ e. (e ≡ SourceFailed) ⊎ (e ≡ NoMemory)) → comes s v
      → Sheds (StandsFor t) (λ m. Contains (encodings t.kind m)) (IsItemIn t) may_give failed_of comes puts p q s v r
  tree_sheds stands none not_lost more hashed failed refused follows = record {
    stands = stands;
    no_new = on_ok r (HasNone q) ((i : List ℕ) → IsItemIn t q i → IsItemIn t p i) (λ n i own. absurd (none_in t q.root i n own)) none;
    not_lost = not_lost;
    more = more;
    hashed = hashed;
    failed = failed;
    refused = refused;
    follows = follows;
  }

-- ---- an inode's content

content_hashed : (p : PartContent) (c : Content) → StandsContent p c → (i : List ℕ) → IsItemInContent p i → ContentItem c i
content_hashed (LoadedBytes b) (Bytes bs) h i own = bytes_hashed b bs h i own
content_hashed (LoadedBytes b) (Names m) h i own = absurd h
content_hashed (LoadedNames t) (Bytes bs) h i own = absurd h
content_hashed (LoadedNames t) (Names m) h i own = item_in name_sort (encoding name_bits (λ x. x) is_name file_id_bytes is_file_id name.short name.small name.told file_id_told) t.root (entries m) h i own

-- nothing that is loaded has no items
nothing_in : (p : PartContent) → HasNothingIn p → (i : List ℕ) → IsItemInContent p i → ⊥
nothing_in (LoadedBytes b) h i (inl node) = none_in number_sort b.digests.root i h.0 node
nothing_in (LoadedBytes b) h i (inr (n, bytes, at, is)) = absurd (let z : None ≡ Some bytes = sym (h.1 n) ∙ at in cc)
nothing_in (LoadedNames t) h i node = none_in name_sort t.root i h node

bytes_in_content : (b c : PartBytes) (x : Content) → StandsContent (LoadedBytes b) x → IsWithin StandsBytes BytesItem StandsContent ContentItem b c (LoadedBytes b) (LoadedBytes c) x
bytes_in_content b c (Bytes bs) h = record { part = bs; before = h; hashed = λ i d. d; after = λ d. d }
bytes_in_content b c (Names m) h = absurd h

names_in_content : (t v : PartTree (List ℕ) FileId) (x : Content) → StandsContent (LoadedNames t) x → IsWithin (StandsFor name_sort) (λ m. Contains (encodings name_sort.kind m)) StandsContent ContentItem t v (LoadedNames t) (LoadedNames v) x
names_in_content t v (Bytes bs) h = absurd h
names_in_content t v (Names m) h = record { part = entries m; before = h; hashed = λ i d. d; after = λ d. d }

module _ {S A : Type 0} {may_give : S → List ℕ → Type 0} {failed_of : S → Failures} {comes : S → S → Type 0} {puts : S → List ℕ → S → Type 0} {s v : S} {r : Result A Refusal} where
  pub bytes_sheds : (p : PartContent) (b c : PartBytes) → p ≡ LoadedBytes b → ShedsBytes may_give failed_of comes puts b c s v r → ShedsContent may_give failed_of comes puts p (LoadedBytes c) s v r
  bytes_sheds p b c is h =
      subst (λ y. ShedsContent may_give failed_of comes puts y (LoadedBytes c) s v r) (sym is)
      (sheds_within (LoadedBytes b) (LoadedBytes c) (bytes_in_content b c) (content_hashed (LoadedBytes b)) (λ i own. own) (λ i own. own) (λ i own. inl own) (λ i own. inl own) h)

  pub names_sheds : (p : PartContent) (t w : PartTree (List ℕ) FileId) → p ≡ LoadedNames t → Sheds (StandsFor name_sort) (λ m. Contains (encodings name_sort.kind m)) (IsItemIn name_sort) may_give failed_of comes puts t w s v r
      → ShedsContent may_give failed_of comes puts p (LoadedNames w) s v r
  names_sheds p t w is h =
      subst (λ y. ShedsContent may_give failed_of comes puts y (LoadedNames w) s v r) (sym is)
      (sheds_within (LoadedNames t) (LoadedNames w) (names_in_content t w) (content_hashed (LoadedNames t)) (λ i own. own) (λ i own. own) (λ i own. inl own) (λ i own. inl own) h)

-- ---- an inode

-- what stands in an inode's item of its content
ends : (p : PartContent) (c : Content) → StandsContent p c → (kind_in p ≡ kind_byte (kind_of c)) × (size_in p ≡ size_of c) × (digest_in p ≡ content_digest c)
ends (LoadedBytes b) (Bytes bs) h = (refl, h.size, sym (stands_map number_sort b.digests.root (block_digests bs) h.digests).is)
ends (LoadedBytes b) (Names m) h = absurd h
ends (LoadedNames t) (Bytes bs) h = absurd h
ends (LoadedNames t) (Names m) h = (refl, refl, sym (stands_map name_sort t.root (entries m) h).is)

same_item : {a b : FileId} {k m l n x y : ℕ} {d e : List ℕ} → a ≡ b → k ≡ m → l ≡ n → x ≡ y → d ≡ e
    → (3 ∷ file_id_bytes a ++ k ∷ l ∷ to_be_bytes w32 x ++ d) ≡ (3 ∷ file_id_bytes b ++ m ∷ n ∷ to_be_bytes w32 y ++ e)
same_item p q r u v = rw (p, q, r, u, v) refl

-- the item of an inode that is loaded is the inode's
own_is : (p : PartInode) (i : Inode) → StandsInode p i → own_item p ≡ inode_item i
own_is p i h = let e = ends p.content i.content h.content in same_item h.home e.0 h.links e.1 e.2

pub inode_hashed : (p : PartInode) (i : Inode) → StandsInode p i → (s : List ℕ) → IsItemInInode p s → InodeItemOf i s
inode_hashed p i h s (inl own) = inl (own ∙ own_is p i h)
inode_hashed p i h s (inr item) = inr (content_hashed p.content i.content h.content s item)

content_within : (p : PartInode) (d : PartContent) (i : Inode) → StandsInode p i → IsWithin StandsContent ContentItem StandsInode InodeItemOf p.content d p (record p { content = d }) i
content_within p d i h = record { part = i.content; before = h.content; hashed = λ s c. inr c; after = λ c. record { home = h.home; links = h.links; content = c } }

module _ {S A : Type 0} {may_give : S → List ℕ → Type 0} {failed_of : S → Failures} {comes : S → S → Type 0} {puts : S → List ℕ → S → Type 0} {s v : S} {r : Result A Refusal} where
  pub content_sheds : (p : PartInode) (d : PartContent) → kind_in d ≡ kind_in p.content → size_in d ≡ size_in p.content → digest_in d ≡ digest_in p.content
      → ShedsContent may_give failed_of comes puts p.content d s v r → ShedsInode may_give failed_of comes puts p (record p { content = d }) s v r
  content_sheds p d kind size digest h =
      sheds_within p (record p { content = d }) (content_within p d) (inode_hashed p) (λ i own. inr own) (λ i own. inr own)
      (λ i own. elim own [ inl is ↦ inr (inl (is ∙ sym same)) | inr c ↦ inl c ]) (λ i own. elim own [ inl is ↦ inr (inl (is ∙ same)) | inr c ↦ inl c ]) h
    where
      same : own_item (record p { content = d }) ≡ own_item p
      same = same_item refl kind refl size digest

  -- all items of an inode were taken, where its own was and nothing of its content is loaded
  pub all_took : (p q : PartInode) → ShedsInode may_give failed_of comes puts p q s v r → Took comes puts s v (own_item q) → HasNothingIn q.content → (i : List ℕ) → IsItemInInode p i → Took comes puts s v i
  all_took p q h took nothing i own = elim (h.not_lost i own) [
    | inl done ↦ done
    | inr (inl is) ↦ subst (Took comes puts s v) (sym is) took
    | inr (inr item) ↦ absurd (nothing_in q.content nothing i item)
  ]

-- ---- a user's part

pub user_hashed : (p : UserPart) (x : ℕ × Tree) → StandsPair p x → (i : List ℕ) → IsItemInUser p i → PairItem x i
user_hashed p x h i (inl node) =
    inl (item_in number_sort (encoding number_bits number_bytes is_u32 (λ d. d) is_digest number.short number.small number.told (λ a b ha hb e. e)) p.table.root (user_table x.1 x.0) h.table i node)
user_hashed p x h i (inr (n, q, at, own)) =
    let y = inode_of (get x.1.inodes (x.0, n)) q (subst (λ o. StandsAt o (get x.1.inodes (x.0, n))) at (h.inodes n)) in
    inr (n, y.0, y.1, inode_hashed q y.0 y.2 i own)

-- the items of inodes, where one inode takes the place of another, or of none
module _ (p q : UserPart) (n : ℕ) (o : Option PartInode) (updates : (k : ℕ) → at_number q.inodes.entries k ≡ cond (is_at (nat_cmp n) k) o (at_number p.inodes.entries k)) where
  -- one that is there is that one, or was there
  there_after : (k : ℕ) (x : PartInode) → at_number q.inodes.entries k ≡ Some x → (o ≡ Some x) ⊎ (at_number p.inodes.entries k ≡ Some x)
  there_after k x at = go (is_at (nat_cmp n) k) (sym (updates k) ∙ at)
    where
      go : (b : Bool) → cond b o (at_number p.inodes.entries k) ≡ Some x → (o ≡ Some x) ⊎ (at_number p.inodes.entries k ≡ Some x)
      go true e = inl e
      go false e = inr e

  -- one that was there was the other one, or is there
  there_before : (k : ℕ) (x : PartInode) → at_number p.inodes.entries k ≡ Some x → (at_number p.inodes.entries n ≡ Some x) ⊎ (at_number q.inodes.entries k ≡ Some x)
  there_before k x at = go (is_at (nat_cmp n) k) refl
    where
      go : (b : Bool) → is_at (nat_cmp n) k ≡ b → (at_number p.inodes.entries n ≡ Some x) ⊎ (at_number q.inodes.entries k ≡ Some x)
      go true e = inl (ap (at_number p.inodes.entries) (same_number n k e) ∙ at)
      go false e = inr (updates k ∙ ap (λ b. cond b o (at_number p.inodes.entries k)) e ∙ at)

module _ {S A : Type 0} {may_give : S → List ℕ → Type 0} {failed_of : S → Failures} {comes : S → S → Type 0} {puts : S → List ℕ → S → Type 0} {s v : S} {r : Result A Refusal} where
  -- the table
  pub table_sheds : (p : UserPart) (t : PartTree ℕ (List ℕ)) → Sheds (StandsFor number_sort) (λ m. Contains (encodings number_sort.kind m)) (IsItemIn number_sort) may_give failed_of comes puts p.table t s v r
      → ShedsUser may_give failed_of comes puts p (record p { table = t }) s v r
  table_sheds p t h =
      sheds_within p (record p { table = t }) (table_within p t) (user_hashed p) (λ i own. inl own) (λ i own. inl own)
      (λ i own. elim own [ inl node ↦ inl node | inr there ↦ inr (inr there) ]) (λ i own. elim own [ inl node ↦ inl node | inr there ↦ inr (inr there) ]) h

  -- an inode
  pub inode_sheds : (n : ℕ) (i j : PartInode) (p q : UserPart) → q.table ≡ p.table → Some i ≡ at_number p.inodes.entries n → ((k : ℕ) → at_number q.inodes.entries k ≡ cond (is_at (nat_cmp n) k) (Some j) (at_number p.inodes.entries k))
      → ShedsInode may_give failed_of comes puts i j s v r → ShedsUser may_give failed_of comes puts p q s v r
  inode_sheds n i j p q same found updates h =
      sheds_within p q (inode_within n i j p q same found updates) (user_hashed p) (λ a own. inr (n, i, sym found, own)) (λ a own. inr (n, j, here, own)) parts parts_after h
    where
      here : at_number q.inodes.entries n ≡ Some j
      here = updates n ∙ ap (λ b. cond b (Some j) (at_number p.inodes.entries n)) (at_itself n)

      parts : (a : List ℕ) → IsItemInUser p a → IsItemInInode i a ⊎ IsItemInUser q a
      parts a (inl node) = inr (inl (subst (λ t. IsItemIn number_sort t a) (sym same) node))
      parts a (inr (k, x, at, own)) = elim (there_before p q n (Some j) updates k x at) [
        | inl e ↦ inl (subst (λ y. IsItemInInode y a) (let z : Some x ≡ Some i = sym e ∙ sym found in cc) own)
        | inr e ↦ inr (inr (k, x, e, own))
      ]

      parts_after : (a : List ℕ) → IsItemInUser q a → IsItemInInode j a ⊎ IsItemInUser p a
      parts_after a (inl node) = inr (inl (subst (λ t. IsItemIn number_sort t a) same node))
      parts_after a (inr (k, x, at, own)) = elim (there_after p q n (Some j) updates k x at) [
        | inl e ↦ inl (subst (λ y. IsItemInInode y a) (let z : Some x ≡ Some j = sym e in cc) own)
        | inr e ↦ inr (inr (k, x, e, own))
      ]

module _ {S A B : Type 0} {may_give : S → List ℕ → Type 0} {failed_of : S → Failures} {comes : S → S → Type 0} {puts : S → List ℕ → S → Type 0} {s v : S} {a : A} {b : B} where
  -- an inode of which all items were taken is not kept
  pub inode_left : (n : ℕ) (p q w : UserPart) → w.table ≡ q.table → ((k : ℕ) → at_number w.inodes.entries k ≡ cond (is_at (nat_cmp n) k) None (at_number q.inodes.entries k))
      → ((x : PartInode) → at_number q.inodes.entries n ≡ Some x → (i : List ℕ) → IsItemInInode x i → Took comes puts s v i)
      → ShedsUser may_give failed_of comes puts p q s v (Ok a) → ShedsUser may_give failed_of comes puts p w s v (Ok b)
  inode_left n p q w same updates took h = record {
    stands = λ x stands. let y = h.stands x stands in record {
      table = subst (λ t. StandsFor number_sort t (user_table x.1 x.0)) (sym same) y.table;
      meant = y.meant;
      inodes = updated (λ k o. StandsAt o (get x.1.inodes (x.0, k))) q.inodes.entries w.inodes.entries n None updates y.inodes tt;
    };
    no_new = λ i own. h.no_new i (was i own);
    not_lost = λ i own. kept_or i (h.not_lost i own);
    more = h.more;
    hashed = h.hashed;
    failed = λ x stands. tt;
    refused = tt;
    follows = h.follows;
  }
    where
      was : (i : List ℕ) → IsItemInUser w i → IsItemInUser q i
      was i (inl node) = inl (subst (λ t. IsItemIn number_sort t i) same node)
      was i (inr (k, x, at, own)) = elim (there_after q w n None updates k x at) [ inl e ↦ absurd (let z : None ≡ Some x = e in cc) | inr e ↦ inr (k, x, e, own) ]

      kept_or : (i : List ℕ) → Took comes puts s v i ⊎ IsItemInUser q i → Took comes puts s v i ⊎ IsItemInUser w i
      kept_or i (inl done) = inl done
      kept_or i (inr (inl node)) = inr (inl (subst (λ t. IsItemIn number_sort t i) (sym same) node))
      kept_or i (inr (inr (k, x, at, own))) = elim (there_before q w n None updates k x at) [ inl e ↦ inl (took x e i own) | inr e ↦ inr (inr (k, x, e, own)) ]

-- all items of an inode were taken that stands there after its shed
pub put_there_took : {S A : Type 0} {may_give : S → List ℕ → Type 0} {failed_of : S → Failures} {comes : S → S → Type 0} {puts : S → List ℕ → S → Type 0} {s v : S} (r : Result A Refusal) (o : Option PartInode) (i j : PartInode) → o ≡ Some j
    → ShedsInode may_give failed_of comes puts i j s v r → OnOk r ((a : List ℕ) → IsItemInInode i a → Took comes puts s v a)
    → OnOk r ((x : PartInode) → o ≡ Some x → (a : List ℕ) → IsItemInInode x a → Took comes puts s v a)
put_there_took (Err e) o i j at h took = tt
put_there_took (Ok b) o i j at h took = λ x is a own. took a (h.no_new a (subst (λ y. IsItemInInode y a) (let z : Some x ≡ Some j = sym is ∙ at in cc) own))
