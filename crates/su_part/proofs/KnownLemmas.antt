-- What stays known of a user's part.
use Rattle.std.proofs.Common.{◌≡◌, ◌≢◌, ◌∙◌, ℕ, ◌+◌, ◌*◌, ◌/◌, ◌<◌, ◌≤◌, ◌^◌, Bool, true, false, cond, leb, min, max, IsTrue, List, length, Option, Some, None, refl, sym, ap, subst, arith, ◌⊎◌, inl, inr}
use Rattle.std.specs.Prelude.{IsSome}
use Rattle.std.specs.BTreeMap.{is_at}
use Rattle.std.specs.Option.{option_map}
use Rattle.std.specs.Ordering.{nat_cmp, eq_by_cmp}
use Rattle.std.specs.FinMap.{FinMap, get, entries, get-entries}
use Rattle.std.proofs.lemmas.Bool.{leb-true, leb-false}
use Rattle.su_bytes.specs.Name.{is_name}
use Rattle.su_bytes.specs.FileId.{is_file_id}
use Rattle.su_bytes.specs.declared.file_ids.FileId.{FileId}
use Rattle.su_tree.specs.Number.{number_bits, is_u32}
use Rattle.su_tree.specs.Name.{name_bits}
use Rattle.su_tree.specs.Laws.Names as name
use Rattle.su_hash_tree.specs.Edits.{value_at, without_key}
use Rattle.su_hash_tree.proofs.Compared.{find_by_order, keys_meant, without_by_order}
use Rattle.su_hash_tree.proofs.Standing.{stands_map}
use Rattle.su_part_tree.specs.declared.parts.PartTree.{PartTree}
use Rattle.su_part_tree.specs.Part.{StandsFor, IsKnown, reaches}
use Rattle.su_node.specs.Name.{Name, name_cmp}
use Rattle.su_node.specs.Field.{Field.NameOf, Field.SizeOf, Value.Nothing, content_value, field_value, file_value}
use Rattle.su_node.specs.Inode.{Inode, Content, Content.Bytes, Content.Names, size_of}
use Rattle.su_node.specs.Digest.{block_count, inode_digest}
use Rattle.su_node.specs.InodeChange.{InodeChange, InodeChange.Gone, inode_after, map_bytes, with_name, with_size, with_bytes_at, set_key}
use Rattle.su_node.proofs.Public.{get-set_key, eq_by_cmp-same, name_cmp_total, name_cmp_exact, length-with_size, length-with_bytes_at}
use Rattle.su_table.specs.Edit.{Edit.Inodes, edit}
use Rattle.su_table.specs.Handle.{user_table}
use Rattle.su_table.specs.Cell.{val}
use Rattle.su_table.specs.Query.{size_at, value_number}
use Rattle.su_table.specs.Tree.{Tree}
use Rattle.su_part.specs.declared.blocks.PartBytes.{PartBytes}
use Rattle.su_part.specs.declared.inodes.PartInode.{PartInode}
use Rattle.su_part.specs.declared.inodes.PartContent.{PartContent}
use Rattle.su_part.specs.declared.inodes.PartContent.TheVariants.{Bytes as LoadedBytes, Names as PartNames}
use Rattle.su_part.specs.declared.users.UserPart.{UserPart}
use Rattle.su_part.specs.Bytes.{number_sort, StandsBytes, HasAllBlocks, HasBlock, loaded_block}
use Rattle.su_part.specs.Part.{with_named, name_sort, StandsAt, StandsContent, StandsInode, StandsUser, at_number}
use Rattle.su_part.specs.Known.{BytesStayKnown, KnowsBlockOf, KnowsBlockIn, KnowsNameIn, OfLoaded, KnowsInode, StaysKnown, StaysKnownIn, Want.AnInode, Want.AName, Want.ABlock}
use Rattle.su_part.proofs.Numbers.{same_number}
use Rattle.su_part.proofs.BytesLemmas.{is_number}
use Rattle.su_part.proofs.ContentLemmas.{entries_without}
use Rattle.su_part.proofs.UserLemmas.{edit_here, edit_there, gone_table, none_there, table_value}

-- ---- of bytes

-- a block that is known and that the file has, is there
known_has : (k : ℕ) (b : PartBytes) (bs : List ℕ) → 4096 * k < length bs → KnowsBlockOf k b bs → HasBlock k b
known_has k b bs lt w = record { path = go w.path; there = λ _. w.there lt }
  where
    go : IsTrue (reaches number_bits k b.digests) ⊎ (length bs ≤ 4096 * k) → IsTrue (reaches number_bits k b.digests)
    go (inl x) = x
    go (inr past) = absurd (omega (arith, past, lt))

-- nothing is lost, and the size is the same
pub known_all : (b c : PartBytes) (bs ds : List ℕ) → StandsBytes b bs → HasAllBlocks b c → length ds ≡ length bs → BytesStayKnown b bs c ds
known_all b c bs ds h all same k w = go (leb (length bs) (4096 * k)) refl
  where
    go : (t : Bool) → leb (length bs) (4096 * k) ≡ t → KnowsBlockOf k c ds
    go true e = let le = leb-true (length bs) (4096 * k) e in record { path = inr (omega (arith, le, same)); there = λ lt. absurd (omega (arith, le, same, lt)) }
    go false e =
        let lt = leb-false (length bs) (4096 * k) e in
        record { path = inl (all.blocks k (known_has k b bs lt w)).path; there = λ low. all.loaded k (w.there lt) }

-- the file is cut
pub known_cut : (b c : PartBytes) (bs : List ℕ) (size : ℕ) → StandsBytes c (with_size size bs) → ((k : ℕ) → 4096 * k < size → HasBlock k b → HasBlock k c) → size ≤ length bs → BytesStayKnown b bs c (with_size size bs)
known_cut b c bs size h keeps within k w = go (leb size (4096 * k)) refl
  where
    long : length (with_size size bs) ≡ size
    long = length-with_size size bs

    go : (t : Bool) → leb size (4096 * k) ≡ t → KnowsBlockOf k c (with_size size bs)
    go true e = let le = leb-true size (4096 * k) e in record { path = inr (omega (arith, le, long)); there = λ lt. absurd (omega (arith, le, long, lt)) }
    go false e =
        let lt = leb-false size (4096 * k) e in
        let there = keeps k lt (known_has k b bs (omega (arith, lt, within)) w) in
        record { path = inl there.path; there = λ low. let is = h.size in there.there (omega (arith, lt, is, long)) }

-- the file is written to past its end
pub known_grown : (b c : PartBytes) (off : ℕ) (xs bs : List ℕ) → ((k : ℕ) → IsTrue (reaches number_bits k b.digests) → IsTrue (reaches number_bits k c.digests)) → ((k : ℕ) → IsSome (loaded_block b k) → IsSome (loaded_block c k))
    → ((k : ℕ) → min off (length bs) / 4096 ≤ k → k < block_count (off + length xs) → IsTrue (reaches number_bits k c.digests) × IsSome (loaded_block c k)) → BytesStayKnown b bs c (with_bytes_at off xs bs)
known_grown b c off xs bs paths loaded new k w = go (leb (length bs) (4096 * k)) refl (leb (off + length xs) (4096 * k)) refl
  where
    long : length (with_bytes_at off xs bs) ≡ max (off + length xs) (length bs)
    long = length-with_bytes_at off xs bs

    go : (t : Bool) → leb (length bs) (4096 * k) ≡ t → (v : Bool) → leb (off + length xs) (4096 * k) ≡ v → KnowsBlockOf k c (with_bytes_at off xs bs)
    go false e v e' =
        let lt = leb-false (length bs) (4096 * k) e in
        record { path = inl (paths k (known_has k b bs lt w).path); there = λ low. loaded k (w.there lt) }
    go true e true e' =
        let le = leb-true (length bs) (4096 * k) e in
        let le' = leb-true (off + length xs) (4096 * k) e' in
        record { path = inr (omega (arith, le, le', long)); there = λ lt. absurd (omega (arith, le, le', long, lt)) }
    go true e false e' =
        let le = leb-true (length bs) (4096 * k) e in
        let lt = leb-false (off + length xs) (4096 * k) e' in
        let has = new k (omega (arith, le)) (omega (arith, lt)) in
        record { path = inl has.0; there = λ low. has.1 }

-- ---- of a content

pub known_same : (p : PartContent) (c : Content) → StaysKnownIn p c p c
known_same p c = record { names = λ x is h. h; blocks = λ k h. h }

bytes_known : (c : Content) (b b' : PartBytes) (f : List ℕ → List ℕ) → StandsContent (LoadedBytes b) c → ((bs : List ℕ) → c ≡ Bytes bs → StandsBytes b bs → BytesStayKnown b bs b' (f bs)) → StaysKnownIn (LoadedBytes b) c (LoadedBytes b') (map_bytes f c)
bytes_known (Bytes bs) b b' f h stay = record { names = λ x is w. tt; blocks = stay bs refl h }
bytes_known (Names m) b b' f h stay = absurd h

-- bytes that are others then
pub known_bytes : (p : PartInode) (i : Inode) → StandsInode p i → (b : PartBytes) → p.content ≡ LoadedBytes b → (b' : PartBytes) (f : List ℕ → List ℕ) → ((bs : List ℕ) → i.content ≡ Bytes bs → StandsBytes b bs → BytesStayKnown b bs b' (f bs))
    → StaysKnownIn p.content i.content (LoadedBytes b') (map_bytes f i.content)
known_bytes p i h b is b' f stay =
    subst (λ c. StaysKnownIn c i.content (LoadedBytes b') (map_bytes f i.content)) (sym is)
    (bytes_known i.content b b' f (subst (λ c. StandsContent c i.content) is h.content) stay)

-- a directory, of which the bytes are others then
names_same : (c : Content) (t : PartTree (List ℕ) FileId) (f : List ℕ → List ℕ) → StandsContent (PartNames t) c → StaysKnownIn (PartNames t) c (PartNames t) (map_bytes f c)
names_same (Bytes bs) t f h = absurd h
names_same (Names m) t f h = record { names = λ x is w. w; blocks = λ k w. w }

pub known_names_same : (p : PartInode) (i : Inode) → StandsInode p i → (t : PartTree (List ℕ) FileId) → p.content ≡ PartNames t → (f : List ℕ → List ℕ) → StaysKnownIn p.content i.content p.content (map_bytes f i.content)
known_names_same p i h t is f =
    subst (λ c. StaysKnownIn c i.content c (map_bytes f i.content)) (sym is) (names_same i.content t f (subst (λ c. StandsContent c i.content) is h.content))

-- a file, of which a name is another then
bytes_unnamed : (c : Content) (b : PartBytes) (x : Name) (v : Option FileId) → StandsContent (LoadedBytes b) c → StaysKnownIn (LoadedBytes b) c (LoadedBytes b) (with_name x v c)
bytes_unnamed (Bytes bs) b x v h = record { names = λ y is w. w; blocks = λ k w. w }
bytes_unnamed (Names m) b x v h = absurd h

pub known_bytes_same : (p : PartInode) (i : Inode) → StandsInode p i → (b : PartBytes) → p.content ≡ LoadedBytes b → (x : Name) (v : Option FileId) → StaysKnownIn p.content i.content p.content (with_name x v i.content)
known_bytes_same p i h b is x v =
    subst (λ c. StaysKnownIn c i.content c (with_name x v i.content)) (sym is) (bytes_unnamed i.content b x v (subst (λ c. StandsContent c i.content) is h.content))

-- ---- names

-- what is known of a name, by the names' tree
name_value : (m : FinMap name_cmp FileId) (t : PartTree (List ℕ) FileId) → StandsFor name_sort t (entries m) → (x : Name) → IsTrue (is_name x) → value_at name_bits x (entries m) ≡ get m x
name_value m t h x is =
    find_by_order is_name name_bits name_cmp name.ordered x (entries m) is (keys_meant is_name is_file_id (entries m) (stands_map name_sort t.root (entries m) h).good) ∙ sym (get-entries m x)

pub name_known : (m : FinMap name_cmp FileId) (t : PartTree (List ℕ) FileId) → StandsFor name_sort t (entries m) → (x : Name) → IsTrue (is_name x) → IsTrue (reaches name_bits x t) ⊎ (get m x ≡ None) → IsKnown name_bits x t (entries m)
name_known m t h x is (inl r) = inl r
name_known m t h x is (inr none) = inr (name_value m t h x is ∙ none)

known_name : (m : FinMap name_cmp FileId) (t : PartTree (List ℕ) FileId) → StandsFor name_sort t (entries m) → (x : Name) → IsTrue (is_name x) → IsKnown name_bits x t (entries m) → IsTrue (reaches name_bits x t) ⊎ (get m x ≡ None)
known_name m t h x is (inl r) = inl r
known_name m t h x is (inr none) = inr (sym (name_value m t h x is) ∙ none)

-- a name is put, of which the path is loaded
put_known : (c : Content) (t t' : PartTree (List ℕ) FileId) (x : Name) (f : FileId) → IsTrue (reaches name_bits x t) → ((y : Name) → IsTrue (reaches name_bits y t) → IsTrue (reaches name_bits y t'))
    → StandsContent (PartNames t) c → StaysKnownIn (PartNames t) c (PartNames t') (with_name x (Some f) c)
put_known (Bytes bs) t t' x f path keeps h = absurd h
put_known (Names m) t t' x f path keeps h = record { names = λ y is w. go y w; blocks = λ k w. tt }
  where
    go : (y : Name) → IsTrue (reaches name_bits y t) ⊎ (get m y ≡ None) → IsTrue (reaches name_bits y t') ⊎ (get (set_key m x (Some f)) y ≡ None)
    go y (inl r) = inl (keeps y r)
    go y (inr none) = at (eq_by_cmp name_cmp y x) refl
      where
        at : (b : Bool) → eq_by_cmp name_cmp y x ≡ b → IsTrue (reaches name_bits y t') ⊎ (get (set_key m x (Some f)) y ≡ None)
        at true e = inl (subst (λ z. IsTrue (reaches name_bits z t')) (sym (eq_by_cmp-same name_cmp_exact y x e)) (keeps x path))
        at false e = inr (get-set_key name_cmp_total m x (Some f) y ∙ ap (λ b. cond b (Some f) (get m y)) e ∙ none)

pub known_name_put : (p : PartInode) (i : Inode) → StandsInode p i → (t : PartTree (List ℕ) FileId) → p.content ≡ PartNames t → (t' : PartTree (List ℕ) FileId) (x : Name) (f : FileId) → IsTrue (reaches name_bits x t)
    → ((y : Name) → IsTrue (reaches name_bits y t) → IsTrue (reaches name_bits y t')) → StaysKnownIn p.content i.content (PartNames t') (with_name x (Some f) i.content)
known_name_put p i h t is t' x f path keeps =
    subst (λ c. StaysKnownIn c i.content (PartNames t') (with_name x (Some f) i.content)) (sym is)
    (put_known i.content t t' x f path keeps (subst (λ c. StandsContent c i.content) is h.content))

-- a name is taken away, which is known
names_without : (m : FinMap name_cmp FileId) (t : PartTree (List ℕ) FileId) → StandsFor name_sort t (entries m) → (x : Name) → IsTrue (is_name x) → without_key name_bits x (entries m) ≡ entries (set_key m x None)
names_without m t h x is =
    without_by_order is_name name_bits name_cmp name.ordered x (entries m) is (keys_meant is_name is_file_id (entries m) (stands_map name_sort t.root (entries m) h).good) ∙ sym (entries_without m x)

take_known : (c : Content) (t t' : PartTree (List ℕ) FileId) (x : Name) → IsTrue (is_name x) → StandsContent (PartNames t) c → KnowsNameIn x (PartNames t) c
    → ((m : List (List ℕ × FileId)) → StandsFor name_sort t m → IsKnown name_bits x t m → StandsFor name_sort t' (without_key name_bits x m))
    → ((m : List (List ℕ × FileId)) → StandsFor name_sort t m → IsKnown name_bits x t m → (y : Name) → IsKnown name_bits y t m → IsKnown name_bits y t' (without_key name_bits x m))
    → StaysKnownIn (PartNames t) c (PartNames t') (with_name x None c)
take_known (Bytes bs) t t' x named h w stands stays = absurd h
take_known (Names m) t t' x named h w stands stays = record {
  names = λ y is v.
      let known = name_known m t h x named w in
      let same = names_without m t h x named in
      known_name (set_key m x None) t' (subst (StandsFor name_sort t') same (stands (entries m) h known)) y is
      (subst (IsKnown name_bits y t') same (stays (entries m) h known y (name_known m t h y is v)));
  blocks = λ k v. tt;
}

pub known_name_taken : (p : PartInode) (i : Inode) → StandsInode p i → (t : PartTree (List ℕ) FileId) → p.content ≡ PartNames t → (t' : PartTree (List ℕ) FileId) (x : Name) → IsTrue (is_name x) → KnowsNameIn x p.content i.content
    → ((m : List (List ℕ × FileId)) → StandsFor name_sort t m → IsKnown name_bits x t m → StandsFor name_sort t' (without_key name_bits x m))
    → ((m : List (List ℕ × FileId)) → StandsFor name_sort t m → IsKnown name_bits x t m → (y : Name) → IsKnown name_bits y t m → IsKnown name_bits y t' (without_key name_bits x m))
    → StaysKnownIn p.content i.content (PartNames t') (with_name x None i.content)
known_name_taken p i h t is t' x named w stands stays =
    subst (λ c. StaysKnownIn c i.content (PartNames t') (with_name x None i.content)) (sym is)
    (take_known i.content t t' x named (subst (λ c. StandsContent c i.content) is h.content) (subst (λ c. KnowsNameIn x c i.content) is w) stands stays)

-- the directory without it
pub names_taken : (p : PartInode) (i : Inode) → StandsInode p i → (t : PartTree (List ℕ) FileId) → p.content ≡ PartNames t → (t' : PartTree (List ℕ) FileId) (x : Name) → IsTrue (is_name x) → KnowsNameIn x p.content i.content
    → ((m : List (List ℕ × FileId)) → StandsFor name_sort t m → IsKnown name_bits x t m → StandsFor name_sort t' (without_key name_bits x m)) → StandsInode (record { home = p.home; links = p.links; content = PartNames t' }) (with_named x None i)
names_taken p i h t is t' x named w stands = record {
  home = h.home;
  links = h.links;
  content = go i.content (subst (λ c. StandsContent c i.content) is h.content) (subst (λ c. KnowsNameIn x c i.content) is w);
}
  where
    go : (c : Content) → StandsContent (PartNames t) c → KnowsNameIn x (PartNames t) c → StandsContent (PartNames t') (with_name x None c)
    go (Bytes bs) s v = s
    go (Names m) s v = subst (StandsFor name_sort t') (names_without m t s x named) (stands (entries m) s (name_known m t s x named v))

-- a name that isn't there
absent_content : (c : Content) (l : ℕ) (home : FileId) (t : PartTree (List ℕ) FileId) (x : Name) → IsTrue (is_name x) → StandsContent (PartNames t) c
    → ((m : List (List ℕ × FileId)) → StandsFor name_sort t m → value_at name_bits x m ≡ None) → content_value c l home (NameOf x) ≡ Nothing
absent_content (Bytes bs) l home t x is h none = absurd h
absent_content (Names m) l home t x is h none = ap file_value (sym (name_value m t h x is) ∙ none (entries m) h)

pub name_absent : (p : PartInode) (i : Inode) → StandsInode p i → (t : PartTree (List ℕ) FileId) → p.content ≡ PartNames t → (x : Name) → IsTrue (is_name x)
    → ((m : List (List ℕ × FileId)) → StandsFor name_sort t m → value_at name_bits x m ≡ None) → field_value (Some i) (NameOf x) ≡ Nothing
name_absent p i h t is x named none = absent_content i.content i.links i.home t x named (subst (λ c. StandsContent c i.content) is h.content) none

-- ---- sizes

file_size : (c : Content) (b : PartBytes) → StandsContent (LoadedBytes b) c → b.size ≡ size_of c
file_size (Bytes bs) b h = h.size
file_size (Names m) b h = absurd h

pub bytes_size : (p : PartInode) (i : Inode) → StandsInode p i → (b : PartBytes) → p.content ≡ LoadedBytes b → b.size ≡ size_of i.content
bytes_size p i h b is = file_size i.content b (subst (λ c. StandsContent c i.content) is h.content)

pub size_there : (T : Tree) (u n : ℕ) (k : Inode) → get T.inodes (u, n) ≡ Some k → size_at T (u, n) ≡ size_of k.content
unfolding val
size_there T u n k at = ap (λ o. value_number (field_value o SizeOf)) at

-- ---- of a user's part, of which the inode of a number is another one

pub loaded_part : (P : PartContent → Content → Type 0) (o : Option PartInode) (g : Option Inode) (i : PartInode) (k : Inode) → Some i ≡ o → g ≡ Some k → OfLoaded P o g → P i.content k.content
loaded_part P o g i k e f w = subst (λ r. OfLoaded P r (Some k)) (sym e) (subst (OfLoaded P o) f w)

pub record StaysKnownAt (o : Option PartInode) (i : Option Inode) (v : Option PartInode) (j : Option Inode) : Type 0 where
  pub names : (x : Name) → IsTrue (is_name x) → OfLoaded (KnowsNameIn x) o i → OfLoaded (KnowsNameIn x) v j
  pub blocks : (k : ℕ) → OfLoaded (KnowsBlockIn k) o i → OfLoaded (KnowsBlockIn k) v j

module _ (u n : ℕ) (T : Tree) (ch : InodeChange) (p q : UserPart) (v : Option PartInode)
    (paths : (m : ℕ) → m < 2 ^ 32 → IsTrue (reaches number_bits m p.table) ⊎ (get T.inodes (u, m) ≡ None) → IsTrue (reaches number_bits m q.table) ⊎ (get (edit T (Inodes (u, n) ch)).inodes (u, m) ≡ None))
    (updates : (k : ℕ) → at_number q.inodes.entries k ≡ cond (is_at (nat_cmp n) k) v (at_number p.inodes.entries k)) (there : get (edit T (Inodes (u, n) ch)).inodes (u, n) ≢ None → IsSome v)
    (here : StaysKnownAt (at_number p.inodes.entries n) (get T.inodes (u, n)) v (get (edit T (Inodes (u, n) ch)).inodes (u, n))) where
  known_inode : (m : ℕ) → KnowsInode u T m p → KnowsInode u (edit T (Inodes (u, n) ch)) m q
  known_inode m w = record { number = w.number; path = paths m w.number w.path; there = λ some. subst IsSome (sym (updates m)) (go (is_at (nat_cmp n) m) refl some) }
    where
      go : (b : Bool) → is_at (nat_cmp n) m ≡ b → get (edit T (Inodes (u, n) ch)).inodes (u, m) ≢ None → IsSome (cond b v (at_number p.inodes.entries m))
      go true e some = there (subst (λ k. get (edit T (Inodes (u, n) ch)).inodes (u, k) ≢ None) (sym (same_number n m e)) some)
      go false e some = w.there (λ none. some (edit_there T u n m ch e ∙ none))

  known_part : (P : PartContent → Content → Type 0) → (OfLoaded P (at_number p.inodes.entries n) (get T.inodes (u, n)) → OfLoaded P v (get (edit T (Inodes (u, n) ch)).inodes (u, n)))
      → (m : ℕ) → OfLoaded P (at_number p.inodes.entries m) (get T.inodes (u, m)) → OfLoaded P (at_number q.inodes.entries m) (get (edit T (Inodes (u, n) ch)).inodes (u, m))
  known_part P itself m w = subst (λ o. OfLoaded P o (get (edit T (Inodes (u, n) ch)).inodes (u, m))) (sym (updates m)) (go (is_at (nat_cmp n) m) refl)
    where
      go : (b : Bool) → is_at (nat_cmp n) m ≡ b → OfLoaded P (cond b v (at_number p.inodes.entries m)) (get (edit T (Inodes (u, n) ch)).inodes (u, m))
      go true e =
          let same : n ≡ m = same_number n m e in
          subst (λ k. OfLoaded P v (get (edit T (Inodes (u, n) ch)).inodes (u, k))) same (itself (subst (λ k. OfLoaded P (at_number p.inodes.entries k) (get T.inodes (u, k))) (sym same) w))
      go false e = subst (OfLoaded P (at_number p.inodes.entries m)) (sym (edit_there T u n m ch e)) w

  pub stays_known : StaysKnown u T (edit T (Inodes (u, n) ch)) p q
  stays_known (AnInode m) w = known_inode m w
  stays_known (AName m x) w = record { name = w.name; inode = known_inode m w.inode; part = known_part (KnowsNameIn x) (here.names x w.name) m w.part }
  stays_known (ABlock m k) w = record { inode = known_inode m w.inode; part = known_part (KnowsBlockIn k) (here.blocks k) m w.part }

pub known_itself : (u : ℕ) (T : Tree) (p : UserPart) → StaysKnown u T T p p
known_itself u T p w h = h

-- an inode that is loaded is changed
module _ (ch : InodeChange) (after : Inode → Inode) (here : (i : Inode) → inode_after ch (Some i) ≡ Some (after i)) where
  pub known_edited : (u n : ℕ) (T : Tree) (p q : UserPart) (i j : PartInode) → StandsUser u p T → Some i ≡ at_number p.inodes.entries n → ((m : ℕ) → IsTrue (reaches number_bits m p.table) → IsTrue (reaches number_bits m q.table))
      → ((k : ℕ) → at_number q.inodes.entries k ≡ cond (is_at (nat_cmp n) k) (Some j) (at_number p.inodes.entries k))
      → ((k : Inode) → get T.inodes (u, n) ≡ Some k → StandsInode i k → StaysKnownIn i.content k.content j.content (after k).content) → StaysKnown u T (edit T (Inodes (u, n) ch)) p q
  known_edited u n T p q i j h found keeps updates stay = go (get T.inodes (u, n)) refl (subst (λ y. StandsAt y (get T.inodes (u, n))) (sym found) (h.inodes n))
    where
      go : (o : Option Inode) → get T.inodes (u, n) ≡ o → StandsAt (Some i) o → StaysKnown u T (edit T (Inodes (u, n) ch)) p q
      go None at stands = absurd stands
      go (Some k) at stands = stays_known u n T ch p q (Some j) paths updates (λ some. refl) (record { names = λ x is. turned (KnowsNameIn x) ((stay k at stands).names x is); blocks = λ b. turned (KnowsBlockIn b) ((stay k at stands).blocks b) })
        where
          turned : (P : PartContent → Content → Type 0) → (P i.content k.content → P j.content (after k).content)
              → OfLoaded P (at_number p.inodes.entries n) (get T.inodes (u, n)) → OfLoaded P (Some j) (get (edit T (Inodes (u, n) ch)).inodes (u, n))
          turned P f w = subst (OfLoaded P (Some j)) (sym (edit_here T u n ch ∙ ap (inode_after ch) at ∙ here k)) (f (subst (λ o. OfLoaded P o (Some k)) (sym found) (subst (OfLoaded P (at_number p.inodes.entries n)) at w)))

          paths : (m : ℕ) → m < 2 ^ 32 → IsTrue (reaches number_bits m p.table) ⊎ (get T.inodes (u, m) ≡ None) → IsTrue (reaches number_bits m q.table) ⊎ (get (edit T (Inodes (u, n) ch)).inodes (u, m) ≡ None)
          paths m small (inl r) = inl (keeps m r)
          paths m small (inr none) = other (is_at (nat_cmp n) m) refl
            where
              other : (b : Bool) → is_at (nat_cmp n) m ≡ b → IsTrue (reaches number_bits m q.table) ⊎ (get (edit T (Inodes (u, n) ch)).inodes (u, m) ≡ None)
              other true e = absurd (let z : Some k ≡ None = sym at ∙ ap (λ y. get T.inodes (u, y)) (same_number n m e) ∙ none in cc)
              other false e = inr (edit_there T u n m ch e ∙ none)

-- an inode is taken out, of which the number is known
pub inode_known : (u n : ℕ) (T : Tree) (p : UserPart) → StandsUser u p T → KnowsInode u T n p → IsKnown number_bits n p.table (user_table T u)
inode_known u n T p h w = go w.path
  where
    go : IsTrue (reaches number_bits n p.table) ⊎ (get T.inodes (u, n) ≡ None) → IsKnown number_bits n p.table (user_table T u)
    go (inl r) = inl r
    go (inr none) = inr (table_value u n T p.table h.table (is_number n w.number) ∙ ap (option_map inode_digest) none)

pub known_gone : (u n : ℕ) (T : Tree) (p q : UserPart) → StandsUser u p T → IsTrue (is_u32 n) → StandsFor number_sort q.table (without_key number_bits n (user_table T u))
    → ((m : ℕ) → IsKnown number_bits m p.table (user_table T u) → IsKnown number_bits m q.table (without_key number_bits n (user_table T u)))
    → ((k : ℕ) → at_number q.inodes.entries k ≡ cond (is_at (nat_cmp n) k) None (at_number p.inodes.entries k)) → StaysKnown u T (edit T (Inodes (u, n) Gone)) p q
known_gone u n T p q h small table stays updates = stays_known u n T Gone p q None paths updates (λ some. absurd (some (edit_here T u n Gone))) (record { names = λ x is w. nothing (KnowsNameIn x); blocks = λ k w. nothing (KnowsBlockIn k) })
  where
    nothing : (P : PartContent → Content → Type 0) → OfLoaded P None (get (edit T (Inodes (u, n) Gone)).inodes (u, n))
    nothing P = tt

    paths : (m : ℕ) → m < 2 ^ 32 → IsTrue (reaches number_bits m p.table) ⊎ (get T.inodes (u, m) ≡ None) → IsTrue (reaches number_bits m q.table) ⊎ (get (edit T (Inodes (u, n) Gone)).inodes (u, m) ≡ None)
    paths m low w = go (stays m (before w))
      where
        before : IsTrue (reaches number_bits m p.table) ⊎ (get T.inodes (u, m) ≡ None) → IsKnown number_bits m p.table (user_table T u)
        before (inl r) = inl r
        before (inr none) = inr (table_value u m T p.table h.table (is_number m low) ∙ ap (option_map inode_digest) none)

        go : IsKnown number_bits m q.table (without_key number_bits n (user_table T u)) → IsTrue (reaches number_bits m q.table) ⊎ (get (edit T (Inodes (u, n) Gone)).inodes (u, m) ≡ None)
        go (inl r) = inl r
        go (inr e) =
            let same = gone_table u n T p.table h.table small in
            inr (none_there (get (edit T (Inodes (u, n) Gone)).inodes (u, m))
            (sym e ∙ ap (value_at number_bits m) same ∙ table_value u m (edit T (Inodes (u, n) Gone)) q.table (subst (StandsFor number_sort q.table) same table) (is_number m low)))
