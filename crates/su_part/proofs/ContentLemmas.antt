-- What a content's digest stands for.
use Rattle.std.proofs.Common.{◌≡◌, ◌∙◌, ℕ, ◌+◌, ◌<◌, ◌≤◌, ◌^◌, ◌&&◌, true, false, Bool, IsTrue, List, [], ◌∷◌, length, refl, sym, ap, subst, arith, Option, Some, None, option_map, cond, not}
use Rattle.std.specs.declared.cmp.Ordering.TheVariants.{Less, Equal, Greater}
use Rattle.std.specs.List.{AllByRecursion as Each}
use Rattle.std.specs.List.Sorted.{IsStrictlySortedBy}
use Rattle.std.specs.Map.{keys_of}
use Rattle.std.specs.FinMap.{FinMap, empty, len-empty, len-entries, entries, entries_sorted, entries-insert, get-entries}
use Rattle.su_bytes.specs.declared.file_ids.FileId.{FileId}
use Rattle.su_bytes.specs.declared.file_ids.Kind.{Kind}
use Rattle.su_bytes.specs.declared.file_ids.Kind.TheVariants.{File, Dir}
use Rattle.std.proofs.lemmas.Bool.Decides.{nat_tests}
use Rattle.std.proofs.lemmas.List.{nil_from_length}
use Rattle.std.specs.Prelude.{◌↔◌, nat_eq}
use Rattle.su_bytes.specs.FileId.{is_file_id}
use Rattle.su_bytes.specs.Name.{is_name}
use Rattle.su_tree.specs.Name.{name_bits}
use Rattle.su_tree.proofs.Sorted.{sorted_entries, Rising, tree_of_rising}
use Rattle.su_hash_tree.specs.Stands.{IsMap}
use Rattle.su_node.specs.Name.{Name, name_cmp}
use Rattle.su_node.specs.Inode.{Inode, Content, Content.Bytes, Content.Names, kind_of, size_of, bytes_of, within, has_no_names, new_inode}
use Rattle.su_node.specs.Digest.{content_digest}
use Rattle.su_part.specs.Item.{MeantContent, MeantInode, item_of}
use Rattle.su_part.proofs.BytesLemmas.{all_blocks_itself, all_blocks_on}
use Rattle.su_part.specs.Part.{HasAllIn, name_sort, StandsContent, StandsInode, with_named, with_links, with_written}
use Rattle.std.proofs.lemmas.Bool.{and_from}
use Rattle.su_tree.specs.Bits.{bits_cmp}
use Rattle.su_part_tree.specs.declared.parts.PartTree.{PartTree}
use Rattle.su_part_tree.specs.Part.{StandsFor}
use Rattle.su_node.specs.Field.{Field.NameOf, file_value, content_value}
use Rattle.su_part.specs.declared.items.InodeItem.{InodeItem}
use Rattle.su_part.specs.declared.inodes.PartInode.{PartInode}
use Rattle.su_part.specs.declared.inodes.PartContent.{PartContent}
use Rattle.su_part.specs.declared.inodes.PartContent.TheVariants.{Bytes as LoadedBytes, Names as PartNames}
use Rattle.su_part.specs.declared.blocks.PartBytes.{PartBytes}
use Rattle.su_part.specs.Bytes.{StandsBytes}
use Rattle.std.specs.declared.cmp.Ordering.{Ordering}
use Rattle.su_hash_tree.specs.Edits.{with_value, without_key, value_at}
use Rattle.su_hash_tree.proofs.Compared.{keys_meant, put_by_order, without_by_order, find_by_order}
use Rattle.su_hash_tree.proofs.Standing.{stands_map}
use Rattle.su_node.specs.InodeChange.{with_name, map_bytes, with_size, with_bytes_at}
use Rattle.su_part.specs.Cut.{with_resized}
use Rattle.su_node.proofs.Contents.{length-with_size, length-with_bytes_at}
use Rattle.std.specs.FinMap.{remove, get-remove}
use Rattle.std.specs.Ordering.{eq_by_cmp}
use Rattle.std.specs.Cmp.{eq_by_cmp_equiv}
use Rattle.su_hash_tree.specs.Seen.{without}
use Rattle.su_node.proofs.Public.{name_cmp_total, name_cmp_exact}
use Rattle.su_tree.specs.Laws.Names as name
use Rattle.std.specs.FinMap.Entries as by

and_left : (a b : Bool) → IsTrue (a && b) → IsTrue a
and_left true b h = refl
and_left false b h = h

-- ---- names

name_above : (e : Name × FileId) (es : List (Name × FileId)) → IsTrue (is_name e.0 && is_file_id e.1) → Each (λ f. IsTrue (is_name f.0 && is_file_id f.1)) es
    → Each (λ k. name_cmp e.0 k ≡ Less) (keys_of es) → Each (λ f. bits_cmp (name_bits e.0) (name_bits f.0) ≡ Less) es
name_above e [] h a s = tt
name_above e (f ∷ es) h a s = (sym (name.ordered e.0 f.0 (and_left (is_name e.0) (is_file_id e.1) h) (and_left (is_name f.0) (is_file_id f.1) a.0)) ∙ s.0, name_above e es h a.1 s.1)

names_rise : (es : List (Name × FileId)) → Each (λ e. IsTrue (is_name e.0 && is_file_id e.1)) es → IsStrictlySortedBy name_cmp (keys_of es) → Rising name_bits es
unfolding IsStrictlySortedBy
names_rise [] a s = tt
names_rise (e ∷ es) a s = (name_above e es a.0 a.1 s.0, names_rise es a.1 s.1)

pub names_map : (m : FinMap name_cmp FileId) → MeantContent (Names m) → IsMap name_sort (content_digest (Names m)) (entries m)
names_map m all = record {
  tree = tree_of_rising name_bits name.prefix_free (entries m) (names_rise (entries m) all (sorted_entries name_cmp (entries m) (entries_sorted m)));
  good = all;
  is = refl;
}

-- ---- a content of which only the digest is known

dir_content : (c : Content) → MeantContent c → kind_of c ≡ Dir → (d : List ℕ) → content_digest c ≡ d → (t : PartTree (List ℕ) FileId) → ((m : List (List ℕ × FileId)) → IsMap name_sort d m → StandsFor name_sort t m)
    → StandsContent (PartNames t) c
dir_content (Bytes bs) meant k d e t stands = absurd cc
dir_content (Names m) meant k d e t stands = stands (entries m) (subst (λ x. IsMap name_sort x (entries m)) e (names_map m meant))

file_content : (c : Content) → kind_of c ≡ File → (d : List ℕ) → content_digest c ≡ d → (size : ℕ) → size ≡ size_of c → (b : PartBytes)
    → ((bs : List ℕ) → size ≡ length bs → d ≡ content_digest (Bytes bs) → StandsBytes b bs) → StandsContent (LoadedBytes b) c
file_content (Names m) k d e size is b stands = absurd cc
file_content (Bytes bs) k d e size is b stands = stands bs is (sym e)

module _ (item : InodeItem) (i : Inode) (m : MeantInode i) (e : item ≡ item_of i) where
  pub dir_inode : (t : PartTree (List ℕ) FileId) → ((m : List (List ℕ × FileId)) → IsMap name_sort item.content m → StandsFor name_sort t m) → item.kind ≡ Dir
      → StandsInode (record { home = item.home; links = item.links; content = PartNames t }) i
  dir_inode t stands is = record {
    home = ap (λ x. x.home) e;
    links = ap (λ x. x.links) e;
    content = dir_content i.content m.content (sym (ap (λ x. x.kind) e) ∙ is) item.content (sym (ap (λ x. x.content) e)) t stands;
  }

  pub file_inode : (b : PartBytes) → ((bs : List ℕ) → item.size ≡ length bs → item.content ≡ content_digest (Bytes bs) → StandsBytes b bs) → item.kind ≡ File
      → StandsInode (record { home = item.home; links = item.links; content = LoadedBytes b }) i
  file_inode b stands is = record {
    home = ap (λ x. x.home) e;
    links = ap (λ x. x.links) e;
    content = file_content i.content (sym (ap (λ x. x.kind) e) ∙ is) item.content (sym (ap (λ x. x.content) e)) item.size (ap (λ x. x.size) e) b stands;
  }

-- ---- bytes that are read

bytes_read : (c : Content) (l : ℕ) (home : FileId) (b : PartBytes) (off len : ℕ) (r : List ℕ) → StandsContent (LoadedBytes b) c → ((bs : List ℕ) → StandsBytes b bs → r ≡ within off len bs)
    → Some r ≡ option_map (within off len) (bytes_of (Some (record { home = home; links = l; content = c })))
bytes_read (Bytes bs) l home b off len r h got = ap Some (got bs h)
bytes_read (Names m) l home b off len r h got = absurd h

pub bytes_got : (p : PartInode) (i : Inode) → StandsInode p i → (b : PartBytes) → p.content ≡ LoadedBytes b → (off len : ℕ) (r : List ℕ) → ((bs : List ℕ) → StandsBytes b bs → r ≡ within off len bs)
    → Some r ≡ option_map (within off len) (bytes_of (Some i))
bytes_got p i h b is off len r got = bytes_read i.content i.links i.home b off len r (subst (λ c. StandsContent c i.content) is h.content) got

no_bytes : (c : Content) (l : ℕ) (home : FileId) (t : PartTree (List ℕ) FileId) (off len : ℕ) → StandsContent (PartNames t) c
    → None ≡ option_map (within off len) (bytes_of (Some (record { home = home; links = l; content = c })))
no_bytes (Bytes bs) l home t off len h = absurd h
no_bytes (Names m) l home t off len h = refl

pub none_got : (p : PartInode) (i : Inode) → StandsInode p i → (t : PartTree (List ℕ) FileId) → p.content ≡ PartNames t → (off len : ℕ) → None ≡ option_map (within off len) (bytes_of (Some i))
none_got p i h t is off len = no_bytes i.content i.links i.home t off len (subst (λ c. StandsContent c i.content) is h.content)

-- ---- a name that is put

put_content : (c : Content) (t t' : PartTree (List ℕ) FileId) (x : Name) (f : FileId) → IsTrue (is_name x) → StandsContent (PartNames t) c
    → ((m : List (List ℕ × FileId)) → StandsFor name_sort t m → StandsFor name_sort t' (with_value name_bits x f m)) → StandsContent (PartNames t') (with_name x (Some f) c)
put_content (Bytes bs) t t' x f is h new = h
put_content (Names m) t t' x f is h new =
    subst (StandsFor name_sort t')
    (put_by_order is_name name_bits name_cmp name.ordered x f (entries m) is (keys_meant is_name is_file_id (entries m) (stands_map name_sort t.root (entries m) h).good) ∙ sym (entries-insert name_cmp_total m x f))
    (new (entries m) h)

pub names_put : (p : PartInode) (i : Inode) → StandsInode p i → (t : PartTree (List ℕ) FileId) → p.content ≡ PartNames t → (t' : PartTree (List ℕ) FileId) (x : Name) (f : FileId) → IsTrue (is_name x)
    → ((m : List (List ℕ × FileId)) → StandsFor name_sort t m → StandsFor name_sort t' (with_value name_bits x f m)) → StandsInode (record { home = p.home; links = p.links; content = PartNames t' }) (with_named x (Some f) i)
names_put p i h t is t' x f name new = record {
  home = h.home;
  links = h.links;
  content = put_content i.content t t' x f name (subst (λ c. StandsContent c i.content) is h.content) new;
}

put_meant : (x : Name) (f : FileId) (es : List (Name × FileId)) → IsTrue (is_name x && is_file_id f) → Each (λ e. IsTrue (is_name e.0 && is_file_id e.1)) es → Each (λ e. IsTrue (is_name e.0 && is_file_id e.1)) (by.put name_cmp x f es)
put_meant x f [] ok a = (ok, tt)
put_meant x f (e ∷ es) ok a = go (name_cmp x e.0) (put_meant x f es ok a.1)
  where
    right : (a b : Bool) → IsTrue (a && b) → IsTrue b
    right true b h = h
    right false b h = absurd (let z : false ≡ true = h in cc)

    go : (o : Ordering) → Each (λ e. IsTrue (is_name e.0 && is_file_id e.1)) (by.put name_cmp x f es)
        → Each (λ e. IsTrue (is_name e.0 && is_file_id e.1)) (by.by_order o ((x, f) ∷ e ∷ es) ((e.0, f) ∷ es) (e ∷ by.put name_cmp x f es))
    go Less ih = (ok, a)
    go Equal ih = (and_from (is_name e.0) (is_file_id f) (and_left (is_name e.0) (is_file_id e.1) a.0) (right (is_name x) (is_file_id f) ok), a.1)
    go Greater ih = (a.0, ih)

named_size : (x : Name) (f : FileId) (c : Content) → size_of (with_name x (Some f) c) ≡ size_of c
named_size x f (Bytes bs) = refl
named_size x f (Names m) = refl

named_content : (x : Name) (f : FileId) (c : Content) → IsTrue (is_name x && is_file_id f) → MeantContent c → MeantContent (with_name x (Some f) c)
named_content x f (Bytes bs) ok a = a
named_content x f (Names m) ok a = subst (Each (λ e. IsTrue (is_name e.0 && is_file_id e.1))) (sym (entries-insert name_cmp_total m x f)) (put_meant x f (entries m) ok a)

pub meant_named : (x : Name) (f : FileId) (i : Inode) → IsTrue (is_name x && is_file_id f) → MeantInode i → MeantInode (with_named x (Some f) i)
meant_named x f i ok m = record {
  home = m.home;
  links = m.links;
  size = subst (λ n. n < 2 ^ 32) (sym (named_size x f i.content)) m.size;
  content = named_content x f i.content ok m.content;
}

-- ---- a name that is looked up

content_got : (c : Content) (l : ℕ) (home : FileId) (t : PartTree (List ℕ) FileId) (x : Name) (r : Option FileId) → IsTrue (is_name x) → StandsContent (PartNames t) c
    → ((m : List (List ℕ × FileId)) → StandsFor name_sort t m → r ≡ value_at name_bits x m) → file_value r ≡ content_value c l home (NameOf x)
content_got (Bytes bs) l home t x r is h got = absurd h
content_got (Names m) l home t x r is h got =
    ap file_value (got (entries m) h ∙ find_by_order is_name name_bits name_cmp name.ordered x (entries m) is (keys_meant is_name is_file_id (entries m) (stands_map name_sort t.root (entries m) h).good) ∙ sym (get-entries m x))

pub name_got : (p : PartInode) (i : Inode) → StandsInode p i → (t : PartTree (List ℕ) FileId) → p.content ≡ PartNames t → (x : Name) (r : Option FileId) → IsTrue (is_name x)
    → ((m : List (List ℕ × FileId)) → StandsFor name_sort t m → r ≡ value_at name_bits x m) → file_value r ≡ content_value i.content i.links i.home (NameOf x)
name_got p i h t is x r name got = content_got i.content i.links i.home t x r name (subst (λ c. StandsContent c i.content) is h.content) got

-- ---- a name that is taken away

pub entries_without : (m : FinMap name_cmp FileId) (k : Name) → entries (remove m k) ≡ without name_cmp k (entries m)
entries_without m k =
    by.same_entries name_cmp name_cmp_total name_cmp_exact (entries (remove m k)) (by.where_key name_cmp others (entries m)) (entries_sorted (remove m k)) (by.is_sorted-where_key name_cmp others (entries m) (entries_sorted m))
    (λ q.
    sym (get-entries (remove m k) q) ∙ get-remove name_cmp_total m k q ∙ ap (cond (eq_by_cmp name_cmp q k) None) (get-entries m q)
    ∙ ap (λ b. cond b None (by.find name_cmp q (entries m))) (sym ((eq_by_cmp_equiv name_cmp_total).symm k q)) ∙ turned (eq_by_cmp name_cmp k q) (by.find name_cmp q (entries m))
    ∙ sym (by.find-where_key name_cmp others q (λ x e. ap others (sym (name_cmp_exact q x e))) (entries m)))
  where
    others : Name → Bool
    others x = not (eq_by_cmp name_cmp k x)

    turned : (b : Bool) (o : Option FileId) → cond b None o ≡ cond (not b) o None
    turned true o = refl
    turned false o = refl

remove_content : (c : Content) (t t' : PartTree (List ℕ) FileId) (x : Name) → IsTrue (is_name x) → StandsContent (PartNames t) c
    → ((m : List (List ℕ × FileId)) → StandsFor name_sort t m → StandsFor name_sort t' (without_key name_bits x m)) → StandsContent (PartNames t') (with_name x None c)
remove_content (Bytes bs) t t' x is h new = h
remove_content (Names m) t t' x is h new =
    subst (StandsFor name_sort t')
    (without_by_order is_name name_bits name_cmp name.ordered x (entries m) is (keys_meant is_name is_file_id (entries m) (stands_map name_sort t.root (entries m) h).good) ∙ sym (entries_without m x))
    (new (entries m) h)

pub names_removed : (p : PartInode) (i : Inode) → StandsInode p i → (t : PartTree (List ℕ) FileId) → p.content ≡ PartNames t → (t' : PartTree (List ℕ) FileId) (x : Name) → IsTrue (is_name x)
    → ((m : List (List ℕ × FileId)) → StandsFor name_sort t m → StandsFor name_sort t' (without_key name_bits x m)) → StandsInode (record { home = p.home; links = p.links; content = PartNames t' }) (with_named x None i)
names_removed p i h t is t' x name new = record {
  home = h.home;
  links = h.links;
  content = remove_content i.content t t' x name (subst (λ c. StandsContent c i.content) is h.content) new;
}

kept_meant : (keep : Name → Bool) (es : List (Name × FileId)) → Each (λ e. IsTrue (is_name e.0 && is_file_id e.1)) es → Each (λ e. IsTrue (is_name e.0 && is_file_id e.1)) (by.where_key name_cmp keep es)
kept_meant keep [] a = tt
kept_meant keep (e ∷ es) a = go (keep e.0) (kept_meant keep es a.1)
  where
    go : (b : Bool) → Each (λ f. IsTrue (is_name f.0 && is_file_id f.1)) (by.where_key name_cmp keep es)
        → Each (λ f. IsTrue (is_name f.0 && is_file_id f.1)) (cond b (e ∷ by.where_key name_cmp keep es) (by.where_key name_cmp keep es))
    go true rest = (a.0, rest)
    go false rest = rest

unnamed_content : (x : Name) (c : Content) → MeantContent c → MeantContent (with_name x None c)
unnamed_content x (Bytes bs) a = a
unnamed_content x (Names m) a = subst (Each (λ e. IsTrue (is_name e.0 && is_file_id e.1))) (sym (entries_without m x)) (kept_meant (λ y. not (eq_by_cmp name_cmp x y)) (entries m) a)

unnamed_size : (x : Name) (c : Content) → size_of (with_name x None c) ≡ size_of c
unnamed_size x (Bytes bs) = refl
unnamed_size x (Names m) = refl

pub meant_unnamed : (x : Name) (i : Inode) → MeantInode i → MeantInode (with_named x None i)
meant_unnamed x i m = record {
  home = m.home;
  links = m.links;
  size = subst (λ n. n < 2 ^ 32) (sym (unnamed_size x i.content)) m.size;
  content = unnamed_content x i.content m.content;
}

-- ---- a new inode

no_entries : entries (empty {X = FileId} {R = name_cmp}) ≡ []
no_entries = nil_from_length (entries empty) (sym (len-entries empty) ∙ len-empty name_cmp FileId)

pub empty_names : (t : PartTree (List ℕ) FileId) → StandsFor name_sort t [] → StandsFor name_sort t (entries (empty {X = FileId} {R = name_cmp}))
empty_names t h = subst (StandsFor name_sort t) (sym no_entries) h

pub meant_new : (home : FileId) (kind : Kind) → IsTrue (is_file_id home) → MeantInode (new_inode home kind)
meant_new home File is = record { home = is; links = omega arith; size = omega arith; content = tt }
meant_new home Dir is = record { home = is; links = omega arith; size = omega arith; content = subst (Each (λ e. IsTrue (is_name e.0 && is_file_id e.1))) (sym no_entries) tt }

-- ---- a directory without names

none_is : {X : Type 0} (r : Bool) (xs : List X) → IsTrue r ↔ (xs ≡ []) → r ≡ nat_eq (length xs) 0
none_is r [] h = h.1 refl
none_is false (x ∷ xs) h = sym (grind (arith, nat_tests))
none_is true (x ∷ xs) h = absurd (omega (arith, ap length (h.0 refl)))

bare_content : (c : Content) (l : ℕ) (home : FileId) (t : PartTree (List ℕ) FileId) (r : Bool) → StandsContent (PartNames t) c → ((m : List (List ℕ × FileId)) → StandsFor name_sort t m → IsTrue r ↔ (m ≡ []))
    → r ≡ has_no_names (Some (record { home = home; links = l; content = c }))
bare_content (Bytes bs) l home t r h got = absurd h
bare_content (Names m) l home t r h got = none_is r (entries m) (got (entries m) h) ∙ ap (λ n. nat_eq n 0) (sym (len-entries m))

pub bare_got : (p : PartInode) (i : Inode) → StandsInode p i → (t : PartTree (List ℕ) FileId) → p.content ≡ PartNames t → (r : Bool) → ((m : List (List ℕ × FileId)) → StandsFor name_sort t m → IsTrue r ↔ (m ≡ []))
    → r ≡ has_no_names (Some i)
bare_got p i h t is r got = bare_content i.content i.links i.home t r (subst (λ c. StandsContent c i.content) is h.content) got

-- ---- links

pub meant_linked : (n : ℕ) (i : Inode) → n < 256 → MeantInode i → MeantInode (with_links n i)
meant_linked n i small m = record { home = m.home; links = small; size = m.size; content = m.content }

-- ---- bytes that are written

written_content : (c : Content) (b b' : PartBytes) (off : ℕ) (xs : List ℕ) → StandsContent (LoadedBytes b) c → ((bs : List ℕ) → StandsBytes b bs → StandsBytes b' (with_bytes_at off xs bs))
    → StandsContent (LoadedBytes b') (map_bytes (with_bytes_at off xs) c)
written_content (Bytes bs) b b' off xs h new = new bs h
written_content (Names m) b b' off xs h new = h

pub bytes_written : (p : PartInode) (i : Inode) → StandsInode p i → (b : PartBytes) → p.content ≡ LoadedBytes b → (b' : PartBytes) (off : ℕ) (xs : List ℕ) → ((bs : List ℕ) → StandsBytes b bs → StandsBytes b' (with_bytes_at off xs bs))
    → StandsInode (record { home = p.home; links = p.links; content = LoadedBytes b' }) (with_written off xs i)
bytes_written p i h b is b' off xs new = record {
  home = h.home;
  links = h.links;
  content = written_content i.content b b' off xs (subst (λ c. StandsContent c i.content) is h.content) new;
}

same_content : (c : Content) (b b' : PartBytes) → StandsContent (LoadedBytes b) c → ((bs : List ℕ) → StandsBytes b bs → StandsBytes b' bs) → StandsContent (LoadedBytes b') c
same_content (Bytes bs) b b' h same = same bs h
same_content (Names m) b b' h same = h

-- bytes that stand for what they stood for
pub bytes_same : (p : PartInode) (i : Inode) → StandsInode p i → (b : PartBytes) → p.content ≡ LoadedBytes b → (b' : PartBytes) → ((bs : List ℕ) → StandsBytes b bs → StandsBytes b' bs)
    → StandsInode (record { home = p.home; links = p.links; content = LoadedBytes b' }) i
bytes_same p i h b is b' same = record {
  home = h.home;
  links = h.links;
  content = same_content i.content b b' (subst (λ c. StandsContent c i.content) is h.content) same;
}

written_meant : (off : ℕ) (xs : List ℕ) (c : Content) → MeantContent c → MeantContent (map_bytes (with_bytes_at off xs) c)
written_meant off xs (Bytes bs) a = a
written_meant off xs (Names m) a = a

written_size : (off : ℕ) (xs : List ℕ) (c : Content) → off + length xs < 2 ^ 32 → size_of c < 2 ^ 32 → size_of (map_bytes (with_bytes_at off xs) c) < 2 ^ 32
written_size off xs (Bytes bs) small was = let l = length-with_bytes_at off xs bs in omega (arith, l, small, was)
written_size off xs (Names m) small was = was

pub meant_written : (off : ℕ) (xs : List ℕ) (i : Inode) → off + length xs < 2 ^ 32 → MeantInode i → MeantInode (with_written off xs i)
meant_written off xs i small m = record { home = m.home; links = m.links; size = written_size off xs i.content small m.size; content = written_meant off xs i.content m.content }

-- ---- bytes that are cut

cut_content : (c : Content) (b b' : PartBytes) (size : ℕ) → StandsContent (LoadedBytes b) c → size ≤ size_of c → ((bs : List ℕ) → StandsBytes b bs → size ≤ length bs → StandsBytes b' (with_size size bs))
    → StandsContent (LoadedBytes b') (map_bytes (with_size size) c)
cut_content (Bytes bs) b b' size h le new = new bs h le
cut_content (Names m) b b' size h le new = h

pub bytes_cut : (p : PartInode) (i : Inode) → StandsInode p i → (b : PartBytes) → p.content ≡ LoadedBytes b → (b' : PartBytes) (size : ℕ) → size ≤ size_of i.content
    → ((bs : List ℕ) → StandsBytes b bs → size ≤ length bs → StandsBytes b' (with_size size bs)) → StandsInode (record { home = p.home; links = p.links; content = LoadedBytes b' }) (with_resized size i)
bytes_cut p i h b is b' size le new = record {
  home = h.home;
  links = h.links;
  content = cut_content i.content b b' size (subst (λ c. StandsContent c i.content) is h.content) le new;
}

names_uncut : (c : Content) (t : PartTree (List ℕ) FileId) (size : ℕ) → StandsContent (PartNames t) c → StandsContent (PartNames t) (map_bytes (with_size size) c)
names_uncut (Bytes bs) t size h = h
names_uncut (Names m) t size h = h

pub names_not_cut : (p : PartInode) (i : Inode) → StandsInode p i → (t : PartTree (List ℕ) FileId) → p.content ≡ PartNames t → (size : ℕ) → StandsInode p (with_resized size i)
names_not_cut p i h t is size = record {
  home = h.home;
  links = h.links;
  content = subst (λ c. StandsContent c (map_bytes (with_size size) i.content)) (sym is) (names_uncut i.content t size (subst (λ c. StandsContent c i.content) is h.content));
}

resized_meant : (size : ℕ) (c : Content) → MeantContent c → MeantContent (map_bytes (with_size size) c)
resized_meant size (Bytes bs) a = a
resized_meant size (Names m) a = a

resized_size : (size : ℕ) (c : Content) → size < 2 ^ 32 → size_of c < 2 ^ 32 → size_of (map_bytes (with_size size) c) < 2 ^ 32
resized_size size (Bytes bs) small was = let l = length-with_size size bs in omega (arith, l, small)
resized_size size (Names m) small was = was

pub meant_resized : (size : ℕ) (i : Inode) → size < 2 ^ 32 → MeantInode i → MeantInode (with_resized size i)
meant_resized size i small m = record { home = m.home; links = m.links; size = resized_size size i.content small m.size; content = resized_meant size i.content m.content }

-- ---- what stays loaded

pub all_in_itself : (p : PartContent) → HasAllIn p p
all_in_itself (LoadedBytes b) = all_blocks_itself b
all_in_itself (PartNames t) = λ x h. h

pub all_in_on : (p q r : PartContent) → HasAllIn p q → HasAllIn q r → HasAllIn p r
all_in_on (LoadedBytes b) (LoadedBytes c) (LoadedBytes d) h k = all_blocks_on b c d h k
all_in_on (LoadedBytes b) (LoadedBytes c) (PartNames v) h k = k
all_in_on (LoadedBytes b) (PartNames t) r h k = absurd h
all_in_on (PartNames t) (LoadedBytes c) r h k = absurd h
all_in_on (PartNames t) (PartNames v) (LoadedBytes d) h k = k
all_in_on (PartNames t) (PartNames v) (PartNames w) h k = λ x l. k x (h x l)
