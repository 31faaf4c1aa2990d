-- What is seen of an inode, against the inode that it stands for.
use Rattle.std.proofs.Common.{◌≡◌, ◌∙◌, ℕ, Bool, true, false, cond, IsTrue, List, [], ◌∷◌, length, Option, Some, None, refl, sym, ap, subst, arith, ◌&&◌}
use Rattle.std.specs.Prelude.{◌↔◌, nat_eq}
use Rattle.std.specs.List.{AllByRecursion as Each}
use Rattle.std.specs.Ordering.{eq_by_cmp}
use Rattle.std.specs.Cmp.{eq_by_cmp_equiv}
use Rattle.std.specs.declared.cmp.Ordering.{Ordering}
use Rattle.std.specs.FinMap.{IsAntisymmetric, find, get, entries, from_entries, get-entries, get-empty, get-from_entries, len, len-empty, len-entries, empty_of_len}
use Rattle.std.proofs.lemmas.Bool.{false≢true}
use Rattle.std.proofs.lemmas.List.{length-replicate}
use Rattle.std.proofs.lemmas.Bool.Decides.{nat_tests}
use Rattle.su_bytes.specs.declared.file_ids.FileId.{FileId}
use Rattle.su_bytes.specs.FileId.{is_file_id, file_id_bytes}
use Rattle.su_bytes.specs.Name.{is_name}
use Rattle.su_tree.specs.Bits.{bits_cmp}
use Rattle.su_tree.specs.Name.{name_bits}
use Rattle.su_tree.specs.Laws.Names as name
use Rattle.su_hash_tree.specs.Sort.{sort}
use Rattle.su_hash_tree.specs.Edits.{value_at}
use Rattle.su_hash_tree.proofs.Compared.{find_by_order, keys_meant}
use Rattle.su_hash_tree.proofs.Standing.{stands_map}
use Rattle.su_part_tree.specs.declared.parts.PartTree.{PartTree}
use Rattle.su_part_tree.specs.Part.{StandsFor, loaded, reaches}
use Rattle.su_part_tree.proofs.Seeing.{none_loaded, pairs_each, seen_agrees}
use Rattle.su_node.specs.Name.{Name, name_cmp}
use Rattle.su_node.specs.Inode.{Inode, Content, Content.Bytes, Content.Names, kind_of, size_of, has_no_names}
use Rattle.su_node.specs.Field.{Field.KindOf, Field.LinksOf, Field.SizeOf, Field.NameOf, Value.ANumber, Value.AKind, file_value, field_value, content_value}
use Rattle.su_node.proofs.Public.{eq_by_cmp-same, name_cmp_exact, name_cmp_total}
use Rattle.su_part.specs.declared.inodes.PartInode.{PartInode}
use Rattle.su_part.specs.declared.inodes.PartContent.{PartContent}
use Rattle.su_part.specs.declared.inodes.PartContent.TheVariants.{Bytes as PartBytes, Names as PartNames}
use Rattle.su_part.specs.Part.{HasName, HasNameIn, StandsContent, StandsInode, name_sort}
use Rattle.su_part.specs.Seen.{seen_content, seen_inode}

-- ---- pairs that are loaded, by the order of their keys

-- a key that no pair can have stands nowhere
nowhere : {K V : Type 0} (is_key : K → Bool) (cmp : K → K → Ordering) → IsAntisymmetric cmp → (k : K) (es : List (K × V)) → is_key k ≡ false → Each (λ e. IsTrue (is_key e.0)) es → find cmp k es ≡ None
nowhere is_key cmp exact k [] none a = refl
nowhere is_key cmp exact k (e ∷ es) none a = go (eq_by_cmp cmp k e.0) refl (nowhere is_key cmp exact k es none a.1)
  where
    go : (b : Bool) → eq_by_cmp cmp k e.0 ≡ b → find cmp k es ≡ None → cond (eq_by_cmp cmp k e.0) (Some e.1) (find cmp k es) ≡ None
    go true same later = absurd (false≢true (sym none ∙ ap is_key (eq_by_cmp-same exact k e.0 same) ∙ a.0))
    go false other later = ap (λ b. cond b (Some e.1) (find cmp k es)) other ∙ later

module _ {K V : Type 0} (bits : K → List Bool) (key_bytes : K → List ℕ) (is_key : K → Bool) (value_bytes : V → List ℕ) (is_value : V → Bool) (cmp : K → K → Ordering) (exact : IsAntisymmetric cmp)
    (ordered : (x y : K) → IsTrue (is_key x) → IsTrue (is_key y) → cmp x y ≡ bits_cmp (bits x) (bits y))
    (p : PartTree K V) (m : List (K × V)) (h : StandsFor (sort bits key_bytes is_key value_bytes is_value) p m) where
  good : Each (λ e. IsTrue (is_key e.0 && is_value e.1)) m
  good = (stands_map (sort bits key_bytes is_key value_bytes is_value) p.root m h).good

  keys : Each (λ e. IsTrue (is_key e.0)) m
  keys = keys_meant is_key is_value m good

  keys_loaded : Each (λ e. IsTrue (is_key e.0)) (loaded p)
  keys_loaded = keys_meant is_key is_value (loaded p) (pairs_each (sort bits key_bytes is_key value_bytes is_value) (λ e. IsTrue (is_key e.0 && is_value e.1)) p.root m h good)

  pub loaded_by_order : (k : K) → IsTrue (is_key k) → value_at bits k (loaded p) ≡ find cmp k (loaded p)
  loaded_by_order k is = find_by_order is_key bits cmp ordered k (loaded p) is keys_loaded

  -- at a key whose path is loaded
  pub found_loaded : (k : K) → IsTrue (reaches bits k p) → find cmp k (loaded p) ≡ find cmp k m
  found_loaded k reached = go (is_key k) refl
    where
      go : (b : Bool) → is_key k ≡ b → find cmp k (loaded p) ≡ find cmp k m
      go true is =
          sym (loaded_by_order k is) ∙ seen_agrees (sort bits key_bytes is_key value_bytes is_value) k p.root m h reached
          ∙ find_by_order is_key bits cmp ordered k m is keys
      go false none = nowhere is_key cmp exact k (loaded p) none keys_loaded ∙ sym (nowhere is_key cmp exact k m none keys)

  -- nothing is loaded where nothing is there
  pub none_of_none : m ≡ [] → loaded p ≡ []
  none_of_none e = empty_list (loaded p) (pairs_each (sort bits key_bytes is_key value_bytes is_value) (λ e. ⊥) p.root m h (subst (Each (λ e. ⊥)) (sym e) tt))
    where
      empty_list : (es : List (K × V)) → Each (λ e. ⊥) es → es ≡ []
      empty_list [] a = refl
      empty_list (e ∷ es) a = absurd a.0

-- ---- names

same_answer : (a b : Bool) → (IsTrue a → IsTrue b) → (IsTrue b → IsTrue a) → a ≡ b
same_answer true b f g = sym (f refl)
same_answer false true f g = absurd (false≢true (g refl))
same_answer false false f g = refl

none_listed : (es : List (Name × FileId)) → len (from_entries {R = name_cmp} es) ≡ 0 → es ≡ []
none_listed [] e = refl
none_listed (x ∷ es) e =
    let found : get (from_entries {R = name_cmp} (x ∷ es)) x.0 ≡ Some x.1 = get-from_entries name_cmp_total (x ∷ es) x.0 ∙ ap (λ b. cond b (Some x.1) (find name_cmp x.0 es)) ((eq_by_cmp_equiv name_cmp_total).refl x.0) in
    let none : get (from_entries {R = name_cmp} (x ∷ es)) x.0 ≡ None = ap (λ m. get m x.0) (empty_of_len (from_entries {R = name_cmp} (x ∷ es)) e) ∙ get-empty name_cmp x.0 in
    absurd (let z : Some x.1 ≡ None = sym found ∙ none in cc)

length_listed : (es : List (Name × FileId)) → es ≡ [] → len (from_entries {R = name_cmp} es) ≡ 0
length_listed es e = ap (λ xs. len (from_entries {R = name_cmp} xs)) e ∙ len-empty name_cmp FileId

is_zero : (n : ℕ) → IsTrue (nat_eq n 0) → n ≡ 0
is_zero n h = grind (arith, nat_tests, h)

zero_is : (n : ℕ) → n ≡ 0 → IsTrue (nat_eq n 0)
zero_is n h = grind (arith, nat_tests, h)

-- whether no name is loaded
pub lists_none_is : (es : List (Name × FileId)) (b : Bool) → (IsTrue b ↔ (es ≡ [])) → b ≡ nat_eq (len (from_entries {R = name_cmp} es)) 0
lists_none_is es b h = same_answer b _ (λ is. zero_is _ (length_listed es (h.0 is))) (λ none. h.1 (none_listed es (is_zero _ none)))

found_in : (c : Content) (t : PartTree (List ℕ) FileId) (x : Name) (o : Option FileId) → IsTrue (is_name x) → StandsContent (PartNames t) c → ((m : List (Name × FileId)) → StandsFor name_sort t m → o ≡ value_at name_bits x (loaded t))
    → file_value o ≡ file_value (get (from_entries {R = name_cmp} (loaded t)) x)
found_in (Bytes bs) t x o is h found = absurd h
found_in (Names m) t x o is h found =
    ap file_value (found (entries m) h ∙ loaded_by_order name_bits (λ x. x) is_name file_id_bytes is_file_id name_cmp name_cmp_exact name.ordered t (entries m) h x is ∙ sym (get-from_entries name_cmp_total (loaded t) x))

-- a name that was found among those that are loaded
pub name_found : (p : PartInode) (i : Inode) → StandsInode p i → (t : PartTree (List ℕ) FileId) → p.content ≡ PartNames t → (x : Name) (o : Option FileId) → IsTrue (is_name x)
    → ((m : List (Name × FileId)) → StandsFor name_sort t m → o ≡ value_at name_bits x (loaded t)) → file_value o ≡ field_value (Some (seen_inode p)) (NameOf x)
name_found p i h t is x o key found =
    found_in i.content t x o key (subst (λ c. StandsContent c i.content) is h.content) found ∙ ap (λ c. content_value (seen_content c) p.links p.home (NameOf x)) (sym is)

-- whether names were found
pub bare_found : (p : PartInode) (t : PartTree (List ℕ) FileId) → p.content ≡ PartNames t → (b : Bool) → (IsTrue b ↔ (loaded t ≡ [])) → b ≡ has_no_names (Some (seen_inode p))
bare_found p t is b h = lists_none_is (loaded t) b h ∙ ap (λ c. has_no_names (Some (record { home = p.home; links = p.links; content = seen_content c }))) (sym is)

-- ---- what is seen is what is there

module _ (p : PartInode) (i : Inode) (h : StandsInode p i) where
  same_kind : (q : PartContent) (c : Content) → StandsContent q c → kind_of (seen_content q) ≡ kind_of c
  same_kind (PartNames t) (Names m) s = refl
  same_kind (PartNames t) (Bytes bs) s = absurd s
  same_kind (PartBytes b) (Bytes bs) s = refl
  same_kind (PartBytes b) (Names m) s = absurd s

  same_size : (q : PartContent) (c : Content) → StandsContent q c → size_of (seen_content q) ≡ size_of c
  same_size (PartNames t) (Names m) s = refl
  same_size (PartNames t) (Bytes bs) s = absurd s
  same_size (PartBytes b) (Bytes bs) s = length-replicate b.size 0 ∙ s.size
  same_size (PartBytes b) (Names m) s = absurd s

  pub seen_kind : field_value (Some (seen_inode p)) KindOf ≡ field_value (Some i) KindOf
  seen_kind = λ j. AKind (same_kind p.content i.content h.content j) (h.home j)

  pub seen_links : field_value (Some (seen_inode p)) LinksOf ≡ field_value (Some i) LinksOf
  seen_links = ap ANumber h.links

  pub seen_size : field_value (Some (seen_inode p)) SizeOf ≡ field_value (Some i) SizeOf
  seen_size = ap ANumber (same_size p.content i.content h.content)

  module _ (x : Name) (has : HasName x p) where
    same_name : (q : PartContent) (c : Content) → StandsContent q c → HasNameIn x q → content_value (seen_content q) p.links p.home (NameOf x) ≡ content_value c i.links i.home (NameOf x)
    same_name (PartNames t) (Names m) s is =
        ap file_value (get-from_entries name_cmp_total (loaded t) x ∙ found_loaded name_bits (λ x. x) is_name file_id_bytes is_file_id name_cmp name_cmp_exact name.ordered t (entries m) s x is ∙ sym (get-entries m x))
    same_name (PartNames t) (Bytes bs) s is = absurd s
    same_name (PartBytes b) (Bytes bs) s is = refl
    same_name (PartBytes b) (Names m) s is = absurd s

    bare_content : Content → Bool
    bare_content c = has_no_names (Some (record { home = i.home; links = i.links; content = c }))

    same_bare : (q : PartContent) (c : Content) → StandsContent q c → HasNameIn x q
        → has_no_names (Some (record { home = p.home; links = p.links; content = seen_content q })) ≡ has_no_names (Some (record { home = i.home; links = i.links; content = c }))
    same_bare (PartNames t) (Names m) s is =
        sym (lists_none_is (loaded t) (nat_eq (len m) 0) (
          λ z. none_of_none name_bits (λ x. x) is_name file_id_bytes is_file_id name_cmp name_cmp_exact name.ordered t (entries m) s (no_entries (entries m) (sym (len-entries m) ∙ is_zero _ z)),
          λ e. zero_is _ (len-entries m ∙ ap length (none_loaded name_sort x t.root (entries m) s is e)),
        ))
      where
        no_entries : (es : List (Name × FileId)) → length es ≡ 0 → es ≡ []
        no_entries [] e = refl
        no_entries (y ∷ es) e = absurd (omega (arith, e))
    same_bare (PartNames t) (Bytes bs) s is = absurd s
    same_bare (PartBytes b) (Bytes bs) s is = refl
    same_bare (PartBytes b) (Names m) s is = absurd s

    pub seen_name : field_value (Some (seen_inode p)) (NameOf x) ≡ field_value (Some i) (NameOf x)
    seen_name = same_name p.content i.content h.content has

    pub seen_bare : has_no_names (Some (seen_inode p)) ≡ has_no_names (Some i)
    seen_bare = same_bare p.content i.content h.content has
