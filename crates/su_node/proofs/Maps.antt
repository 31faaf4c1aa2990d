-- Finite maps against the entries of std's ordered maps, in any order of keys that tells them apart.
use Rattle.std.proofs.Common.{◌≡◌, ◌∙◌, sym, refl, ap, length, arith, ◌++◌, append_assoc, subst, Bool, true, false, not, cond, List, [], ◌∷◌, Option, Some, None}
use Rattle.std.specs.declared.cmp.Ordering.{Ordering}
use Rattle.std.specs.declared.cmp.Ordering.TheVariants.{Less, Equal, Greater}
use Rattle.std.specs.Ordering.{eq_by_cmp, is_eq, ordering_reverse}
use Rattle.std.specs.Cmp.{IsTotalOrder, alike_right, eq_by_cmp_equiv}
use Rattle.std.specs.List.{AllByRecursion}
use Rattle.std.specs.List.Sorted.{IsStrictlySortedBy}
use Rattle.std.specs.Map.{lookup, keys_of}
use Rattle.std.specs.BTreeMap.{is_at, insert_entry}
use Rattle.std.specs.FinMap.{FinMap, get, find, from_entries, entries, empty, len, len-entries, len-empty, entries-insert, put, insert, remove, get-from_entries, get-insert, get-remove, same_map, IsAntisymmetric}
use Rattle.std.specs.FinMap.Entries.{find-put, find-where_key}
use Rattle.su_hash_tree.specs.Seen.{without}
use Rattle.su_node.specs.InodeChange.{set_key}

-- a scan from the front is std's look-up
pub find-lookup : {K X : Type 0} (R : K → K → Ordering) (q : K) (es : List (K × X)) → find R q es ≡ lookup (is_at (R q)) es
find-lookup R q [] = refl
find-lookup R q (e ∷ es) = ap (cond (is_at (R q) e.0) (Some e.1)) (find-lookup R q es)

nil_from_length : {A : Type 0} (xs : List A) → length xs ≡ 0 → xs ≡ []
nil_from_length [] e = refl
nil_from_length (x ∷ xs) e = absurd (omega arith)

equal_from : (o : Ordering) → is_eq o ≡ true → o ≡ Equal
equal_from Less e = absurd cc
equal_from Equal e = refl
equal_from Greater e = absurd cc

pub eq_by_cmp-same : {K : Type 0} {R : K → K → Ordering} → IsAntisymmetric R → (x y : K) → eq_by_cmp R x y ≡ true → x ≡ y
eq_by_cmp-same same x y e = same x y (equal_from _ e)

IsGreater-from_Less : {K : Type 0} {R : K → K → Ordering} → IsTotalOrder R → (k x : K) → R x k ≡ Less → R k x ≡ Greater
IsGreater-from_Less o k x e = o.antisymm k x ∙ ap ordering_reverse e

module _ {K X : Type 0} {R : K → K → Ordering} (o : IsTotalOrder R) where
  pub get-from_entries_lookup : (es : List (K × X)) (q : K) → get (from_entries {R = R} es) q ≡ lookup (is_at (R q)) es
  get-from_entries_lookup es q = get-from_entries o es q ∙ find-lookup R q es

  pub get-set_key : (m : FinMap R X) (k : K) (v : Option X) (q : K) → get (set_key m k v) q ≡ cond (eq_by_cmp R q k) v (get m q)
  get-set_key m k None q = get-remove o m k q
  get-set_key m k (Some x) q = get-insert o m k x q

  pub get-set_key_here : (m : FinMap R X) (k : K) (v : Option X) → get (set_key m k v) k ≡ v
  get-set_key_here m k v = get-set_key m k v k ∙ ap (λ b. cond b v (get m k)) ((eq_by_cmp_equiv o).refl k)

  -- what is found, set again, changes nothing
  pub set_key-get : IsAntisymmetric R → (m : FinMap R X) (k : K) (v : Option X) → get m k ≡ v → set_key m k v ≡ m
  set_key-get same m k v e = same_map o same _ _ (λ q. get-set_key m k v q ∙ go q (eq_by_cmp R q k) refl)
    where
      go : (q : K) (b : Bool) → eq_by_cmp R q k ≡ b → cond b v (get m q) ≡ get m q
      go q true is = sym e ∙ ap (get m) (sym (eq_by_cmp-same same q k is))
      go q false is = refl

  -- of two values set one after the other the last one stays
  pub set_key-set_key : IsAntisymmetric R → (m : FinMap R X) (k : K) (v w : Option X) → set_key (set_key m k v) k w ≡ set_key m k w
  set_key-set_key same m k v w = same_map o same _ _ (λ q. get-set_key (set_key m k v) k w q ∙ ap (cond (eq_by_cmp R q k) w) (get-set_key m k v q) ∙ go (eq_by_cmp R q k) (get m q) ∙ sym (get-set_key m k w q))
    where
      go : (b : Bool) (x : Option X) → cond b w (cond b v x) ≡ cond b w x
      go true x = refl
      go false x = refl

  pub set_key_back : IsAntisymmetric R → (m : FinMap R X) (k : K) (v : Option X) → set_key (set_key m k v) k (get m k) ≡ m
  set_key_back same m k v = set_key-set_key same m k v (get m k) ∙ set_key-get same m k (get m k) refl

  -- entries that differ at one key make maps that differ there
  pub from_entries-updates : IsAntisymmetric R → (es fs : List (K × X)) (k : K) (v : Option X) → ((q : K) → lookup (is_at (R q)) fs ≡ cond (is_at (R k) q) v (lookup (is_at (R q)) es)) → from_entries {R = R} fs ≡ set_key (from_entries {R = R} es) k v
  from_entries-updates same es fs k v h = same_map o same _ _ (λ q.
      get-from_entries_lookup fs q ∙ h q ∙ ap (λ b. cond b v (lookup (is_at (R q)) es)) ((eq_by_cmp_equiv o).symm k q)
      ∙ sym (get-set_key (from_entries es) k v q ∙ ap (cond (eq_by_cmp R q k) v) (get-from_entries_lookup es q)))

  -- what is put among entries, or taken from them, is put into the map or taken from it
  pub from_entries-put : IsAntisymmetric R → (es : List (K × X)) (k : K) (v : X) → from_entries {R = R} (put R k v es) ≡ insert (from_entries {R = R} es) k v
  from_entries-put same es k v = same_map o same _ _ (λ q.
      get-from_entries o (put R k v es) q ∙ find-put R o q k v es
      ∙ sym (get-insert o (from_entries es) k v q ∙ ap (cond (eq_by_cmp R q k) (Some v)) (get-from_entries o es q)))

  apart : (b : Bool) (x : Option X) → cond (not b) x None ≡ cond b None x
  apart true x = refl
  apart false x = refl

  pub from_entries-without : IsAntisymmetric R → (es : List (K × X)) (k : K) → from_entries {R = R} (without R k es) ≡ remove (from_entries {R = R} es) k
  from_entries-without same es k = same_map o same _ _ (λ q.
      get-from_entries o (without R k es) q
      ∙ find-where_key R (λ x. not (eq_by_cmp R k x)) q (λ x t. ap (λ r. not (is_eq r)) (sym (alike_right o q x k t))) es
      ∙ apart (eq_by_cmp R k q) (find R q es) ∙ ap (λ b. cond b None (find R q es)) ((eq_by_cmp_equiv o).symm k q)
      ∙ sym (get-remove o (from_entries es) k q ∙ ap (cond (eq_by_cmp R q k) None) (get-from_entries o es q)))

  -- ---- entries in order are those of the map

  no_entries : entries (empty {X = X} {R = R}) ≡ []
  no_entries = nil_from_length _ (sym (len-entries (empty {X = X} {R = R})) ∙ len-empty R X)

  put-below : (k : K) (v : X) (es : List (K × X)) → AllByRecursion (λ x. R k x ≡ Less) (keys_of es) → put R k v es ≡ (k, v) ∷ es
  put-below k v [] below = refl
  put-below k v (e ∷ es) below = rw below.0 refl

  pub entries-from_entries : (es : List (K × X)) → IsStrictlySortedBy R (keys_of es) → entries (from_entries {R = R} es) ≡ es
  unfolding IsStrictlySortedBy
  entries-from_entries [] sorted = no_entries
  entries-from_entries (e ∷ es) sorted = entries-insert o (from_entries es) e.0 e.1 ∙ ap (put R e.0 e.1) (entries-from_entries es sorted.1) ∙ put-below e.0 e.1 es sorted.0

  pub len-from_entries : (es : List (K × X)) → IsStrictlySortedBy R (keys_of es) → len (from_entries {R = R} es) ≡ length es
  len-from_entries es sorted = len-entries (from_entries es) ∙ ap length (entries-from_entries es sorted)

  -- ---- std's insertion after the last key

  pub insert_entry-last : (es rest : List (K × X)) (k : K) (v : X) → IsStrictlySortedBy R (keys_of (es ++ (k, v) ∷ rest)) → insert_entry R es k v ≡ es ++ (k, v) ∷ []
  unfolding IsStrictlySortedBy
  insert_entry-last [] rest k v sorted = refl
  insert_entry-last (e ∷ es) rest k v sorted = rw (IsGreater-from_Less o k e.0 (all_at es sorted.0)) (ap (λ t. e ∷ t) (insert_entry-last es rest k v sorted.1))
    where
      all_at : (fs : List (K × X)) → AllByRecursion (λ x. R e.0 x ≡ Less) (keys_of (fs ++ (k, v) ∷ rest)) → R e.0 k ≡ Less
      all_at [] all = all.0
      all_at (f ∷ fs) all = all_at fs all.1

  -- what is copied so far and what is left are the whole, after one more entry
  pub copied_more : (whole es fs rest : List (K × X)) (k : K) (v : X) → IsStrictlySortedBy R (keys_of whole) → es ++ (k, v) ∷ rest ≡ whole → fs ≡ insert_entry R es k v → fs ++ rest ≡ whole
  copied_more whole es fs rest k v sorted is next =
      ap (λ gs. gs ++ rest) (next ∙ insert_entry-last es rest k v (subst (λ ws. IsStrictlySortedBy R (keys_of ws)) (sym is) sorted)) ∙ append_assoc es ((k, v) ∷ []) rest ∙ is
