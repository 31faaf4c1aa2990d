-- What a loaded node stands for.
use Rattle.std.proofs.Common.{◌≡◌, ℕ, ◌+◌, ◌<◌, ◌≤◌, ◌^◌, Bool, true, false, cond, Some, Err, IsTrue, List, [], ◌∷◌, ◌++◌, length, arith, ◌∙◌, sym, ap, refl, subst, length-append}
use Rattle.std.specs.List.{AllByRecursion as Each, Contains}
use Rattle.sha2.specs.Sha256.{sha256}
use Rattle.su_tree.specs.Parting.{Begins, Turns, IsSplit, IsTree, none, one, parted}
use Rattle.su_tree.specs.KeyTree.{tree_of}
use Rattle.su_tree.specs.Digest.{digest, item, empty_item, pair_item, split_item}
use Rattle.su_tree.specs.Collision.{encodings}
use Rattle.su_tree.proofs.Splits.{each_map, each_left, each_right, tree_of_split}
use Rattle.su_tree.proofs.Collisions as by
use Rattle.su_tree.proofs.Collisions.{IsEncoding, split_items, length-sha256, pair_told}
use Rattle.std.specs.Cmp.{first_so, second_so}
use Rattle.std.proofs.Common.{take, drop, length-take, length-drop, nat_eq}
use Rattle.std.proofs.lemmas.List.{take-append-drop, take_all}
use Rattle.su_hash_tree.specs.Sort.{Sort, sort}
use Rattle.su_part_tree.specs.Items.{Spells, SpellsNone}
use Rattle.su_part_tree.specs.declared.items.Item.{Item}
use Rattle.su_part_tree.specs.declared.items.Item.TheVariants.{Nothing, Pair, Sides}
use Rattle.su_hash_tree.specs.declared.nodes.Node.{Node, Stub, Empty, Leaf, Split'}
use Rattle.su_hash_tree.specs.Stands.{IsMap, Joins, Stands}
use Rattle.su_part_tree.specs.Loading.{NoClash, BeginAlike, FailedAtItem, node_of}
use Rattle.su_bytes.specs.declared.refusals.Refusal.{Refusal}
use Rattle.su_block.specs.declared.failures.Failures.{Failures}
use Rattle.su_block.specs.Failure.{one_more, failures_after}
use Rattle.su_hash_tree.proofs.Sides.{word_fits, turns_begins}
use Rattle.su_hash_tree.proofs.Standing.{stands_map}

module _ {K V : Type 0} (t : Sort K V) (good : IsEncoding t.kind t.ok) where
  -- the item of a map
  abbrev pub root : List (K × V) → List ℕ
  root m = item t.kind (tree_of t.kind.bits m)

  pub root_none : root [] ≡ empty_item
  unfolding tree_of
  root_none = refl

  pub root_one : (e : K × V) → root (e ∷ []) ≡ pair_item t.kind e
  unfolding tree_of
  root_one e = refl

  pub root_parted : (p : ℕ) (l r m : List (K × V)) → IsSplit t.kind.bits p l r → IsTree t.kind.bits l → IsTree t.kind.bits r → m ≡ l ++ r → root m ≡ split_item p (digest t.kind l) (digest t.kind r)
  unfolding digest
  root_parted p l r m s tl tr is = ap (λ x. item t.kind x) (ap (tree_of t.kind.bits) is ∙ tree_of_split t.kind.bits p l r s tl tr)

  digest_size : (m : List (K × V)) → length (digest t.kind m) ≡ 32
  unfolding digest
  digest_size m = length-sha256 _

  pub in_items : (m : List (K × V)) → Contains (encodings t.kind m) (root m)
  unfolding encodings
  in_items m = by.root t.kind t.ok good (tree_of t.kind.bits m)

  pub same_digest : (m : List (K × V)) → sha256 (root m) ≡ digest t.kind m
  unfolding digest
  same_digest m = refl

  -- what is got with the digest of m is the item of m
  pub item_is : (d s : List ℕ) (P : List ℕ → Type 0) (m : List (K × V)) → IsMap t d m → sha256 s ≡ d → P s → NoClash t m P → root m ≡ s
  item_is d s P m h e given free = free (root m) s (in_items m) given (same_digest m ∙ h.is ∙ sym e)

  fits : (p : ℕ) (l r m : List (K × V)) → IsSplit t.kind.bits p l r → m ≡ l ++ r → Each (λ e. IsTrue (t.ok e)) m → p < 2 ^ 16
  fits p [] r m s is a = absurd (omega (arith, s.some_left))
  fits p (e ∷ l) r m s is a =
      let ok = subst (Each (λ e. IsTrue (t.ok e))) is a in
      omega (arith, s.at, ap length s.zeros.0.is, length-append s.word (false ∷ s.zeros.0.rest), good.short e ok.0)

  pub is_nothing : (m : List (K × V)) → IsTree t.kind.bits m → root m ≡ empty_item → m ≡ []
  is_nothing m none e = refl
  is_nothing m (one {e = f}) e = absurd (let h : pair_item t.kind f ≡ empty_item = sym (root_one f) ∙ e in cc)
  is_nothing m (parted p l r s tl tr is) e = absurd (let h : split_item p (digest t.kind l) (digest t.kind r) ≡ empty_item = sym (root_parted p l r m s tl tr is) ∙ e in cc)

  pub is_pair : (m : List (K × V)) → IsTree t.kind.bits m → Each (λ e. IsTrue (t.ok e)) m → (f : K × V) → IsTrue (t.ok f) → root m ≡ pair_item t.kind f → m ≡ f ∷ []
  is_pair m none a f ok e = absurd (let h : empty_item ≡ pair_item t.kind f = sym root_none ∙ e in cc)
  is_pair m (one {e = g}) a f ok e = ap (λ x. x ∷ []) (pair_told t.kind t.ok good g f a.0 ok (sym (root_one g) ∙ e))
  is_pair m (parted p l r s tl tr is) a f ok e = absurd (let h : split_item p (digest t.kind l) (digest t.kind r) ≡ pair_item t.kind f = sym (root_parted p l r m s tl tr is) ∙ e in cc)

  sides_of : (d : List ℕ) (m : List (K × V)) → IsTree t.kind.bits m → Each (λ e. IsTrue (t.ok e)) m → digest t.kind m ≡ d → (p : ℕ) (a b : List ℕ) → p < 2 ^ 16 → length a ≡ 32 → length b ≡ 32 → root m ≡ split_item p a b
      → Joins t p d (IsMap t a) (IsMap t b) m
  sides_of d m none all k p a b fp la lb e = absurd (let h : empty_item ≡ split_item p a b = sym root_none ∙ e in cc)
  sides_of d m (one {e = f}) all k p a b fp la lb e = absurd (let h : pair_item t.kind f ≡ split_item p a b = sym (root_one f) ∙ e in cc)
  sides_of d m (parted q l r s tl tr is) all k p a b fp la lb e =
      let same : split_item q (digest t.kind l) (digest t.kind r) ≡ split_item p a b = sym (root_parted q l r m s tl tr is) ∙ e in
      let x = split_items q p _ _ a b (fits q l r m s is all) fp (digest_size l) la same in
      let ok = subst (Each (λ e. IsTrue (t.ok e))) is all in
      record {
        left = l;
        right = r;
        is = is;
        parts = subst (λ z. IsSplit t.kind.bits z l r) x.0 s;
        in_left = record { tree = tl; good = each_left (λ e. IsTrue (t.ok e)) l r ok; is = x.1 };
        in_right = record { tree = tr; good = each_right (λ e. IsTrue (t.ok e)) l r ok; is = x.2 };
        kept = k;
      }

  pub is_sides : (d : List ℕ) (m : List (K × V)) → IsMap t d m → (p : ℕ) (a b : List ℕ) → p < 2 ^ 16 → length a ≡ 32 → length b ≡ 32 → root m ≡ split_item p a b → Joins t p d (IsMap t a) (IsMap t b) m
  is_sides d m h p a b fp la lb e = sides_of d m h.tree h.good h.is p a b fp la lb e

  pub is_none : (m : List (K × V)) → IsTree t.kind.bits m → Each (λ e. IsTrue (t.ok e)) m → (s : List ℕ) → SpellsNone t s → root m ≡ s → ⊥
  is_none m none a s bars e = bars.not_empty (sym e ∙ root_none)
  is_none m (one {e = f}) a s bars e = bars.no_pair f a.0 (sym e ∙ root_one f)
  is_none m (parted p l r x tl tr is) a s bars e = bars.no_split p _ _ (fits p l r m x is a) (digest_size l) (digest_size r) (sym e ∙ root_parted p l r m x tl tr is)

  -- ---- for the sides of a split
  pub items_left : (p : ℕ) (d : List ℕ) (l r : Node K V) (m : List (K × V)) (j : Joins t p d (Stands t l) (Stands t r) m) (a : List ℕ) → Contains (encodings t.kind j.left) a → Contains (encodings t.kind m) a
  unfolding encodings
  items_left p d l r m j a ia =
      let tree : tree_of t.kind.bits m ≡ _ = ap (tree_of t.kind.bits) j.is ∙ tree_of_split t.kind.bits p j.left j.right j.parts (stands_map t l j.left j.in_left).tree (stands_map t r j.right j.in_right).tree in
      rw tree (by.in_left t.kind t.ok good p _ _ a ia)

  pub items_right : (p : ℕ) (d : List ℕ) (l r : Node K V) (m : List (K × V)) (j : Joins t p d (Stands t l) (Stands t r) m) (a : List ℕ) → Contains (encodings t.kind j.right) a → Contains (encodings t.kind m) a
  unfolding encodings
  items_right p d l r m j a ia =
      let tree : tree_of t.kind.bits m ≡ _ = ap (tree_of t.kind.bits) j.is ∙ tree_of_split t.kind.bits p j.left j.right j.parts (stands_map t l j.left j.in_left).tree (stands_map t r j.right j.in_right).tree in
      rw tree (by.in_right t.kind t.ok good p _ _ a ia)

  pub clash_left : (p : ℕ) (d : List ℕ) (l r : Node K V) (m : List (K × V)) (P Q : List ℕ → Type 0) (j : Joins t p d (Stands t l) (Stands t r) m) → ((s : List ℕ) → Q s → P s) → NoClash t m P → NoClash t j.left Q
  clash_left p d l r m P Q j f free a b ia qb e = free a b (items_left p d l r m j a ia) (f b qb) e

  pub clash_right : (p : ℕ) (d : List ℕ) (l r : Node K V) (m : List (K × V)) (P Q : List ℕ → Type 0) (j : Joins t p d (Stands t l) (Stands t r) m) → ((s : List ℕ) → Q s → P s) → NoClash t m P → NoClash t j.right Q
  clash_right p d l r m P Q j f free a b ia qb e = free a b (items_right p d l r m j a ia) (f b qb) e

  -- ---- failures of the source
  pub failed_here : (d : List ℕ) (m : List (K × V)) → IsMap t d m → (e : Refusal) (f g : Failures) → g ≡ failures_after {A = List ℕ} (Err e) d f → FailedAtItem t m g e
  failed_here d m h e f g is failure = (root m, in_items m, ap (λ x. x.last) (is ∙ ap (λ b. cond b (one_more f d) f) failure) ∙ ap Some (sym h.is ∙ sym (same_digest m)))

  pub failed_left : (p : ℕ) (d : List ℕ) (l r : Node K V) (m : List (K × V)) (j : Joins t p d (Stands t l) (Stands t r) m) (f : Failures) (e : Refusal) → FailedAtItem t j.left f e → FailedAtItem t m f e
  failed_left p d l r m j f e h is = let x = h is in (x.0, items_left p d l r m j x.0 x.1, x.2)

  pub failed_right : (p : ℕ) (d : List ℕ) (l r : Node K V) (m : List (K × V)) (j : Joins t p d (Stands t l) (Stands t r) m) (f : Failures) (e : Refusal) → FailedAtItem t j.right f e → FailedAtItem t m f e
  failed_right p d l r m j f e h is = let x = h is in (x.0, items_right p d l r m j x.0 x.1, x.2)

-- ---- places that rise
module _ {K V : Type 0} (t : Sort K V) where
  pub alike_left : (n p : ℕ) (d : List ℕ) (L R : List (K × V) → Type 0) (m : List (K × V)) (j : Joins t p d L R m) → n ≡ p + 1 → BeginAlike t.kind.bits n j.left
  alike_left n p d L R m j e = record {
    word = j.parts.word ++ false ∷ [];
    size = length-append j.parts.word (false ∷ []) ∙ omega (arith, j.parts.at);
    all = each_map (λ e. Turns j.parts.word false (t.kind.bits e.0)) (λ e. Begins (j.parts.word ++ false ∷ []) (t.kind.bits e.0)) (λ e x. turns_begins x) j.left j.parts.zeros;
  }

  pub alike_right : (n p : ℕ) (d : List ℕ) (L R : List (K × V) → Type 0) (m : List (K × V)) (j : Joins t p d L R m) → n ≡ p + 1 → BeginAlike t.kind.bits n j.right
  alike_right n p d L R m j e = record {
    word = j.parts.word ++ true ∷ [];
    size = length-append j.parts.word (true ∷ []) ∙ omega (arith, j.parts.at);
    all = each_map (λ e. Turns j.parts.word true (t.kind.bits e.0)) (λ e. Begins (j.parts.word ++ true ∷ []) (t.kind.bits e.0)) (λ e x. turns_begins x) j.right j.parts.ones;
  }

  -- a split is at no place before a word with which all keys begin
  pub no_earlier : (n p : ℕ) (d : List ℕ) (L R : List (K × V) → Type 0) (m : List (K × V)) → Joins t p d L R m → BeginAlike t.kind.bits n m → n ≤ p
  no_earlier n p d L R m j b =
      omega (arith, b.size, word_fits t.kind.bits b.word p j.left j.right j.parts (subst (Each (λ e. Begins b.word (t.kind.bits e.0))) j.is b.all))

-- a split of which a side was reached
module _ {K V : Type 0} (t : Sort K V) (p : ℕ) (d : List ℕ) (l r : Node K V) (m : List (K × V)) (j : Joins t p d (Stands t l) (Stands t r) m) where
  pub with_right : (r' : Node K V) → Stands t r' j.right → Joins t p d (Stands t l) (Stands t r') m
  with_right r' h = record { left = j.left; right = j.right; is = j.is; parts = j.parts; in_left = j.in_left; in_right = h; kept = j.kept }

  pub with_left : (l' : Node K V) → Stands t l' j.left → Joins t p d (Stands t l') (Stands t r) m
  with_left l' h = record { left = j.left; right = j.right; is = j.is; parts = j.parts; in_left = h; in_right = j.in_right; kept = j.kept }

-- a loaded node stands for what its stub stood for
module _ {K V : Type 0} (t : Sort K V) (good : IsEncoding t.kind t.ok) (d s : List ℕ) (P : List ℕ → Type 0) (m : List (K × V)) (h : IsMap t d m) (e : sha256 s ≡ d) (given : P s) (free : NoClash t m P) where
  pub loaded_stands : (i : Item K V) (n : Node K V) → Spells t s i → node_of i d n → Stands t n m
  loaded_stands Nothing n sp is =
      let none : m ≡ [] = is_nothing t good m h.tree (item_is t good d s P m h e given free ∙ sp) in
      subst (λ x. Stands t x m) (sym is) (none, h.is)
  loaded_stands (Pair k v) n sp is =
      let one_pair : m ≡ (k, v) ∷ [] = is_pair t good m h.tree h.good (k, v) sp.0 (item_is t good d s P m h e given free ∙ sp.1) in
      subst (λ x. Stands t x m) (sym is) (one_pair, sp.0, h.is)
  loaded_stands (Sides p a b) (Split' q x l y r c) sp is =
      let j = is_sides t good d m h p a b sp.1 sp.2 sp.3 (item_is t good d s P m h e given free ∙ sp.0) in
      record {
        left = j.left;
        right = j.right;
        is = j.is;
        parts = subst (λ z. IsSplit t.kind.bits z j.left j.right) (sym is.0) j.parts;
        in_left = subst (λ n. Stands t n j.left) (sym is.1) j.in_left;
        in_right = subst (λ n. Stands t n j.right) (sym is.2) j.in_right;
        kept = h.is ∙ sym is.3;
      }
  loaded_stands (Sides p a b) (Stub c) sp is = absurd is
  loaded_stands (Sides p a b) (Empty c) sp is = absurd is
  loaded_stands (Sides p a b) (Leaf k v c) sp is = absurd is

  pub not_malformed : SpellsNone t s → ⊥
  not_malformed bars = is_none t good m h.tree h.good s bars (item_is t good d s P m h e given free)

pub encoding : {K V : Type 0} (bits : K → List Bool) (key_bytes : K → List ℕ) (is_key : K → Bool) (value_bytes : V → List ℕ) (is_value : V → Bool)
    → ((x : K) → IsTrue (is_key x) → length (bits x) < 2 ^ 16) → ((x : K) → IsTrue (is_key x) → length (key_bytes x) < 2 ^ 16)
    → ((x y : K) → IsTrue (is_key x) → IsTrue (is_key y) → key_bytes x ≡ key_bytes y → x ≡ y)
    → ((x y : V) → IsTrue (is_value x) → IsTrue (is_value y) → value_bytes x ≡ value_bytes y → x ≡ y)
    → IsEncoding (sort bits key_bytes is_key value_bytes is_value).kind (sort bits key_bytes is_key value_bytes is_value).ok
encoding bits key_bytes is_key value_bytes is_value short small key_told value_told = record {
  short = λ p h. short p.0 (first_so _ _ h);
  small = λ p h. small p.0 (first_so _ _ h);
  told = λ p q hp hq a b.
      let same_key = key_told p.0 q.0 (first_so _ _ hp) (first_so _ _ hq) a in
      let same_value = value_told p.1 q.1 (second_so _ _ hp) (second_so _ _ hq) b in
      λ i. (same_key i, same_value i);
}

pub two_halves : (bs : List ℕ) → length bs ≡ 64 → (bs ≡ take 32 (drop 0 bs) ++ take 32 (drop 32 bs)) × (length (take 32 (drop 0 bs)) ≡ 32) × (length (take 32 (drop 32 bs)) ≡ 32)
two_halves bs e =
    let rest : take 32 (drop 32 bs) ≡ drop 32 bs = take_all 32 (drop 32 bs) (omega (arith, length-drop 32 bs)) in (
      sym (take-append-drop 32 bs) ∙ ap (λ x. take 32 bs ++ x) (sym rest),
      length-take 32 bs ∙ omega (arith, e),
      ap length rest ∙ length-drop 32 bs ∙ omega (arith, e),
    )

pub all_of : (bs : List ℕ) → length bs ≡ 32 → IsTrue (nat_eq (length (take 32 (drop 0 bs))) 32) × (take 32 (drop 0 bs) ≡ bs)
all_of bs e = let same : take 32 bs ≡ bs = take_all 32 bs (omega (arith, e)) in rw (same, e) (refl, refl)

-- all keys begin with no bit
pub begin_alike : {K V : Type 0} (t : Sort K V) (m : List (K × V)) → BeginAlike t.kind.bits 0 m
begin_alike {K} {V} t m = record { word = []; size = refl; all = go m }
  where
    go : (es : List (K × V)) → Each (λ e. Begins [] (t.kind.bits e.0)) es
    go [] = tt
    go (e ∷ es) = (record { rest = t.kind.bits e.0; is = refl }, go es)
