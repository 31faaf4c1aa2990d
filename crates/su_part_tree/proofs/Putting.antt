-- What is put of a tree is what is hashed for the maps that it stands for.
use Rattle.std.proofs.Common.{◌≡◌, ℕ, ◌≤◌, true, cond, ◌⊎◌, inl, inr, Err, List, [], ◌∷◌, ◌++◌, length, get_or, arith, ◌∙◌, sym, ap, refl, subst, length-append}
use Rattle.std.specs.Int.{w16, to_be_bytes}
use Rattle.std.specs.List.{Contains}
use Rattle.std.proofs.lemmas.Bool.{le-leb}
use Rattle.std.proofs.lemmas.List.Elements.{Contains-append_cases}
use Rattle.sha2.specs.Sha256.{sha256}
use Rattle.su_bytes.specs.declared.refusals.Refusal.{Refusal}
use Rattle.su_block.specs.declared.failures.Failures.{Failures}
use Rattle.su_block.specs.Failure.{one_more, failures_after}
use Rattle.su_block.specs.Item.{is_item}
use Rattle.su_tree.specs.MapKind.{MapKind}
use Rattle.su_tree.specs.KeyTree.{tree_of}
use Rattle.su_tree.specs.Digest.{digest, empty_item, pair_item, split_item}
use Rattle.su_tree.specs.Collision.{encodings}
use Rattle.su_tree.proofs.Splits.{tree_of_split}
use Rattle.su_tree.proofs.Collisions.{IsEncoding}
use Rattle.su_hash_tree.specs.Sort.{Sort}
use Rattle.su_hash_tree.specs.declared.nodes.Node.{Node, Stub, Empty, Leaf, Split'}
use Rattle.su_hash_tree.specs.Stands.{Stands, IsWhole, kept}
use Rattle.su_hash_tree.proofs.Standing.{stands_map}
use Rattle.su_part_tree.specs.Loading.{FailedAtItem, IsLoaded}
use Rattle.su_part_tree.specs.Putting.{IsOwnItem, IsItemOf, Took}
use Rattle.su_part_tree.proofs.Loading.{root, root_none, root_one, root_parted, in_items, same_digest, items_left, items_right}

one_of : (y x : List ℕ) → Contains (y ∷ []) x → x ≡ y
one_of y x h = let z : h.0 ≡ 0 = omega (arith, h.1) in sym (ap (λ k. get_or (y ∷ []) k x) (sym z) ∙ h.2)

module _ {K V : Type 0} (t : Sort K V) (good : IsEncoding t.kind t.ok) where
  -- the item of a node is the one that is hashed for its map
  pub own_is : (n : Node K V) (m : List (K × V)) → Stands t n m → (s : List ℕ) → IsOwnItem t n s → s ≡ root t good m
  own_is (Stub d) m h s i = absurd i
  own_is (Empty d) m h s i = i ∙ sym (ap (root t good) h.0 ∙ root_none t good)
  own_is (Leaf k v d) m h s i = i ∙ sym (ap (root t good) h.0 ∙ root_one t good (k, v))
  own_is (Split' p a l b r d) m h s i =
      let x = stands_map t l h.left h.in_left in
      let y = stands_map t r h.right h.in_right in
      i ∙ sym (root_parted t good p h.left h.right m h.parts x.tree y.tree h.is ∙ ap (λ z. split_item p z (digest t.kind h.right)) x.is ∙ ap (λ z. split_item p (kept l) z) y.is)

  pub own_in : (n : Node K V) (m : List (K × V)) → Stands t n m → (s : List ℕ) → IsOwnItem t n s → Contains (encodings t.kind m) s
  own_in n m h s i = subst (Contains (encodings t.kind m)) (sym (own_is n m h s i)) (in_items t good m)

  pub item_in : (n : Node K V) (m : List (K × V)) → Stands t n m → (s : List ℕ) → IsItemOf t n s → Contains (encodings t.kind m) s
  item_in (Stub d) m h s i = absurd i
  item_in (Empty d) m h s i = own_in (Empty d) m h s i
  item_in (Leaf k v d) m h s i = own_in (Leaf k v d) m h s i
  item_in (Split' p a l b r d) m h s (inl own) = own_in (Split' p a l b r d) m h s own
  item_in (Split' p a l b r d) m h s (inr (inl left)) = items_left t good p d l r m h s (item_in l h.left h.in_left s left)
  item_in (Split' p a l b r d) m h s (inr (inr right)) = items_right t good p d l r m h s (item_in r h.right h.in_right s right)

  -- the encodings of a map whose tree isn't split
  alone : (m : List (K × V)) (y s : List ℕ) → encodings t.kind m ≡ y ∷ [] → Contains (encodings t.kind m) s → s ≡ y
  alone m y s is c = one_of y s (subst (λ es. Contains es s) is c)

  encodings_none : encodings t.kind [] ≡ empty_item ∷ []
  unfolding encodings tree_of
  encodings_none = refl

  encodings_one : (e : K × V) → encodings t.kind (e ∷ []) ≡ pair_item t.kind e ∷ []
  unfolding encodings tree_of
  encodings_one e = refl

  encodings_split : (p : ℕ) (a b d : _) (l r : Node K V) (m : List (K × V)) (h : Stands t (Split' p a l b r d) m) → encodings t.kind m ≡ root t good m ∷ encodings t.kind h.left ++ encodings t.kind h.right
  unfolding encodings
  encodings_split p a b d l r m h =
      let tree : tree_of t.kind.bits m ≡ _ = ap (tree_of t.kind.bits) h.is ∙ tree_of_split t.kind.bits p h.left h.right h.parts (stands_map t l h.left h.in_left).tree (stands_map t r h.right h.in_right).tree in
      rw tree refl

  -- all encodings of a map are items of its tree, if all of that is loaded
  pub whole_has : (n : Node K V) (m : List (K × V)) → Stands t n m → IsWhole n → (s : List ℕ) → Contains (encodings t.kind m) s → IsItemOf t n s
  whole_has (Stub d) m h w s c = absurd w
  whole_has (Empty d) m h w s c = alone m empty_item s (ap (encodings t.kind) h.0 ∙ encodings_none) c
  whole_has (Leaf k v d) m h w s c = alone m (pair_item t.kind (k, v)) s (ap (encodings t.kind) h.0 ∙ encodings_one (k, v)) c
  whole_has (Split' p a l b r d) m h w s c =
      let own : split_item p (kept l) (kept r) ≡ root t good m = own_is (Split' p a l b r d) m h _ refl in
      elim (Contains-append_cases (root t good m ∷ encodings t.kind h.left) (encodings t.kind h.right) s (subst (λ es. Contains es s) (encodings_split p a b d l r m h) c)) [
        | inl front ↦ elim (Contains-append_cases (root t good m ∷ []) (encodings t.kind h.left) s front) [
          | inl here ↦ inl (one_of (root t good m) s here ∙ sym own)
          | inr left ↦ inr (inl (whole_has l h.left h.in_left w.0 s left))
        ]
        | inr right ↦ inr (inr (whole_has r h.right h.in_right w.1 s right))
      ]

  -- one of the items of a tree whose root is loaded has the digest of the map
  pub root_has : (n : Node K V) (m : List (K × V)) → Stands t n m → IsLoaded n → (s : List ℕ) × IsItemOf t n s × (sha256 s ≡ digest t.kind m)
  root_has (Stub d) m h w = absurd w
  root_has (Empty d) m h w = (empty_item, refl, ap sha256 (own_is (Empty d) m h empty_item refl) ∙ same_digest t good m)
  root_has (Leaf k v d) m h w = (pair_item t.kind (k, v), refl, ap sha256 (own_is (Leaf k v d) m h (pair_item t.kind (k, v)) refl) ∙ same_digest t good m)
  root_has (Split' p a l b r d) m h w = (split_item p (kept l) (kept r), inl refl, ap sha256 (own_is (Split' p a l b r d) m h (split_item p (kept l) (kept r)) refl) ∙ same_digest t good m)

  -- a failure at the item of a node
  pub failed_put : (n : Node K V) (m : List (K × V)) → Stands t n m → (s : List ℕ) → IsOwnItem t n s → (e : Refusal) (f g : Failures) → g ≡ failures_after {A = List ℕ} (Err e) (sha256 s) f → FailedAtItem t m g e
  failed_put n m h s i e f g is failure = (s, own_in n m h s i, ap (λ x. x.last) (is ∙ ap (λ b. cond b (one_more f (sha256 s)) f) failure))

of_own : {K V : Type 0} (t : Sort K V) (n : Node K V) (s : List ℕ) → IsOwnItem t n s → IsItemOf t n s
of_own t (Stub d) s i = i
of_own t (Empty d) s i = i
of_own t (Leaf k v d) s i = i
of_own t (Split' p a l b r d) s i = inl i

-- what was taken, or is still the item of a node
pub taken_or_own : {K V : Type 0} (t : Sort K V) (n : Node K V) (s : List ℕ) (X : Type 0) → X ⊎ IsOwnItem t n s → X ⊎ IsItemOf t n s
taken_or_own t n s X (inl x) = inl x
taken_or_own t n s X (inr i) = inr (of_own t n s i)

pub at_Empty : {K V : Type 0} (t : Sort K V) {n : Node K V} {d : List ℕ} (s : List ℕ) → n ≡ Empty d → IsItemOf t n s → IsOwnItem t n s
at_Empty t s e i = subst (λ x. IsItemOf t x s → IsOwnItem t x s) (sym e) (λ j. j) i

pub at_Leaf : {K V : Type 0} (t : Sort K V) {n : Node K V} {k : K} {v : V} {d : List ℕ} (s : List ℕ) → n ≡ Leaf k v d → IsItemOf t n s → IsOwnItem t n s
at_Leaf t s e i = subst (λ x. IsItemOf t x s → IsOwnItem t x s) (sym e) (λ j. j) i

-- ---- what was taken stays taken

module _ {S : Type 0} (follows : S → S → Type 0) (puts : S → List ℕ → S → Type 0) (on : (a b c : S) → follows a b → follows b c → follows a c) where
  -- between more calls the same is taken
  pub wider : (a b c d : S) → follows a b → follows c d → (s : List ℕ) → Took follows puts b c s → Took follows puts a d s
  wider a b c d x y s k = record { before = k.before; after = k.after; comes = on a b k.before x k.comes; takes = k.takes; goes_on = on k.after c d k.goes_on y }

  -- of a split the items of its left side are taken, those of its right side, and its own
  pub took_split : {K V : Type 0} (t : Sort K V) {n : Node K V} {p a b : _} {d : List ℕ} {l r : Node K V} → n ≡ Split' p a l b r d → (u v : Node K V) → u ≡ Stub (kept l) → v ≡ Stub (kept r)
      → (x0 x1 x2 x3 : S) → ((x : S) → follows x x) → follows x0 x1 → follows x1 x2 → follows x2 x3
      → ((s : List ℕ) → IsItemOf t l s → Took follows puts x0 x1 s) → ((s : List ℕ) → IsItemOf t r s → Took follows puts x1 x2 s)
      → ((s : List ℕ) → s ≡ split_item p (kept u) (kept v) → Took follows puts x2 x3 s)
      → (s : List ℕ) → IsItemOf t n s → Took follows puts x0 x3 s
  took_split {K} {V} t {n} {p} {a} {b} {d} {l} {r} is u v eu ev x0 x1 x2 x3 itself f01 f12 f23 left right own s i = go (subst (λ x. IsItemOf t x s) is i) where
    go : (s ≡ split_item p (kept l) (kept r)) ⊎ IsItemOf t l s ⊎ IsItemOf t r s → Took follows puts x0 x3 s
    go (inl o) = wider x0 x2 x3 x3 (on x0 x1 x2 f01 f12) (itself x3) s (own s (o ∙ sym (ap (λ z. split_item p (kept z) (kept v)) eu ∙ ap (λ z. split_item p (kept l) (kept z)) ev)))
    go (inr (inl i)) = wider x0 x0 x1 x3 (itself x0) (on x1 x2 x3 f12 f23) s (left s i)
    go (inr (inr i)) = wider x0 x1 x2 x3 f01 f23 s (right s i)

  -- whatever was answered, what wasn't taken is still there
  pub safe_left : {K V : Type 0} (t : Sort K V) {n : Node K V} {p a b : _} {d : List ℕ} {l r : Node K V} → n ≡ Split' p a l b r d → (u : Node K V) → kept u ≡ kept l
      → (x0 x1 : S) → ((s : List ℕ) → IsItemOf t l s → Took follows puts x0 x1 s ⊎ IsItemOf t u s)
      → (s : List ℕ) → IsItemOf t n s → Took follows puts x0 x1 s ⊎ IsItemOf t (Split' p a u b r d) s
  safe_left {K} {V} t {n} {p} {a} {b} {d} {l} {r} is u eu x0 x1 left s i = go (subst (λ x. IsItemOf t x s) is i) where
    go : (s ≡ split_item p (kept l) (kept r)) ⊎ IsItemOf t l s ⊎ IsItemOf t r s → Took follows puts x0 x1 s ⊎ IsItemOf t (Split' p a u b r d) s
    go (inl o) = inr (inl (o ∙ sym (ap (λ z. split_item p z (kept r)) eu)))
    go (inr (inl i)) = elim (left s i) [ inl k ↦ inl k | inr j ↦ inr (inr (inl j)) ]
    go (inr (inr i)) = inr (inr (inr i))

  pub safe_right : {K V : Type 0} (t : Sort K V) {n : Node K V} {p a b : _} {d : List ℕ} {l r : Node K V} → n ≡ Split' p a l b r d → (u v : Node K V) → kept u ≡ kept l → kept v ≡ kept r
      → (x0 x1 x2 : S) → ((x : S) → follows x x) → follows x0 x1 → follows x1 x2
      → ((s : List ℕ) → IsItemOf t l s → Took follows puts x0 x1 s) → ((s : List ℕ) → IsItemOf t r s → Took follows puts x1 x2 s ⊎ IsItemOf t v s)
      → (s : List ℕ) → IsItemOf t n s → Took follows puts x0 x2 s ⊎ IsItemOf t (Split' p a u b v d) s
  safe_right {K} {V} t {n} {p} {a} {b} {d} {l} {r} is u v eu ev x0 x1 x2 itself f01 f12 left right s i = go (subst (λ x. IsItemOf t x s) is i) where
    go : (s ≡ split_item p (kept l) (kept r)) ⊎ IsItemOf t l s ⊎ IsItemOf t r s → Took follows puts x0 x2 s ⊎ IsItemOf t (Split' p a u b v d) s
    go (inl o) = inr (inl (o ∙ sym (ap (λ z. split_item p z (kept v)) eu ∙ ap (λ z. split_item p (kept l) z) ev)))
    go (inr (inl i)) = inl (wider x0 x0 x1 x2 (itself x0) f12 s (left s i))
    go (inr (inr i)) = elim (right s i) [ inl k ↦ inl (wider x0 x1 x2 x2 f01 (itself x2) s k) | inr j ↦ inr (inr (inr j)) ]

  pub safe_split : {K V : Type 0} (t : Sort K V) {n : Node K V} {p a b : _} {d : List ℕ} {l r : Node K V} → n ≡ Split' p a l b r d → (u v z : Node K V) → kept u ≡ kept l → kept v ≡ kept r
      → (x0 x1 x2 x3 : S) → ((x : S) → follows x x) → follows x0 x1 → follows x1 x2 → follows x2 x3
      → ((s : List ℕ) → IsItemOf t l s → Took follows puts x0 x1 s) → ((s : List ℕ) → IsItemOf t r s → Took follows puts x1 x2 s)
      → ((s : List ℕ) → s ≡ split_item p (kept u) (kept v) → Took follows puts x2 x3 s ⊎ IsOwnItem t z s)
      → (s : List ℕ) → IsItemOf t n s → Took follows puts x0 x3 s ⊎ IsItemOf t z s
  safe_split {K} {V} t {n} {p} {a} {b} {d} {l} {r} is u v z eu ev x0 x1 x2 x3 itself f01 f12 f23 left right own s i = go (subst (λ x. IsItemOf t x s) is i) where
    go : (s ≡ split_item p (kept l) (kept r)) ⊎ IsItemOf t l s ⊎ IsItemOf t r s → Took follows puts x0 x3 s ⊎ IsItemOf t z s
    go (inl o) = elim (own s (o ∙ sym (ap (λ y. split_item p y (kept v)) eu ∙ ap (λ y. split_item p (kept l) y) ev))) [
      | inl k ↦ inl (wider x0 x2 x3 x3 (on x0 x1 x2 f01 f12) (itself x3) s k)
      | inr j ↦ inr (of_own t z s j)
    ]
    go (inr (inl i)) = inl (wider x0 x0 x1 x3 (itself x0) (on x1 x2 x3 f12 f23) s (left s i))
    go (inr (inr i)) = inl (wider x0 x1 x2 x3 f01 f23 s (right s i))

-- ---- items are short

item_small : (s : List ℕ) → 1 ≤ length s → length s ≤ 70000 → is_item s ≡ true
item_small s a b = rw (le-leb 1 (length s) a, le-leb (length s) 70000 b) refl

pub empty_small : (s : List ℕ) → s ≡ empty_item → is_item s ≡ true
empty_small s e = ap is_item e

pub pair_small : {K V : Type 0} (k : MapKind K V) (e : K × V) (s : List ℕ) → s ≡ pair_item k e → length (k.key_bytes e.0) ≤ 65535 → length (k.value_bytes e.1) ≤ 4096 → is_item s ≡ true
pair_small k e s is x y =
    let front : List ℕ = 0 ∷ to_be_bytes w16 (length (k.key_bytes e.0)) in
    let long = length-append (front ++ k.key_bytes e.0) (k.value_bytes e.1) in
    let less = length-append front (k.key_bytes e.0) in
    ap is_item is ∙ item_small (pair_item k e) (omega (arith, long, less)) (omega (arith, long, less))

pub split_small : (p : ℕ) (a b s : List ℕ) → s ≡ split_item p a b → length a ≡ 32 → length b ≡ 32 → is_item s ≡ true
split_small p a b s is x y =
    let front : List ℕ = 1 ∷ to_be_bytes w16 p in
    let long = length-append (front ++ a) b in
    let less = length-append front a in
    ap is_item is ∙ item_small (split_item p a b) (omega (arith, long, less)) (omega (arith, long, less))
