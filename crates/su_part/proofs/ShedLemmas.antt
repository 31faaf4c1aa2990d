-- Leaving parts on a store, one after another.
use Rattle.std.proofs.Common.{◌≡◌, ◌≢◌, ◌∙◌, ◌⊎◌, ℕ, List, Bool, true, false, cond, Option, Some, None, IsTrue, ap, subst, sym, refl, inl, inr}
use Rattle.std.specs.Prelude.{Result, Ok, Err, OnOk, IfErr, IsSome}
use Rattle.std.specs.BTreeMap.{is_at}
use Rattle.std.specs.Ordering.{nat_cmp}
use Rattle.sha2.specs.Sha256.{sha256}
use Rattle.su_bytes.specs.declared.refusals.Refusal.{Refusal}
use Rattle.su_bytes.specs.declared.refusals.Refusal.TheVariants.{NoMemory, SourceFailed, TooBig}
use Rattle.su_block.specs.declared.failures.Failures.{Failures}
use Rattle.su_block.specs.Failure.{is_failure, failures_after}
use Rattle.su_tree.specs.Laws.Numbers as number
use Rattle.su_tree.specs.Number.{number_bits, number_bytes, is_u32}
use Rattle.su_tree.specs.Value.{is_digest}
use Rattle.su_hash_tree.specs.Sort.{Sort}
use Rattle.su_hash_tree.specs.declared.nodes.Node.{Node, Stub, Empty, Leaf, Split'}
use Rattle.su_part_tree.specs.Loading.{FailedAtItem, IsLoaded}
use Rattle.su_part_tree.specs.declared.parts.PartTree.{PartTree}
use Rattle.su_part_tree.specs.Part.{HasNone, IsItemIn, StandsFor}
use Rattle.su_part_tree.specs.Putting.{IsItemOf, Took}
use Rattle.su_part_tree.proofs.Loading.{encoding}
use Rattle.su_part_tree.proofs.Putting.{item_in, wider}
use Rattle.su_node.specs.Digest.{block_item, block_digests}
use Rattle.su_node.specs.Field.{block}
use Rattle.su_part.specs.Bytes.{number_sort, StandsBytes, IsBlockOf, BytesItem, loaded_block}
use Rattle.su_part.specs.Loads.{FailedAt}
use Rattle.su_part.specs.Sheds.{IsItemInBytes, Sheds}
use Rattle.su_part.specs.declared.blocks.PartBytes.{PartBytes}
use Rattle.su_part.proofs.LoadLemmas.{err_is, err_of, err_weaker, failed_get}
use Rattle.su_part.proofs.Numbers.{same_number}

pub on_ok : {A : Type 0} (r : Result A Refusal) (Q R : Type 0) → (Q → R) → OnOk r Q → OnOk r R
on_ok (Ok a) Q R f h = f h
on_ok (Err e) Q R f h = tt

not_ok : {A : Type 0} (r : Result A Refusal) (e : Refusal) (Q : Type 0) → r ≡ Err e → OnOk r Q
not_ok r e Q is = subst (λ y. OnOk y Q) (sym is) tt

refused_put : (e : Refusal) → e ≢ TooBig → (e ≡ TooBig) ⊎ (e ≡ SourceFailed) ⊎ (e ≡ NoMemory) → (e ≡ SourceFailed) ⊎ (e ≡ NoMemory)
refused_put e fits (inl h) = absurd (fits h)
refused_put e fits (inr h) = h

module _ {P X S : Type 0} {Stands : P → X → Type 0} {Hashed : X → List ℕ → Type 0} {IsIn : P → List ℕ → Type 0} {may_give : S → List ℕ → Type 0} {failed_of : S → Failures} {comes : S → S → Type 0} {puts : S → List ℕ → S → Type 0} where
  -- nothing was put, for want of memory
  pub nothing_put : {A : Type 0} (p : P) (s : S) (e : Refusal) (z : Result A Refusal) → z ≡ Err e → e ≡ NoMemory → ((x : X) → Stands p x → (i : List ℕ) → IsIn p i → Hashed x i) → comes s s
      → Sheds Stands Hashed IsIn may_give failed_of comes puts p p s s z
  nothing_put p s e z to is hashed itself = record {
    stands = λ x a. a;
    no_new = not_ok z e ((i : List ℕ) → IsIn p i → IsIn p i) to;
    not_lost = λ i own. inr own;
    more = λ i m. inl m;
    hashed = hashed;
    failed = λ x a. err_is z e (FailedAt (Hashed x) (failed_of s)) to (λ failure. absurd (let f : false ≡ true = sym (ap is_failure is) ∙ failure in cc));
    refused = err_is z e (λ f. (f ≡ SourceFailed) ⊎ (f ≡ NoMemory)) to (inr is);
    follows = itself;
  }

  -- an item could not be put
  pub put_refused : {A D : Type 0} (p : P) (s t : S) (item : List ℕ) (e : Refusal) (r : Result D Refusal) (z : Result A Refusal) → r ≡ Err e → z ≡ Err e → IsIn p item → ((x : X) → Stands p x → (i : List ℕ) → IsIn p i → Hashed x i)
      → e ≢ TooBig → (e ≡ TooBig) ⊎ (e ≡ SourceFailed) ⊎ (e ≡ NoMemory) → ((i : List ℕ) → may_give t i → may_give s i) → failed_of t ≡ failures_after r (sha256 item) (failed_of s) → comes s t
      → Sheds Stands Hashed IsIn may_give failed_of comes puts p p s t z
  put_refused p s t item e r z is to own hashed fits refused no_more counted follows = record {
    stands = λ x a. a;
    no_new = not_ok z e ((i : List ℕ) → IsIn p i → IsIn p i) to;
    not_lost = λ i o. inr o;
    more = λ i m. inl (no_more i m);
    hashed = hashed;
    failed = λ x a. err_is z e (FailedAt (Hashed x) (failed_of t)) to
        (λ failure. (item, hashed x a item own, err_of r e (λ f. IsTrue (is_failure f) → (failed_of t).last ≡ Some (sha256 item)) is (failed_get r (sha256 item) (failed_of s) (failed_of t) counted) failure));
    refused = err_is z e (λ f. (f ≡ SourceFailed) ⊎ (f ≡ NoMemory)) to (refused_put e fits refused);
    follows = follows;
  }

  -- after a shed that was done comes another one
  pub sheds_on : {A B : Type 0} {p q w : P} {s t v : S} {a : A} {z : Result B Refusal} → ((x : S) → comes x x) → ((x y u : S) → comes x y → comes y u → comes x u)
      → Sheds Stands Hashed IsIn may_give failed_of comes puts p q s t (Ok a) → Sheds Stands Hashed IsIn may_give failed_of comes puts q w t v z → Sheds Stands Hashed IsIn may_give failed_of comes puts p w s v z
  sheds_on {p = p} {q = q} {w = w} {s = s} {t = t} {v = v} {z = z} itself on h k = record {
    stands = λ x a. k.stands x (h.stands x a);
    no_new = on_ok z ((i : List ℕ) → IsIn w i → IsIn q i) ((i : List ℕ) → IsIn w i → IsIn p i) (λ none i own. h.no_new i (none i own)) k.no_new;
    not_lost = λ i own. then i (h.not_lost i own);
    more = λ i m. given i (k.more i m);
    hashed = h.hashed;
    failed = λ x a. k.failed x (h.stands x a);
    refused = k.refused;
    follows = on s t v h.follows k.follows;
  }
    where
      later : (i : List ℕ) → Took comes puts t v i ⊎ IsIn w i → Took comes puts s v i ⊎ IsIn w i
      later i (inl took) = inl (wider comes puts on s t v v h.follows (itself v) i took)
      later i (inr still) = inr still

      then : (i : List ℕ) → Took comes puts s t i ⊎ IsIn q i → Took comes puts s v i ⊎ IsIn w i
      then i (inl took) = inl (wider comes puts on s s t v (itself s) k.follows i took)
      then i (inr there) = later i (k.not_lost i there)

      given : (i : List ℕ) → may_give t i ⊎ IsIn q i → may_give s i ⊎ IsIn p i
      given i (inl m) = h.more i m
      given i (inr own) = inr (h.no_new i own)

  -- the same refusal is handed on
  pub shed_handed_on : {A B : Type 0} {p q : P} {s t : S} {r : Result A Refusal} {z : Result B Refusal} (e : Refusal) → r ≡ Err e → z ≡ Err e
      → Sheds Stands Hashed IsIn may_give failed_of comes puts p q s t r → Sheds Stands Hashed IsIn may_give failed_of comes puts p q s t z
  shed_handed_on {p = p} {q = q} {t = t} {r = r} {z = z} e is to h = record {
    stands = h.stands;
    no_new = not_ok z e ((i : List ℕ) → IsIn q i → IsIn p i) to;
    not_lost = h.not_lost;
    more = h.more;
    hashed = h.hashed;
    failed = λ x a. err_is z e (FailedAt (Hashed x) (failed_of t)) to (err_of r e (FailedAt (Hashed x) (failed_of t)) is (h.failed x a));
    refused = err_is z e (λ f. (f ≡ SourceFailed) ⊎ (f ≡ NoMemory)) to (err_of r e (λ f. (f ≡ SourceFailed) ⊎ (f ≡ NoMemory)) is h.refused);
    follows = h.follows;
  }

-- ---- a file's bytes

block_is : (bs : List ℕ) (n : ℕ) (o : Option (List ℕ)) (bytes : List ℕ) → IsBlockOf bs n o → o ≡ Some bytes → bytes ≡ block n bs
block_is bs n None bytes h e = absurd cc
block_is bs n (Some x) bytes h e = let same : x ≡ bytes = cc in sym same ∙ h

-- the items of what is loaded are hashed for the bytes
pub bytes_hashed : (b : PartBytes) (bs : List ℕ) → StandsBytes b bs → (i : List ℕ) → IsItemInBytes b i → BytesItem bs i
bytes_hashed b bs h i (inl node) =
    inl (item_in number_sort (encoding number_bits number_bytes is_u32 (λ d. d) is_digest number.short number.small number.told (λ x y hx hy e. e)) b.digests.root (block_digests bs) h.digests i node)
bytes_hashed b bs h i (inr (n, bytes, at, is)) = inr (n, is ∙ ap block_item (block_is bs n (loaded_block b n) bytes (h.blocks n) at))

pub some_of : {Y : Type 0} (o : Option Y) → IsSome o → (y : Y) × (o ≡ Some y)
some_of None h = absurd (let z : false ≡ true = h in cc)
some_of (Some y) h = (y, refl)

gone : (number k : ℕ) (o : Option (List ℕ)) (bytes : List ℕ) → (t : Bool) → cond t None o ≡ Some bytes → o ≡ Some bytes
gone number k o bytes true e = absurd (let z : None ≡ Some bytes = e in cc)
gone number k o bytes false e = e

-- c is b without the block of a number
module _ (b c : PartBytes) (number : ℕ) (bytes : List ℕ) (same : c.digests ≡ b.digests) (at : loaded_block b number ≡ Some bytes)
    (updates : (k : ℕ) → loaded_block c k ≡ cond (is_at (nat_cmp number) k) None (loaded_block b k)) where
  pub none_new : (i : List ℕ) → IsItemInBytes c i → IsItemInBytes b i
  none_new i (inl node) = inl (subst (λ t. IsItemIn number_sort t i) same node)
  none_new i (inr (k, x, e, is)) = inr (k, x, gone number k (loaded_block b k) x (is_at (nat_cmp number) k) (sym (updates k) ∙ e), is)

  pub left_or : (T : Type 0) (i : List ℕ) → (i ≡ block_item bytes → T) → IsItemInBytes b i → T ⊎ IsItemInBytes c i
  left_or T i took (inl node) = inr (inl (subst (λ t. IsItemIn number_sort t i) (sym same) node))
  left_or T i took (inr (k, x, e, is)) = go (is_at (nat_cmp number) k) refl
    where
      go : (t : Bool) → is_at (nat_cmp number) k ≡ t → T ⊎ IsItemInBytes c i
      go true is_it =
          let here : loaded_block b number ≡ Some x = ap (loaded_block b) (same_number number k is_it) ∙ e in
          let is_x : x ≡ bytes = (let both : Some x ≡ Some bytes = sym here ∙ at in cc) in
          inl (took (is ∙ ap block_item is_x))
      go false other = inr (inr (k, x, updates k ∙ ap (λ t. cond t None (loaded_block b k)) other ∙ e, is))

-- ---- the tree of the blocks' digests

pub none_in : {K V : Type 0} (t : Sort K V) (n : Node K V) (i : List ℕ) → ¬ (IsLoaded n) → IsItemOf t n i → ⊥
none_in t (Stub d) i none own = own
none_in t (Empty d) i none own = none tt
none_in t (Leaf k v d) i none own = none tt
none_in t (Split' p a l b r d) i none own = none tt

module _ {S A : Type 0} (may_give : S → List ℕ → Type 0) (failed_of : S → Failures) (comes : S → S → Type 0) (puts : S → List ℕ → S → Type 0) (b : PartBytes) (t : PartTree ℕ (List ℕ)) (s v : S) (r : Result A Refusal) where
  pub digests_shed : ((m : List (ℕ × List ℕ)) → StandsFor number_sort b.digests m → StandsFor number_sort t m) → OnOk r (HasNone t)
      → ((i : List ℕ) → IsItemIn number_sort b.digests i → Took comes puts s v i ⊎ IsItemIn number_sort t i) → ((i : List ℕ) → may_give v i → may_give s i ⊎ IsItemIn number_sort b.digests i)
      → ((m : List (ℕ × List ℕ)) → StandsFor number_sort b.digests m → IfErr r (FailedAtItem number_sort m (failed_of v))) → IfErr r (λ e. (e ≡ SourceFailed) ⊎ (e ≡ NoMemory)) → comes s v
      → Sheds StandsBytes BytesItem IsItemInBytes may_give failed_of comes puts b (record b { digests = t }) s v r
  digests_shed stands none not_lost more failed refused follows = record {
    stands = λ bs h. record { size = h.size; digests = stands (block_digests bs) h.digests; blocks = h.blocks };
    no_new = on_ok r (HasNone t) ((i : List ℕ) → IsItemInBytes (record b { digests = t }) i → IsItemInBytes b i) old none;
    not_lost = left;
    more = λ i m. given i (more i m);
    hashed = bytes_hashed b;
    failed = λ bs h. err_weaker r (FailedAtItem number_sort (block_digests bs) (failed_of v)) (FailedAt (BytesItem bs) (failed_of v)) (λ e there failure. let z = there failure in (z.0, inl z.1, z.2)) (failed (block_digests bs) h.digests);
    refused = refused;
    follows = follows;
  }
    where
      old : HasNone t → (i : List ℕ) → IsItemInBytes (record b { digests = t }) i → IsItemInBytes b i
      old none i (inl node) = absurd (none_in number_sort t.root i none node)
      old none i (inr there) = inr there

      kept_or : (i : List ℕ) → Took comes puts s v i ⊎ IsItemIn number_sort t i → Took comes puts s v i ⊎ IsItemInBytes (record b { digests = t }) i
      kept_or i (inl took) = inl took
      kept_or i (inr node) = inr (inl node)

      left : (i : List ℕ) → IsItemInBytes b i → Took comes puts s v i ⊎ IsItemInBytes (record b { digests = t }) i
      left i (inl node) = kept_or i (not_lost i node)
      left i (inr there) = inr (inr there)

      given : (i : List ℕ) → may_give s i ⊎ IsItemIn number_sort b.digests i → may_give s i ⊎ IsItemInBytes b i
      given i (inl m) = inl m
      given i (inr node) = inr (inl node)
