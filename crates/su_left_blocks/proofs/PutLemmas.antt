-- Blocks whose items are put one after another.
use Rattle.std.proofs.Common.{◌≡◌, ◌∙◌, ℕ, suc, zero, ◌+◌, ◌-◌, ◌*◌, ◌<◌, ◌≤◌, min, cond, List, [], ◌∷◌, ◌++◌, map, length, take, drop, get_or, sym, ap, subst, arith, ◌⊎◌, inl, inr}
use Rattle.std.specs.Prelude.{Result, Ok, Err, Some, IfErr, IsTrue, OnOk}
use Rattle.std.specs.List.{range_with_len}
use Rattle.std.proofs.lemmas.List.FromFn.{map-range_with_len_more}
use Rattle.sha2.specs.Sha256.{sha256}
use Rattle.std.proofs.lemmas.List.{length-drop, length-take, get_or-take, get_or-drop}
use Rattle.su_bytes.specs.declared.refusals.Refusal.{Refusal}
use Rattle.su_bytes.specs.declared.refusals.Refusal.TheVariants.{NoMemory, SourceFailed, TooBig}
use Rattle.su_block.specs.declared.failures.Failures.{Failures}
use Rattle.su_block.specs.Failure.{is_failure, one_more, failures_after}
use Rattle.su_node.specs.Digest.{block_item}
use Rattle.su_node.specs.Field.{block}
use Rattle.su_part_tree.specs.Putting.{Took}
use Rattle.su_node.proofs.Contents.{block_is}

-- a block, as it is taken out of the bytes
pub block_part : (n start len : ℕ) (bytes : List ℕ) → start ≡ 4096 * n → len ≡ min 4096 (length bytes - start) → take len (drop start bytes) ≡ block n bytes
block_part n start len bytes at is =
    let l = length-drop start bytes in
    let k = length-take len (drop start bytes) in
    block_is n bytes (take len (drop start bytes)) (k ∙ omega (arith, l, at, is))
    (λ i lt. get_or-take len (drop start bytes) i 0 (omega (arith, k, lt)) ∙ get_or-drop start bytes i 0 ∙ ap (λ j. get_or bytes (j + i) 0) at)

pub not_big : {A : Type 0} (r : Result A Refusal) → (r ≡ Err TooBig → ⊥) → IfErr r (λ e. (e ≡ TooBig) ⊎ (e ≡ SourceFailed) ⊎ (e ≡ NoMemory)) → IfErr r (λ e. (e ≡ SourceFailed) ⊎ (e ≡ NoMemory))
not_big (Ok a) none h = tt
not_big (Err e) none (inl big) = absurd (none (ap Err big))
not_big (Err e) none (inr (inl failed)) = inl failed
not_big (Err e) none (inr (inr memory)) = inr memory

pub on_ok : {X E A B : Type 0} (r : Result X E) → (A → B) → OnOk r A → OnOk r B
on_ok (Ok x) f a = f a
on_ok (Err e) f a = tt

-- a put that the source failed at was about its item
pub failed_put : {A : Type 0} (r : Result A Refusal) (d : List ℕ) (f g : Failures) → g ≡ failures_after r d f → IfErr r (λ e. IsTrue (is_failure e) → g.last ≡ Some d)
failed_put (Ok a) d f g is = tt
failed_put (Err e) d f g is = λ failure. ap (λ x. x.last) (is ∙ ap (λ b. cond b (one_more f d) f) failure)

-- the digest of one block more
pub one_digest_more : (bytes : List ℕ) (n : ℕ) (ds more : List (List ℕ)) (d : List ℕ) → more ≡ ds ++ d ∷ [] → ds ≡ map (λ k. sha256 (block_item (block k bytes))) (range_with_len 0 n) → d ≡ sha256 (block_item (block n bytes))
    → more ≡ map (λ k. sha256 (block_item (block k bytes))) (range_with_len 0 (n + 1))
one_digest_more bytes n ds more d is before last =
    let digest : ℕ → List ℕ = λ k. sha256 (block_item (block k bytes)) in
    is ∙ ap (λ l. l ++ d ∷ []) before ∙ ap (λ x. map digest (range_with_len 0 n) ++ x ∷ []) last ∙ sym (map-range_with_len_more digest 0 n n (omega arith))

-- s is the item of one of the first blocks
abbrev pub IsAmong : List ℕ → ℕ → List ℕ → Type 0
IsAmong bytes count s = (n : ℕ) × (n < count) × (s ≡ block_item (block n bytes))

pub among_more : (bytes : List ℕ) (count : ℕ) (s : List ℕ) → IsAmong bytes (count + 1) s → IsAmong bytes count s ⊎ (s ≡ block_item (block count bytes))
among_more bytes count s (n, lt, is) = go (before n count (omega (arith, lt)))
  where
    before : (n count : ℕ) → n ≤ count → (n < count) ⊎ (n ≡ count)
    before n zero le = inr (omega (arith, le))
    before zero (suc count) le = inl (omega arith)
    before (suc n) (suc count) le = elim (before n count (omega (arith, le))) [ inl lt ↦ inl (omega (arith, lt)) | inr e ↦ inr (ap suc e) ]

    go : (n < count) ⊎ (n ≡ count) → IsAmong bytes count s ⊎ (s ≡ block_item (block count bytes))
    go (inl low) = inl (n, low, is)
    go (inr e) = inr (is ∙ ap (λ m. block_item (block m bytes)) e)

pub more_among : (bytes : List ℕ) (count : ℕ) (s : List ℕ) → IsAmong bytes count s ⊎ (s ≡ block_item (block count bytes)) → IsAmong bytes (count + 1) s
more_among bytes count s (inl (n, lt, is)) = (n, omega (arith, lt), is)
more_among bytes count s (inr is) = (count, omega arith, is)

-- those before it were put, and one more is
module _ {S : Type 0} (follows : S → S → Type 0) (puts : S → List ℕ → S → Type 0) (on : (a b c : S) → follows a b → follows b c → follows a c) where
  pub spread : (a b c : S) (bytes : List ℕ) (count : ℕ) (s : List ℕ) → follows a b → follows b c → ((s : List ℕ) → IsAmong bytes count s → Took follows puts a b s) → Took follows puts b c (block_item (block count bytes))
      → IsAmong bytes (count + 1) s → Took follows puts a c s
  spread a b c bytes count s x y before one among = go (among_more bytes count s among)
    where
      go : IsAmong bytes count s ⊎ (s ≡ block_item (block count bytes)) → Took follows puts a c s
      go (inl early) = let k = before s early in record { before = k.before; after = k.after; comes = k.comes; takes = k.takes; goes_on = on k.after b c k.goes_on y }
      go (inr is) =
          let k = subst (Took follows puts b c) (sym is) one in
          record { before = k.before; after = k.after; comes = on a b k.before x k.comes; takes = k.takes; goes_on = k.goes_on }
