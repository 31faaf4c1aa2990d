-- Loads one after another, of a part of something, and of an item.
use Rattle.std.proofs.Common.{◌≡◌, ◌∙◌, ◌⊎◌, ℕ, List, IsTrue, true, false, cond, Some, ap, subst, sym, refl, inl, inr}
use Rattle.std.specs.Prelude.{Result, Ok, Err, IfOk, IfErr}
use Rattle.sha2.specs.Sha256.{sha256}
use Rattle.su_bytes.specs.declared.refusals.Refusal.{Refusal}
use Rattle.su_bytes.specs.declared.refusals.Refusal.TheVariants.{MissingBlock, WrongBlock, SourceFailed, NoMemory, Malformed}
use Rattle.su_block.specs.declared.failures.Failures.{Failures}
use Rattle.su_block.specs.Failure.{is_failure, one_more, failures_after}
use Rattle.su_part_tree.specs.Loading.{IsLoadRefusal}
use Rattle.su_part.specs.Bytes.{NoneClash}
use Rattle.su_part.specs.Loads.{FailedAt, Loads, Gets}

pub less : {Q P R : List ℕ → Type 0} → NoneClash Q P → ((i : List ℕ) → R i → P i) → NoneClash Q R
less free no_more a b qa rb e = free a b qa (no_more b rb) e

-- ---- refusals

pub err_of : {A : Type 0} (r : Result A Refusal) (e : Refusal) (Q : Refusal → Type 0) → r ≡ Err e → IfErr r Q → Q e
err_of r e Q is h = subst (λ y. IfErr y Q) is h

pub err_is : {A : Type 0} (r : Result A Refusal) (e : Refusal) (Q : Refusal → Type 0) → r ≡ Err e → Q e → IfErr r Q
err_is r e Q is h = subst (λ y. IfErr y Q) (sym is) h

pub err_weaker : {A : Type 0} (r : Result A Refusal) (Q R : Refusal → Type 0) → ((e : Refusal) → Q e → R e) → IfErr r Q → IfErr r R
err_weaker (Ok a) Q R f h = tt
err_weaker (Err e) Q R f h = f e h

same_err : {B : Type 0} (r : Result B Refusal) (a b : Refusal) → r ≡ Err a → r ≡ Err b → a ≡ b
same_err r a b e f = let g = sym e ∙ f in cc

pub no_memory : (e : Refusal) → e ≡ NoMemory → IsLoadRefusal e
no_memory e h = inr (inr (inr (inl h)))

no_failure : (Q : List ℕ → Type 0) (f : Failures) (e : Refusal) → is_failure e ≡ false → FailedAt Q f e
no_failure Q f e none is = absurd (let z : false ≡ true = sym none ∙ is in cc)

module _ {P X S : Type 0} {Stands : P → X → Type 0} {Hashed : X → List ℕ → Type 0} {Keeps : P → P → Type 0} {may_give : S → List ℕ → Type 0} {failed_of : S → Failures} {comes : S → S → Type 0} where
  -- ---- one load after another

  -- nothing was asked for, and at most memory was wanting
  pub nothing_asked : {A : Type 0} (p q : P) (s : S) (z : Result A Refusal) → IfErr z (λ e. e ≡ NoMemory) → Keeps p q → ((x : X) → Stands p x → Stands q x) → comes s s → Loads Stands Hashed Keeps may_give failed_of comes p q s s z
  nothing_asked {A} p q s z unless keeps same comes_itself = record {
    stands = λ x h free. same x h;
    malformed = λ e x h free. absurd (let m : Malformed 0 ≡ NoMemory = err_of z (Malformed 0) (λ y. y ≡ NoMemory) e unless in cc);
    failed = λ x h free. err_weaker z (λ y. y ≡ NoMemory) (FailedAt (Hashed x) (failed_of s)) (λ y is. no_failure (Hashed x) (failed_of s) y (ap is_failure is)) unless;
    refused = err_weaker z (λ y. y ≡ NoMemory) IsLoadRefusal no_memory unless;
    keeps = keeps;
    no_more = λ i h. h;
    follows = comes_itself;
  }

  -- what stands for nothing is refused as malformed
  pub none_stands : {A : Type 0} (p : P) (s : S) (z : Result A Refusal) → z ≡ Err (Malformed 0) → Keeps p p → ((x : X) → Stands p x → ⊥) → comes s s → Loads Stands Hashed Keeps may_give failed_of comes p p s s z
  none_stands p s z to keeps none comes_itself = record {
    stands = λ x h free. h;
    malformed = λ e x h free. none x h;
    failed = λ x h free. absurd (none x h);
    refused = err_is z (Malformed 0) IsLoadRefusal to (inr (inr (inr (inr refl))));
    keeps = keeps;
    no_more = λ i h. h;
    follows = comes_itself;
  }

  -- after a load, whatever it answered, comes another one
  pub loads_on : {A B : Type 0} {p q w : P} {s t v : S} {r : Result A Refusal} {z : Result B Refusal} → ((a b c : P) → Keeps a b → Keeps b c → Keeps a c) → ((a b c : S) → comes a b → comes b c → comes a c)
      → Loads Stands Hashed Keeps may_give failed_of comes p q s t r → Loads Stands Hashed Keeps may_give failed_of comes q w t v z → Loads Stands Hashed Keeps may_give failed_of comes p w s v z
  loads_on {p = p} {q = q} {w = w} {s = s} {t = t} {v = v} keeps_on comes_on h k = record {
    stands = λ x a free. k.stands x (h.stands x a free) (less free h.no_more);
    malformed = λ e x a free. k.malformed e x (h.stands x a free) (less free h.no_more);
    failed = λ x a free. k.failed x (h.stands x a free) (less free h.no_more);
    refused = k.refused;
    keeps = keeps_on p q w h.keeps k.keeps;
    no_more = λ i m. h.no_more i (k.no_more i m);
    follows = comes_on s t v h.follows k.follows;
  }

  -- the same refusal is handed on
  pub handed_on : {A B : Type 0} {p q : P} {s t : S} {r : Result A Refusal} {z : Result B Refusal} (e : Refusal) → r ≡ Err e → z ≡ Err e
      → Loads Stands Hashed Keeps may_give failed_of comes p q s t r → Loads Stands Hashed Keeps may_give failed_of comes p q s t z
  handed_on {A} {B} {p} {q} {s} {t} {r} {z} e is to h = record {
    stands = h.stands;
    malformed = λ m x a free. h.malformed (is ∙ ap Err (same_err z e (Malformed 0) to m)) x a free;
    failed = λ x a free. err_is z e (FailedAt (Hashed x) (failed_of t)) to (err_of r e (FailedAt (Hashed x) (failed_of t)) is (h.failed x a free));
    refused = err_is z e IsLoadRefusal to (err_of r e IsLoadRefusal is h.refused);
    keeps = h.keeps;
    no_more = h.no_more;
    follows = h.follows;
  }

  -- what was loaded is not refused, unless memory is wanting
  pub answered : {A B : Type 0} {p q : P} {s t : S} {r : Result A Refusal} (z : Result B Refusal) → IfErr z (λ e. e ≡ NoMemory)
      → Loads Stands Hashed Keeps may_give failed_of comes p q s t r → Loads Stands Hashed Keeps may_give failed_of comes p q s t z
  answered {A} {B} {p} {q} {s} {t} z unless h = record {
    stands = h.stands;
    malformed = λ e x a free. absurd (let m : Malformed 0 ≡ NoMemory = err_of z (Malformed 0) (λ y. y ≡ NoMemory) e unless in cc);
    failed = λ x a free. err_weaker z (λ y. y ≡ NoMemory) (FailedAt (Hashed x) (failed_of t)) (λ y is. no_failure (Hashed x) (failed_of t) y (ap is_failure is)) unless;
    refused = err_weaker z (λ y. y ≡ NoMemory) IsLoadRefusal no_memory unless;
    keeps = h.keeps;
    no_more = h.no_more;
    follows = h.follows;
  }

-- ---- what is part of something else

-- What p' stands for has a part for which p stands, of which nothing is hashed but what is hashed for it; and q' stands for it
-- still, where q stands for that part.
pub record IsWithin {P X P' X' : Type 0} (Stands : P → X → Type 0) (Hashed : X → List ℕ → Type 0) (Stands' : P' → X' → Type 0) (Hashed' : X' → List ℕ → Type 0) (p q : P) (p' q' : P') (x' : X') : Type 0 where
  pub part : X
  pub before : Stands p part
  pub hashed : (i : List ℕ) → Hashed part i → Hashed' x' i
  pub after : Stands q part → Stands' q' x'

pub loads_within : {P X P' X' S A : Type 0} {Stands : P → X → Type 0} {Hashed : X → List ℕ → Type 0} {Keeps : P → P → Type 0} {Stands' : P' → X' → Type 0} {Hashed' : X' → List ℕ → Type 0} {Keeps' : P' → P' → Type 0}
    {may_give : S → List ℕ → Type 0} {failed_of : S → Failures} {comes : S → S → Type 0} {p q : P} (p' q' : P') {s t : S} {r : Result A Refusal}
    → ((x' : X') → Stands' p' x' → IsWithin Stands Hashed Stands' Hashed' p q p' q' x') → Keeps' p' q'
    → Loads Stands Hashed Keeps may_give failed_of comes p q s t r → Loads Stands' Hashed' Keeps' may_give failed_of comes p' q' s t r
loads_within {Hashed = Hashed} {Hashed' = Hashed'} {may_give = may_give} {failed_of = failed_of} p' q' {s = s} {t = t} {r = r} within keeps h = record {
  stands = λ x a free. let y = within x a in y.after (h.stands y.part y.before (λ b c hb gc e. free b c (y.hashed b hb) gc e));
  malformed = λ m x a free. let y = within x a in h.malformed m y.part y.before (λ b c hb gc e. free b c (y.hashed b hb) gc e);
  failed = λ x a free. let y = within x a in
      err_weaker r (FailedAt (Hashed y.part) (failed_of t)) (FailedAt (Hashed' x) (failed_of t)) (λ e there failure. let z = there failure in (z.0, y.hashed z.0 z.1, z.2)) (h.failed y.part y.before (λ b c hb gc e. free b c (y.hashed b hb) gc e));
  refused = h.refused;
  keeps = keeps;
  no_more = h.no_more;
  follows = h.follows;
}

-- ---- an item that is got

-- the item with the digest is hashed for x, is the one that `Is x` says, and spells something
pub record HasItem {X A : Type 0} (Hashed : X → List ℕ → Type 0) (Is : X → List ℕ → Type 0) (Spells : A → List ℕ → Type 0) (digest : List ℕ) (x : X) : Type 0 where
  pub item : List ℕ
  pub is : Is x item
  pub hashed : Hashed x item
  pub digested : sha256 item ≡ digest
  pub value : A
  pub spelled : Spells value item

module _ {P X S A : Type 0} {Stands : P → X → Type 0} {Hashed : X → List ℕ → Type 0} {Keeps : P → P → Type 0} {may_give : S → List ℕ → Type 0} {failed_of : S → Failures} {comes : S → S → Type 0} {Spells : A → List ℕ → Type 0} {digest : List ℕ} {s t : S} {r : Result A Refusal}
    (Is : X → List ℕ → Type 0) (p : P) (there : (x : X) → Stands p x → HasItem Hashed Is Spells digest x) (h : Gets may_give failed_of comes Spells digest s t r) where
  pub none_got : {B : Type 0} {z : Result B Refusal} (e : Refusal) → r ≡ Err e → z ≡ Err e → Keeps p p → Loads Stands Hashed Keeps may_give failed_of comes p p s t z
  none_got {B} {z} e is to keeps = record {
    stands = λ x a free. a;
    malformed = λ m x a free.
        let y = there x a in
        let g = h.malformed (is ∙ ap Err (same_err z e (Malformed 0) to m)) in
        let same : y.item ≡ g.0 = free y.item g.0 y.hashed g.1 (y.digested ∙ sym g.2) in
        g.3 y.value (subst (Spells y.value) same y.spelled);
    failed = λ x a free.
        let y = there x a in
        err_is z e (FailedAt (Hashed x) (failed_of t)) to
        (λ failure. (y.item, y.hashed, err_of r e (λ f. IsTrue (is_failure f) → (failed_of t).last ≡ Some digest) is h.failed failure ∙ ap Some (sym y.digested)));
    refused = err_is z e IsLoadRefusal to (err_of r e IsLoadRefusal is h.refused);
    keeps = keeps;
    no_more = h.no_more;
    follows = h.follows;
  }

  pub item_got : {B : Type 0} (q : P) (a : A) (z : Result B Refusal) → r ≡ Ok a → IfErr z (λ e. e ≡ NoMemory) → Keeps p q → ((x : X) → Stands p x → (i : List ℕ) → Is x i → Spells a i → Stands q x)
      → Loads Stands Hashed Keeps may_give failed_of comes p q s t z
  item_got q a z is unless keeps after = record {
    stands = λ x b free.
        let y = there x b in
        let g = subst (λ w. IfOk w (λ v. (i : List ℕ) × may_give s i × (sha256 i ≡ digest) × Spells v i)) is h.got in
        let same : y.item ≡ g.0 = free y.item g.0 y.hashed g.1 (y.digested ∙ sym g.2) in
        after x b y.item y.is (subst (Spells a) (sym same) g.3);
    malformed = λ e x b free. absurd (let m : Malformed 0 ≡ NoMemory = err_of z (Malformed 0) (λ y. y ≡ NoMemory) e unless in cc);
    failed = λ x b free. err_weaker z (λ y. y ≡ NoMemory) (FailedAt (Hashed x) (failed_of t)) (λ y n. no_failure (Hashed x) (failed_of t) y (ap is_failure n)) unless;
    refused = err_weaker z (λ y. y ≡ NoMemory) IsLoadRefusal no_memory unless;
    keeps = keeps;
    no_more = h.no_more;
    follows = h.follows;
  }

-- what a source that is asked tells
pub failed_get : {A : Type 0} (r : Result A Refusal) (d : List ℕ) (f g : Failures) → g ≡ failures_after r d f → IfErr r (λ e. IsTrue (is_failure e) → g.last ≡ Some d)
failed_get (Ok a) d f g is = tt
failed_get (Err e) d f g is = λ failure. ap (λ y. y.last) (is ∙ ap (λ b. cond b (one_more f d) f) failure)

pub refused_get : (e : Refusal) → (e ≡ MissingBlock) ⊎ (e ≡ WrongBlock) ⊎ (e ≡ SourceFailed) ⊎ (e ≡ NoMemory) → IsLoadRefusal e
refused_get e (inl h) = inl h
refused_get e (inr (inl h)) = inr (inl h)
refused_get e (inr (inr (inl h))) = inr (inr (inl h))
refused_get e (inr (inr (inr h))) = inr (inr (inr (inl h)))
