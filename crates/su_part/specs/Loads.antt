-- What a load from a store tells, of whatever may be left there.
use Rattle.std.specs.Prelude.{◌≡◌, ℕ, List, Some, IsTrue, Result, Err, IfOk, IfErr}
use Rattle.sha2.specs.Sha256.{sha256}
use Rattle.su_bytes.specs.declared.refusals.Refusal.{Refusal}
use Rattle.su_bytes.specs.declared.refusals.Refusal.TheVariants.{Malformed}
use Rattle.su_block.specs.declared.failures.Failures.{Failures}
use Rattle.su_block.specs.Failure.{is_failure}
use Rattle.su_part_tree.specs.Loading.{IsLoadRefusal}
use Rattle.su_part.specs.Bytes.{NoneClash}

-- Where the refusal is a failure of the source, the newest of its failures was about a byte string
-- that meets Q.
abbrev pub FailedAt : (List ℕ → Type 0) → Failures → Refusal → Type 0
FailedAt Q failures e =
    IsTrue (is_failure e) → (s : List ℕ) × Q s × (failures.last ≡ Some (sha256 s))

-- What a load tells of the part p, which it made q, and of the source s, which it made t, when it
-- answered r. A part may stand for each x with `Stands p x`, for which the byte strings of
-- `Hashed x` are hashed; `Keeps p q` says that what is loaded of p is loaded of q. The others say
-- what the source may give, its failures, and what may become of it by calls.
pub record Loads {P X S A : Type 0}
    (Stands : P → X → Type 0) (Hashed : X → List ℕ → Type 0) (Keeps : P → P → Type 0)
    (may_give : S → List ℕ → Type 0) (failed_of : S → Failures) (comes : S → S → Type 0)
    (p q : P) (s t : S) (r : Result A Refusal) : Type 0 where
  -- whatever is answered, it stands for what it stood for
  pub stands : (x : X) → Stands p x → NoneClash (Hashed x) (may_give s) → Stands q x
  -- no item is refused as malformed
  pub malformed : r ≡ Err (Malformed 0)
      → (x : X) → Stands p x → NoneClash (Hashed x) (may_give s) → ⊥
  -- a failure of the source was about an item of it
  pub failed : (x : X) → Stands p x → NoneClash (Hashed x) (may_give s)
      → IfErr r (FailedAt (Hashed x) (failed_of t))
  pub refused : IfErr r IsLoadRefusal
  -- what was loaded is loaded
  pub keeps : Keeps p q
  pub no_more : (i : List ℕ) → may_give t i → may_give s i
  pub follows : comes s t

-- What asking the source s, which became t, for the item of a digest tells, when it was answered by
-- r: what the item spells, if it spells something.
pub record Gets {S A : Type 0}
    (may_give : S → List ℕ → Type 0) (failed_of : S → Failures) (comes : S → S → Type 0)
    (Spells : A → List ℕ → Type 0) (digest : List ℕ)
    (s t : S) (r : Result A Refusal) : Type 0 where
  pub got : IfOk r (λ a. (i : List ℕ) × may_give s i × (sha256 i ≡ digest) × Spells a i)
  pub malformed : r ≡ Err (Malformed 0)
      → (i : List ℕ) × may_give s i × (sha256 i ≡ digest) × ((a : A) → ¬ (Spells a i))
  pub failed : IfErr r (λ e. IsTrue (is_failure e) → (failed_of t).last ≡ Some digest)
  pub refused : IfErr r IsLoadRefusal
  pub no_more : (i : List ℕ) → may_give t i → may_give s i
  pub follows : comes s t
