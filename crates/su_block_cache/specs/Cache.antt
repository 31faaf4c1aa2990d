-- A source, and what is kept of its items.
use Rattle.std.specs.Prelude.{◌≡◌, ◌⊎◌, Bool, true, ℕ, List, Contains}
use Rattle.std.specs.Map.{values_of}
use Rattle.su_block.specs.Memory.{AreUnderTheirDigests}
use Rattle.su_block_cache.specs.Kept.{Kept, Items, IsWithin}

-- a source, the items that are kept of what it gave and took, and the most that may be kept
pub record Cache (S : Type 0) : Type 0 where
  pub source : S
  pub kept : Items
  pub capacity : ℕ

-- what may be given: what the source may give, and what is kept
abbrev pub MayGive : {S : Type 0} → (S → List ℕ → Type 0) → Cache S → List ℕ → Type 0
MayGive SourceMayGive cache item =
    SourceMayGive cache.source item ⊎ Contains (values_of cache.kept) item

-- No more are kept than may be; and where the source is checked, each is under its SHA-256.
pub record IsKept (is_checked : Bool) (kept : Kept) : Type 0 where
  pub within : IsWithin kept.items kept.capacity
  pub digests : is_checked ≡ true → AreUnderTheirDigests kept.items
