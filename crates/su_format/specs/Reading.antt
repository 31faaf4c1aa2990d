-- Reading values one after another.
use Rattle.std.specs.Prelude.{◌≡◌, ℕ, ◌+◌, ◌⊎◌, List, Result, Ok, Err, length, []}
use Rattle.su_bytes.specs.declared.refusals.Refusal.{Refusal}
use Rattle.su_bytes.specs.declared.refusals.Refusal.TheVariants.{Malformed, NoMemory}
use Rattle.su_format.specs.Format.{Format, whole}

-- how many bytes were taken, and those that are left
pub record Reading : Type 0 where
  pub place : ℕ
  pub left : List ℕ

-- where a part that begins these bytes begins, counted from the first byte of all
abbrev pub IsPlaceOf : Reading → ℕ → List ℕ → Type 0
IsPlaceOf r place bytes = place + length bytes ≡ r.place + length r.left

-- a value of the format was taken
pub record Took {A : Type 0} (f : Format A) (old : Reading) (a : A) (new : Reading) : Type 0 where
  pub spelled : f.Begins old.left a new.left
  pub place : IsPlaceOf old new.place new.left

-- none could be: the refusal names the first byte of the part that isn't there
pub record IsRefusedAt {A : Type 0} (f : Format A) (old : Reading) (place : ℕ) : Type 0 where
  pub behind : List ℕ
  pub fails : f.Fails old.left behind
  pub place_is : IsPlaceOf old place behind

-- a value of the format is refused so; or there is no room for it
abbrev pub Refuses : {A : Type 0} → Format A → Reading → Refusal → Type 0
Refuses f old e = (e ≡ NoMemory) ⊎ ((place : ℕ) × (e ≡ Malformed place) × IsRefusedAt f old place)

-- what comes of taking a value of the format
abbrev pub Takes : {A : Type 0} → Format A → Reading → Result A Refusal → Reading → Type 0
Takes f old (Ok a) new = Took f old a new
Takes f old (Err e) new = Refuses f old e

-- a reader of these bytes, of which none was taken
abbrev pub start : List ℕ → Reading
start bytes = record { place = 0; left = bytes }

-- what comes of reading bytes as one value
abbrev pub Decodes : {A : Type 0} → Format A → List ℕ → Result A Refusal → Type 0
Decodes f bytes (Ok a) = f.Begins bytes a []
Decodes f bytes (Err e) = Refuses (whole f) (start bytes) e
