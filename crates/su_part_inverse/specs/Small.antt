-- What is small of an inverse, in bytes: names and pointers that are brought back, sizes, and what is
-- reset.
use Rattle.std.specs.Prelude.{◌≡◌, ℕ, ◌<◌, ◌^◌, true, List, ◌∷◌, ◌++◌, length, Result, IfOk, IfErr}
use Rattle.std.specs.List.{AllByRecursion}
use Rattle.su_bytes.specs.Principal.{is_user}
use Rattle.su_bytes.specs.FileId.{is_inum, is_file_id, file_id_bytes}
use Rattle.su_bytes.specs.Place.{Place}
use Rattle.su_bytes.specs.declared.refusals.Refusal.{Refusal}
use Rattle.su_bytes.specs.declared.refusals.Refusal.TheVariants.{NoMemory}
use Rattle.su_format.specs.Part.{u8_bytes, u32_bytes}
use Rattle.su_kept_areas.specs.Spelling.{IsArea, area_bytes, place_bytes}
use Rattle.su_inverse.specs.declared.contents.KeptSize.{KeptSize}
use Rattle.su_inverse.specs.declared.resets.Reset.{Reset}
use Rattle.su_inverse.specs.declared.resets.Reset.TheVariants.{Nothing as NothingReset, Links as LinksReset}
use Rattle.su_part_inverse.specs.Kept.{return_area}
use Rattle.su_part_inverse.specs.declared.returns.Return.{Return}
use Rattle.su_part_inverse.specs.declared.returns.Return.TheVariants.{Name as NameReturn, Pointer as PointerReturn}

-- ---- spellings

-- where it led
abbrev pub led_bytes : Return → List ℕ
led_bytes (NameReturn p x f) = file_id_bytes f
led_bytes (PointerReturn g p) = place_bytes p

-- its area, and where that led
abbrev pub return_bytes : Return → List ℕ
return_bytes r = area_bytes (return_area r) ++ led_bytes r

-- the place of the file, and how many bytes it had
abbrev pub size_bytes : KeptSize → List ℕ
size_bytes k = place_bytes k.place ++ u32_bytes k.size

-- 0 and the area in which nothing was; or 1, the place, and how many links it had
abbrev pub reset_bytes : Reset → List ℕ
reset_bytes (NothingReset a) = 0 ∷ area_bytes a
reset_bytes (LinksReset p n) = 1 ∷ (place_bytes p ++ u8_bytes n)

-- ---- what a program can hold: numbers and names in their ranges, as the types of the code have it

abbrev pub IsPlace : Place → Type 0
IsPlace p = (is_user p.0 ≡ true) × (is_inum p.1 ≡ true)

abbrev pub IsLed : Return → Type 0
IsLed (NameReturn p x f) = is_file_id f ≡ true
IsLed (PointerReturn g p) = IsPlace p

abbrev pub IsReturn : Return → Type 0
IsReturn r = IsArea (return_area r) × IsLed r

abbrev pub IsSize : KeptSize → Type 0
IsSize k = IsPlace k.place × (k.size < 2 ^ 32)

abbrev pub IsReset : Reset → Type 0
IsReset (NothingReset a) = IsArea a
IsReset (LinksReset p n) = IsPlace p × (n < 256)

-- ---- what is spelled so is read

-- the bytes begin with the spelling of one of these values, and the rest comes behind
pub record BeginWith {A : Type 0} (Is : A → Type 0) (spelling : A → List ℕ) (bytes : List ℕ) (a : A)
    (rest : List ℕ) : Type 0 where
  pub is : Is a
  pub spelled : bytes ≡ spelling a ++ rest

-- Of bytes of which these are left now, r came of reading one of these values: where the bytes begin
-- with one, it is that one, and the rest is left; or there is no room for it.
pub record Reads {A : Type 0} (Is : A → Type 0) (spelling : A → List ℕ) (bytes : List ℕ)
    (r : Result A Refusal) (left : List ℕ) : Type 0 where
  pub value : (a : A) (rest : List ℕ) → BeginWith Is spelling bytes a rest
      → IfOk r (λ b. (b ≡ a) × (left ≡ rest))
  pub refused : (a : A) (rest : List ℕ) → BeginWith Is spelling bytes a rest
      → IfErr r (λ e. e ≡ NoMemory)

-- so many of these values, which are spelled one after another
pub record AreMany {A : Type 0} (Is : A → Type 0) (count : ℕ) (all : List A) : Type 0 where
  pub are : AllByRecursion Is all
  pub number : length all ≡ count
