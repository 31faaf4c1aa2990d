-- A page of notes: where items lie, as bytes.
use Rattle.std.specs.Prelude.{◌≡◌, ℕ, ◌<◌, ◌^◌, List, [], ◌∷◌, ◌++◌, length, Option, Some, None, IfSome, if◌then◌else◌}
use Rattle.std.specs.List.{flat_map, AllByRecursion}
use Rattle.std.specs.Str.{bytes_eq}
use Rattle.su_format.specs.Part.{u8_bytes, u32_bytes, u64_bytes}
use Rattle.su_scratch.specs.declared.notes.Place.{Place}
use Rattle.su_scratch.specs.declared.notes.Note.{Note}
use Rattle.su_scratch.specs.declared.pages.TheConstants.{NOTES_OF_A_PAGE}

-- a note has 44 bytes: the digest, where the item lies, how many bytes it has
abbrev pub note_bytes : Note → List ℕ
note_bytes n = (n.digest ++ u64_bytes n.place.first) ++ u32_bytes n.place.count

-- where the page before it lies: 1 and the place, and nine times 0 where there is none, so that
-- 1 ∷ 0 ∷ 0 ∷ 0 ∷ 0 ∷ 0 ∷ 0 ∷ 1 ∷ 4 ∷ [] stands for the page at 260
abbrev pub older_bytes : Option ℕ → List ℕ
older_bytes None = u8_bytes 0 ++ u64_bytes 0
older_bytes (Some place) = u8_bytes 1 ++ u64_bytes place

-- a page: where the page before it lies, and its notes, the last one behind
abbrev pub page_bytes : Option ℕ → List Note → List ℕ
page_bytes older notes = older_bytes older ++ flat_map note_bytes notes

-- what a page can tell: its numbers fit, and a digest has 32 bytes
pub record IsNote (n : Note) : Type 0 where
  pub digest : length n.digest ≡ 32
  pub first : n.place.first < 2 ^ 64
  pub count : n.place.count < 2 ^ 32

pub record IsPage (older : Option ℕ) (notes : List Note) : Type 0 where
  pub older_fits : IfSome older (λ place. place < 2 ^ 64)
  pub each : AllByRecursion IsNote notes
  pub full : length notes ≡ NOTES_OF_A_PAGE

-- where the item of a digest lies by the last of these notes that is about it; else by what was
-- found before them
abbrev pub later : List ℕ → Option Place → List Note → Option Place
later digest found [] = found
later digest found (n ∷ notes) =
    later digest (if bytes_eq digest n.digest then Some n.place else found) notes

abbrev pub place_in : List ℕ → List Note → Option Place
place_in digest notes = later digest None notes
