-- What a bucket has of notes, and what its pages in a scratch tell.
use Rattle.std.specs.Prelude.{◌≡◌, ℕ, ◌+◌, ◌*◌, ◌/◌, ◌<◌, ◌^◌, ◌++◌, List, [], ◌∷◌, Option, Some, None, IfSome, slice_index, if◌then◌else◌}
use Rattle.std.specs.List.{AllByRecursion}
use Rattle.std.specs.Str.{bytes_eq}
use Rattle.su_scratch.specs.declared.notes.Place.{Place}
use Rattle.su_scratch.specs.declared.notes.Note.{Note}
use Rattle.su_scratch.specs.Written.{LiesAt}
use Rattle.su_scratch.specs.Page.{page_bytes, later, IsNote, IsPage}

-- the number of a digest's bucket: its first 12 bits; of 18 ∷ 52 ∷ .., in hexadecimal 12 34 .., it is
-- 291, which is 123
abbrev pub bucket_of : List ℕ → ℕ
bucket_of digest = slice_index digest 0 * 16 + slice_index digest 1 / 16

-- what is in memory: the notes that no page has, and where the newest page lies
pub record InMemory : Type 0 where
  pub notes : List Note
  pub page : Option ℕ

-- pages, the newest first: where each lies, and its notes
abbrev pub Pages : Type 0
Pages = List (ℕ × List Note)

abbrev pub newest_of : Pages → Option ℕ
newest_of [] = None
newest_of (page ∷ older) = Some page.0

-- a page lies there; the page before it lies further in front
pub record IsPageAt (written : List ℕ) (place : ℕ) (older : Option ℕ) (notes : List Note) : Type 0 where
  pub lies : LiesAt written place (page_bytes older notes)
  pub page : IsPage older notes
  pub place_fits : place < 2 ^ 64
  pub descends : IfSome older (λ before. before < place)

abbrev pub AreWritten : List ℕ → Pages → Type 0
AreWritten written [] = Unit {0}
AreWritten written (page ∷ older) =
    IsPageAt written page.0 (newest_of older) page.1 × AreWritten written older

-- where the item of a digest lies by the last note on these pages that is about it
abbrev pub found_on : List ℕ → Pages → Option Place
found_on digest [] = None
found_on digest (page ∷ older) = later digest (found_on digest older) page.1

-- bucket i finds in memory and on its pages where the item of each digest of its own lies
pub record Finds (i : ℕ) (written : List ℕ) (b : InMemory) (found : List ℕ → Option Place) : Type 0 where
  pub pages : Pages
  pub newest : b.page ≡ newest_of pages
  pub are_written : AreWritten written pages
  pub notes : AllByRecursion IsNote b.notes
  pub each : (digest : List ℕ) → bucket_of digest ≡ i
      → found digest ≡ later digest (found_on digest pages) b.notes

-- the same with one note more
abbrev pub found_with : (List ℕ → Option Place) → Note → List ℕ → Option Place
found_with found n digest = if bytes_eq digest n.digest then Some n.place else found digest

-- something may have been written behind it
abbrev pub Grows : List ℕ → List ℕ → Type 0
Grows old new = (more : List ℕ) × (new ≡ old ++ more)
