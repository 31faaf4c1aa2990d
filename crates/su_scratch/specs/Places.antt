-- Where items lie, by their digests.
use Rattle.std.specs.Prelude.{ℕ, List, [], Option, None, slice_index_or, reverse}
use Rattle.std.specs.Map.{lookup}
use Rattle.std.specs.Str.{bytes_eq}
use Rattle.su_scratch.specs.declared.notes.Place.{Place}
use Rattle.su_scratch.specs.Bucket.{InMemory, Finds}

-- all notes that were made, the last one behind, and what is in memory of them
pub record Noted : Type 0 where
  pub noted : List (List ℕ × Place)
  pub buckets : List InMemory

-- where the item of a digest lies by the last note that is about it
abbrev pub place_under : List (List ℕ × Place) → List ℕ → Option Place
place_under noted digest = lookup (bytes_eq digest) (reverse noted)

abbrev pub no_notes : InMemory
no_notes = record { notes = []; page = None }

abbrev pub bucket_at : List InMemory → ℕ → InMemory
bucket_at buckets i = slice_index_or buckets i no_notes

-- each bucket finds in memory and in what was written just what was noted
abbrev pub AreHeld : List ℕ → Noted → Type 0
AreHeld written places =
    (i : ℕ) → Finds i written (bucket_at places.buckets i) (place_under places.noted)

-- the scratch gives back what was written, and has what was noted
abbrev pub IsSound : {F : Type 0} → (F → Type 0) → (F → List ℕ) → F → Noted → Type 0
IsSound keeps written scratch places = keeps scratch × AreHeld (written scratch) places
