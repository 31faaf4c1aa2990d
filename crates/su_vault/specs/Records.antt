-- What becomes of the records that something holds, and of those that it found.
use Rattle.std.specs.Prelude.{◌≡◌, ℕ, List, [], ◌∷◌, ◌++◌, map, Option}
use Rattle.std.specs.Global.{Vec}
use Rattle.su_keeper.specs.Kept.{KeptRecord, LeavesFound, first_found}

-- a record with the items that came with it
abbrev pub kept_with : List ℕ → List (Vec ℕ) → KeptRecord
kept_with commit items = record { commit = commit; items = map (λ item. item.items) items }

-- a record that was found: nothing is said of the items that it needs
abbrev pub found_alone : List ℕ → KeptRecord
found_alone commit = record { commit = commit; items = [] }

abbrev pub commits_of : List KeptRecord → List (List ℕ)
commits_of records = map (λ r. r.commit) records

-- an item more lies under its digest, beside what each of these records came with
abbrev pub with_item : List ℕ → List KeptRecord → List KeptRecord
with_item item records =
    map (λ r. record { commit = r.commit; items = item ∷ r.items }) records

-- whatever the old one holds, the new one holds
abbrev pub KeepsRecords : {X R : Type 0} → (X → List R → Type 0) → X → X → Type 0
KeepsRecords {X} {R} holds old new = (records : List R) → holds old records → holds new records

-- whatever the old one holds, the new one holds with this record behind it
abbrev pub AddsRecord : {X R : Type 0} → (X → List R → Type 0) → X → X → R → Type 0
AddsRecord {X} {R} holds old new added =
    (records : List R) → holds old records → holds new (records ++ added ∷ [])

-- whatever the old one holds, the new one holds but for the last record
abbrev pub LeavesLast : {X R : Type 0} → (X → List R → Type 0) → X → X → Type 0
LeavesLast {X} {R} holds old new =
    (records : List R) (last : R) → holds old (records ++ last ∷ []) → holds new records

-- What it found is told as long as no wrong answer was taken as true. If none was up to the new one,
-- none was up to the old one; and what that found, the new one found.
abbrev pub KeepsFound : {X : Type 0} → (X → Type 0) → (X → List (List ℕ) → Type 0) → X → X → Type 0
KeepsFound is_clean finds old new =
    is_clean new → is_clean old × ((rest : List (List ℕ)) → finds old rest → finds new rest)

-- this is the first of those that it found, or there is none
abbrev pub FindsNext : {X : Type 0} → (X → Type 0) → (X → List (List ℕ) → Type 0) → X → Option (List ℕ)
    → X → Type 0
FindsNext is_clean finds old next new =
    is_clean new → is_clean old × ((rest : List (List ℕ)) → finds old rest
    → (next ≡ first_found rest) × finds new rest)

-- the first of those that it found is kept anew, or behind all of them another one
abbrev pub TakesFound : {X : Type 0} → (X → Type 0) → (X → List (List ℕ) → Type 0) → X → List ℕ → X
    → Type 0
TakesFound is_clean finds old commit new =
    is_clean new → is_clean old × ((rest : List (List ℕ)) → finds old rest
    → LeavesFound finds commit rest new)
