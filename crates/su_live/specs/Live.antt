-- Live operations in the order of their numbers, and their index.
use Rattle.std.specs.Prelude.{◌≡◌, ℕ, ◌<◌, ◌^◌, Bool, false, cond, ◌&&◌, ◌||◌, List, [], ◌∷◌, map, Box, Option, None, Some, nat_eq, nat_le, nat_lt, ⊤}
use Rattle.std.specs.Option.{option_or}
use Rattle.std.specs.List.{AllByRecursion}
use Rattle.std.specs.BTreeSet.{BTreeSet}
use Rattle.std.specs.Map.{values_of}
use Rattle.su_op.specs.declared.areas.Area.{Area}
use Rattle.su_op.specs.Area.{meet}
use Rattle.su_live.specs.declared.readers.Reader.{Reader}
use Rattle.su_live.specs.declared.operations.LiveOperation.{LiveOperation}
use Rattle.su_live.specs.Readers.{has_reader, reads_by}

module _ {I : Type 0} where
  -- ---- lists of operations

  -- their numbers
  abbrev pub numbers_of : List (LiveOperation I) → List ℕ
  numbers_of ks = map (λ (k : LiveOperation I). k.number) ks

  -- the operation of number n
  abbrev pub find_live : ℕ → List (LiveOperation I) → Option (LiveOperation I)
  find_live n [] = None
  find_live n (k ∷ ks) = cond (nat_eq k.number n) (Some k) (find_live n ks)

  -- without the operation of number n
  abbrev pub without : ℕ → List (LiveOperation I) → List (LiveOperation I)
  without n [] = []
  without n (k ∷ ks) = cond (nat_eq k.number n) ks (k ∷ without n ks)

  -- with one more operation, in front of the first that has a greater number
  abbrev pub insert_live : LiveOperation I → List (LiveOperation I) → List (LiveOperation I)
  insert_live k [] = k ∷ []
  insert_live k (j ∷ js) = cond (nat_lt k.number j.number) (k ∷ j ∷ js) (j ∷ insert_live k js)

  -- the first operation of number n or a greater one
  abbrev pub first_from : ℕ → List (LiveOperation I) → Option (LiveOperation I)
  first_from n [] = None
  first_from n (k ∷ ks) = cond (nat_le n k.number) (Some k) (first_from n ks)

  -- with another inverse of operation n
  abbrev pub with_inverse : ℕ → I → List (LiveOperation I) → List (LiveOperation I)
  with_inverse n i [] = []
  with_inverse n i (k ∷ ks) =
      cond (nat_eq k.number n) (record k { inverse = i } ∷ ks) (k ∷ with_inverse n i ks)

  -- with an operation in the place of the one of its number
  abbrev pub put_live : LiveOperation I → List (LiveOperation I) → List (LiveOperation I)
  put_live k [] = []
  put_live k (j ∷ js) = cond (nat_eq j.number k.number) (k ∷ js) (j ∷ put_live k js)

  -- without those from number n on
  abbrev pub cut_live : ℕ → List (LiveOperation I) → List (LiveOperation I)
  cut_live n [] = []
  cut_live n (k ∷ ks) = cond (nat_le n k.number) [] (k ∷ cut_live n ks)

  -- with an operation in the place of the one of its number, and of all behind that one
  abbrev pub join_live : LiveOperation I → List (LiveOperation I) → List (LiveOperation I)
  join_live k [] = []
  join_live k (j ∷ js) = cond (nat_eq j.number k.number) (k ∷ []) (j ∷ join_live k js)

  -- the number of the last operation that read a cell of the areas
  abbrev pub last_reader : List Area → List (LiveOperation I) → Option ℕ
  last_reader w [] = None
  last_reader w (k ∷ ks) =
      option_or (last_reader w ks) (cond (meet k.footprint.reads.items w) (Some k.number) None)

  -- of operation n: the number of the last one behind it that read a cell that it wrote
  abbrev pub live_blocker : ℕ → List (LiveOperation I) → Option ℕ
  live_blocker n [] = None
  live_blocker n (k ∷ ks) =
      cond (nat_eq k.number n) (last_reader k.footprint.writes.items ks) (live_blocker n ks)

  -- each number is below those behind it
  abbrev pub Ascend : List (LiveOperation I) → Type 0
  Ascend [] = ⊤
  Ascend (k ∷ ks) = AllByRecursion (λ (j : LiveOperation I). k.number < j.number) ks × Ascend ks

  -- each number fits 32 bits
  abbrev pub AreSmall : List (LiveOperation I) → Type 0
  AreSmall ks = AllByRecursion (λ (k : LiveOperation I). k.number < 2 ^ 32) ks

  -- ---- the index

  -- n is the number of an operation of these, and m a mark of what it reads
  abbrev pub is_entered : List (LiveOperation I) → ℕ → ℕ → Bool
  is_entered [] m n = false
  is_entered (k ∷ ks) m n = reads_by k.number k.footprint m n || is_entered ks m n

  -- n is the number of an operation of these, which reads a cell of the areas
  abbrev pub reads_at : List Area → List (LiveOperation I) → ℕ → Bool
  reads_at w [] n = false
  reads_at w (k ∷ ks) n = (nat_eq n k.number && meet k.footprint.reads.items w) || reads_at w ks n

  -- each with its number
  abbrev pub entries_of : List (LiveOperation I) → List (ℕ × LiveOperation I)
  entries_of ks = map (λ (k : LiveOperation I). (k.number, k)) ks

  -- each with its number, out of its box
  abbrev pub unboxed : {Z : Type 0} → List (ℕ × Box (LiveOperation I) Z) → List (ℕ × LiveOperation I)
  unboxed es = map (λ e. (e.0, e.1.value)) es

  -- the index has each operation of a greater number than n under the marks of what it reads
  abbrev pub HasAbove : ℕ → List (LiveOperation I) → BTreeSet Reader → Type 0
  HasAbove n ks s = (m q : ℕ) → n < q → has_reader s m q ≡ is_entered ks m q

  -- The operations stand by their numbers. The index has each under the marks of what it reads, but those up
  -- to the number `scanned`, and nothing else.
  pub record IsIndexed (operations : List (ℕ × LiveOperation I)) (readers : BTreeSet Reader) (scanned : ℕ) : Type 0 where
    pub keyed : operations ≡ entries_of (values_of operations)
    pub ascend : Ascend (values_of operations)
    pub small : AreSmall (values_of operations)
    pub entered : (m n : ℕ) → has_reader readers m n ≡ (nat_lt scanned n && is_entered (values_of operations) m n)
