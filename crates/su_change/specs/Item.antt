-- The item of a change: its bytes, by which it is stored, and whose digest names it. (This
-- project's own format.)
use Rattle.std.specs.Prelude.{◌≡◌, ◌+◌, ◌≤◌, ◌<◌, ◌^◌, ◌⊎◌, ℕ, List, [], ◌∷◌, ◌++◌, length, map}
use Rattle.std.specs.List.{AllByRecursion}
use Rattle.sha2.specs.Sha256.{sha256}
use Rattle.su_op.specs.declared.operations.Op.{Op}
use Rattle.su_op.specs.declared.operations.Change.{Change}
use Rattle.su_op.specs.declared.operations.Change.TheVariants.{Do, Undo, Rekey}
use Rattle.su_format.specs.Format.{Format, making, ◌>>=◌}
use Rattle.su_format.specs.Part.{u64_bytes, u64_part, mark_part}
use Rattle.su_change.specs.Kinds.{one_of}
use Rattle.su_change.specs.Operation.{IsOp, CanBeSpelled, op_bytes, op_kinds}
use Rattle.su_change.specs.Batch.{CanAllBeSpelled, batch_bytes, batch_fields}
use Rattle.su_change.specs.Rekey.{IsKey, rekey_fields}
use Rattle.su_change.specs.declared.decoder.TheConstants.{LONGEST_ITEM}

-- bytes of one item
abbrev pub longest_item : ℕ
longest_item = LONGEST_ITEM

-- each number, name and key of a change is in its range, as the types of the code have it
abbrev pub IsChange : Change → Type 0
IsChange (Undo n) = n < 2 ^ 64
IsChange (Do ops) = AllByRecursion IsOp ops
IsChange (Rekey k) = IsKey k

-- ---- its bytes

-- the number of its kind, and its fields: an operation alone has its own; several have 10, how many
-- there are, and these; an undo has the number of the operation, and a rekey the key
abbrev pub tagged_bytes : Change → List ℕ
tagged_bytes (Undo n) = 0 ∷ u64_bytes n
tagged_bytes (Do (op ∷ [])) = op_bytes op
tagged_bytes (Do ops) = 10 ∷ batch_bytes ops
tagged_bytes (Rekey k) = 9 ∷ k

-- the first byte of a change's item, which is that of no other item that is stored
abbrev pub first_byte : List ℕ
first_byte = 5 ∷ []

-- an item: the first byte, the number of the kind, and the fields
unfoldable pub item_bytes : Change → List ℕ
item_bytes c = first_byte ++ tagged_bytes c

-- the SHA-256 of its item
abbrev pub change_digest : Change → List ℕ
change_digest c = sha256 (item_bytes c)

-- ---- which changes have one

-- A change has a spelling, in however many bytes, where it is an undo or a rekey, one operation
-- that can be spelled, or several that all can be.
abbrev pub HasSpelling : Change → Type 0
HasSpelling (Do []) = ⊥
HasSpelling (Do (op ∷ [])) = CanBeSpelled op
HasSpelling (Do (op ∷ next ∷ ops)) = CanAllBeSpelled (op ∷ next ∷ ops)
HasSpelling _ = Unit {0}

-- A change has an item where it has a spelling, in 70,000 bytes at most: only that of several
-- operations can be longer.
abbrev pub HasItem : Change → Type 0
HasItem (Do (op ∷ next ∷ ops)) =
    HasSpelling (Do (op ∷ next ∷ ops))
    × (length (item_bytes (Do (op ∷ next ∷ ops))) ≤ longest_item)
HasItem c = HasSpelling c

-- It is several operations whose spelling is longer.
abbrev pub IsTooLong : Change → Type 0
IsTooLong (Do (op ∷ next ∷ ops)) =
    HasSpelling (Do (op ∷ next ∷ ops))
    × (longest_item < length (item_bytes (Do (op ∷ next ∷ ops))))
IsTooLong _ = ⊥

-- ---- its parts

-- the field of an undo, and the change that it makes
abbrev pub undo_fields : Format Change
undo_fields = u64_part >>= λ n. making (Undo n)

-- the fields of a kind of operation, and the change that is this one operation
abbrev pub alone_fields : Format Op → Format Change
alone_fields fields = fields >>= λ op. making (Do (op ∷ []))

-- each kind of operation as a kind of change, with the same number
abbrev pub alone_kinds : List (ℕ × Format Op) → List (ℕ × Format Change)
alone_kinds kinds = map (λ kind. (kind.0, alone_fields kind.1)) kinds

-- the number of each kind of change, and its fields
abbrev pub kinds : List (ℕ × Format Change)
kinds =
    (0, undo_fields)
    ∷ (alone_kinds op_kinds
    ++ (9, rekey_fields)
    ∷ (10, batch_fields)
    ∷ [])

-- the number of a kind, and the fields of that kind
unfoldable pub tagged_format : Format Change
tagged_format = one_of kinds

-- a value in so many bytes at most; one in more is refused at its first byte
unfoldable pub within : {A : Type 0} → ℕ → Format A → Format A
within most f = record {
  Begins = λ bytes a rest. f.Begins bytes a rest × (length bytes ≤ most + length rest);
  Fails = λ bytes rest. f.Fails bytes rest
      ⊎ ((rest ≡ bytes)
      × ((a : _) × (behind : List ℕ)
      × f.Begins bytes a behind × (most + length behind < length bytes)));
}

-- the first byte, the number of a kind, and its fields
unfoldable pub marked_format : Format Change
marked_format = do
  mark ← mark_part first_byte
  tagged_format

-- an item: these, in 70,000 bytes at most
unfoldable pub item_format : Format Change
item_format = within longest_item marked_format
