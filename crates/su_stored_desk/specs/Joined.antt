-- Operations of a user that were made one by one behind a history, and are joined into one entry.
use Rattle.std.specs.Prelude.{◌≡◌, ℕ, ◌+◌, zero, suc, true, Option, None, Some, List, [], ◌∷◌, ◌++◌, map}
use Rattle.std.specs.List.{AllByRecursion}
use Rattle.su_bytes.specs.Format.{is_as_new}
use Rattle.su_bytes.specs.declared.formats.Format.{Format}
use Rattle.su_table.specs.Cell.{Cell}
use Rattle.su_op.specs.declared.areas.Area.{Area}
use Rattle.su_op.specs.declared.footprints.Footprint.{Footprint}
use Rattle.su_op.specs.declared.operations.Op.{Op}
use Rattle.su_op.specs.declared.operations.Change.TheVariants.{Do}
use Rattle.su_op.specs.Action.{oldest_format}
use Rattle.su_op.specs.Area.{has}
use Rattle.su_op.specs.Batch.{action_by, reads, writes}
use Rattle.su_part_inverse.specs.declared.inverses.Inverse.{Inverse}
use Rattle.su_part_inverse.specs.Kept.{inverse_areas, IsKeptOf}
use Rattle.su_desk.specs.declared.entries.Entry.{Entry}
use Rattle.su_live.specs.Live.{find_live}
use Rattle.su_stored_desk.specs.Keeping.{KeptOperation}
use Rattle.su_desk.specs.Answer.{format_refusal}
use Rattle.su_desk.specs.History.{NumberedAction, entry_by, format_after}
use Rattle.su_desk.specs.Desk.{DeskState}
use Rattle.su_desk.specs.Trial.{TrialState, tree_of, with_ready}

-- the entry of an operation alone
abbrev pub alone_by : ℕ → Format → Op → Entry
alone_by a f op = entry_by a f (Do (op ∷ []))

-- operations by user a, made in format f, each an entry of its own
abbrev pub each_alone : ℕ → Format → List Op → List Entry
each_alone a f ops = map (alone_by a f) ops

-- the same as numbered actions, from number n on
abbrev pub one_by_one : ℕ → ℕ → Format → List Op → List NumberedAction
one_by_one n a f [] = []
one_by_one n a f (op ∷ ops) =
    record { number = n; action = action_by a f (op ∷ []) } ∷ one_by_one (n + 1) a f ops

-- what operations read of which this is kept, and what they wrote
abbrev pub all_read : List KeptOperation → List Area
all_read [] = []
all_read (k ∷ ks) = k.footprint.reads.items ++ all_read ks

abbrev pub all_written : List KeptOperation → List Area
all_written [] = []
all_written (k ∷ ks) = k.footprint.writes.items ++ all_written ks

-- as a list of one, if there is one
abbrev pub option_list : {A : Type 0} → Option A → List A
option_list None = []
option_list (Some x) = x ∷ []

-- those of these operations that have one of so many numbers, from n on
abbrev pub live_from : ℕ → ℕ → List KeptOperation → List KeptOperation
live_from n zero ks = []
live_from n (suc count) ks = option_list (find_live n ks) ++ live_from (n + 1) count ks

-- the desk has the operations one by one behind d
abbrev pub HasEach : DeskState → ℕ → Format → List Op → DeskState → Type 0
HasEach d a f ops s = s ≡ with_ready d (each_alone a f ops)

-- the cells are those of the operations together, behind d
pub record IsJoined (d : DeskState) (a : ℕ) (f : Format) (ops : List Op) (footprint : Footprint)
    : Type 0 where
  pub reads : footprint.reads.items ≡ reads d.roster (tree_of d) (action_by a f ops)
  pub writes : footprint.writes.items ≡ writes d.roster (tree_of d) (action_by a f ops)

-- and what those that are written hold there is kept
pub record IsKeptBefore (d : DeskState) (footprint : Footprint) (inverse : Inverse) : Type 0 where
  pub areas : (c : Cell) → has (inverse_areas inverse) c ≡ has footprint.writes.items c
  pub kept : IsKeptOf inverse (tree_of d)

-- ---- formats that fit

-- that format fits the operation behind what stands ready
abbrev pub Fits : TrialState → Format → Op → Type 0
Fits t f op = format_refusal (with_ready t.settled t.ready).history f (Do (op ∷ [])) ≡ None

-- it is as new as the last entry's, and has each of the operations
pub record AllFit (t : TrialState) (f : Format) (ops : List Op) : Type 0 where
  pub as_new : is_as_new f (format_after (with_ready t.settled t.ready).history) ≡ true
  pub has : AllByRecursion (λ op. is_as_new f (oldest_format op) ≡ true) ops
