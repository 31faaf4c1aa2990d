-- Histories: entries numbered from 1, the operations that are live after them, the tree that these
-- make, and the keys that users have or had.
use Rattle.std.specs.Prelude.{ℕ, ◌+◌, ◌-◌, Bool, false, not, cond, List, [], ◌∷◌, ◌++◌, map, Option, None, Some, nat_eq, slice_get}
use Rattle.std.specs.List.{filter, flat_map, list_any}
use Rattle.std.specs.Option.{option_or, option_to_list, unwrap_or}
use Rattle.su_bytes.specs.Keys.{roster_keys}
use Rattle.su_bytes.specs.Membership.{Membership}
use Rattle.su_bytes.specs.declared.formats.Format.{Format}
use Rattle.su_bytes.specs.declared.formats.Format.TheVariants.{V1}
use Rattle.su_table.specs.Tree.{Tree, genesis}
use Rattle.su_op.specs.declared.operations.Op.{Op}
use Rattle.su_op.specs.declared.operations.Change.{Change}
use Rattle.su_op.specs.declared.operations.Change.TheVariants.{Do, Undo, Rekey}
use Rattle.su_op.specs.Batch.{Action, action_by}
use Rattle.su_op.specs.Action.{named_key}
use Rattle.su_op.specs.Batch.{store}
use Rattle.su_undo.specs.Replay.{replay as replay_actions}
use Rattle.su_desk.specs.declared.entries.Entry.{Entry}

-- an operation by a user, with the number of its entry
pub record NumberedAction : Type 0 where
  pub number : ℕ
  pub action : Action

-- the operations without their numbers
abbrev pub actions : List NumberedAction → List Action
actions ts = map (λ t. t.action) ts

-- the entry of a change by user a, made in format f
abbrev pub entry_by : ℕ → Format → Change → Entry
entry_by a f c = record { author = a; format = f; change = c }

-- the entry that does an action
abbrev pub entry_doing : Action → Entry
entry_doing x = entry_by x.author x.format (Do x.operations)

-- the entry of the undo of n by user a, made in format f
abbrev pub undo_by : ℕ → Format → ℕ → Entry
undo_by a f n = entry_by a f (Undo n)

-- the entry by which user a names the next key k, made in format f
abbrev pub rekey_by : ℕ → Format → List ℕ → Entry
rekey_by a f k = entry_by a f (Rekey k)

-- the action of an entry that does that operation
abbrev pub action_of : Entry → List Op → Action
action_of e ops = action_by e.author e.format ops

-- the operation of entry n, whose change is given, if that is one
abbrev pub operation_by_change : ℕ → Entry → Change → List NumberedAction
operation_by_change n e (Do op) = record { number = n; action = action_of e op } ∷ []
operation_by_change n e _ = []

-- the operation of entry n, if its change is one
abbrev pub operation_of : ℕ → Entry → List NumberedAction
operation_of n e = operation_by_change n e e.change

-- the operations among entries of which the first has number n
abbrev pub operations_from : ℕ → List Entry → List NumberedAction
operations_from n [] = []
operations_from n (e ∷ es) = operation_of n e ++ operations_from (n + 1) es

-- the change is the undo of n
abbrev pub undoes : ℕ → Change → Bool
undoes n (Undo m) = nat_eq n m
undoes n _ = false

-- an undo names entry n
abbrev pub is_undone : List Entry → ℕ → Bool
is_undone h n = list_any (λ e. undoes n e.change) h

-- the operations that no undo names, in order
abbrev pub live : List Entry → List NumberedAction
live h = filter (λ t. not (is_undone h t.number)) (operations_from 1 h)

-- their numbers
abbrev pub live_numbers : List Entry → List ℕ
live_numbers h = map (λ t. t.number) (live h)

-- the tree that operations lead to from T, one after another; none where one of them isn't accepted
-- where it comes
abbrev pub replay : Membership → Tree → List NumberedAction → Option Tree
replay ro T ts = replay_actions (store ro) T (actions ts)

-- the tree after a history: a replay of its live operations from the first tree
unfoldable pub tree : Membership → List Entry → Option Tree
tree ro h = replay ro genesis (live h)

abbrev pub last_format : Format → List Entry → Format
last_format f [] = f
last_format f (e ∷ es) = last_format e.format es

-- the format of the last entry, at first the oldest one
abbrev pub format_after : List Entry → Format
format_after h = last_format V1 h

-- the entry of a number
abbrev pub entry_at : List Entry → ℕ → Option Entry
entry_at h n = cond (nat_eq n 0) None (slice_get h (n - 1))

-- the number of the first entry that undoes n, of entries of which the first has number k
abbrev pub undoer_from : ℕ → List Entry → ℕ → Option ℕ
undoer_from k [] n = None
undoer_from k (e ∷ es) n = cond (undoes n e.change) (Some k) (undoer_from (k + 1) es n)

-- the entry that undid n
abbrev pub undoer : List Entry → ℕ → Option ℕ
undoer h n = undoer_from 1 h n

-- the number of the last of these operations
abbrev pub last_number : List NumberedAction → Option ℕ
last_number [] = None
last_number (t ∷ ts) = option_or (last_number ts) (Some t.number)

-- the number of the last live operation, 0 where there is none
abbrev pub last_live : List Entry → ℕ
last_live h = unwrap_or (last_number (live h)) 0

-- the undos of operations from the last to the first, each by its author, all made in format f
abbrev pub undos : Format → List NumberedAction → List Entry
undos f [] = []
undos f (t ∷ ts) = undos f ts ++ undo_by t.action.author f t.number ∷ []

-- the keys that these entries name, in order
abbrev pub named_keys : List Entry → List (List ℕ)
named_keys h = flat_map (λ e. option_to_list (named_key e.change)) h

-- the keys that users have or had after a history: the roster's, and each that an entry names
abbrev pub keys_after : Membership → List Entry → List (List ℕ)
keys_after ro h = roster_keys ro ++ named_keys h
