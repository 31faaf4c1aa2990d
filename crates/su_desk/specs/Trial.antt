-- A desk on which changes can be made on trial, one after another: one of them can be settled, and
-- what isn't settled is taken back.
use Rattle.std.specs.Prelude.{◌≡◌, ℕ, ◌+◌, ◌-◌, List, [], ◌∷◌, ◌++◌, map, length, take, drop}
use Rattle.su_bytes.specs.Membership.{Membership}
use Rattle.su_bytes.specs.declared.principals.Principal.TheVariants.{User, Group}
use Rattle.su_table.specs.Tree.{Tree}
use Rattle.su_table.specs.Handle.{handle}
use Rattle.su_op.specs.declared.areas.Area.{Area}
use Rattle.su_desk.specs.declared.entries.Entry.{Entry}
use Rattle.su_desk.specs.declared.prepared.Prepared.{Prepared}
use Rattle.su_desk.specs.Applied.{tree_after}
use Rattle.su_desk.specs.Version.{carried_groups, cells_of, versions}
use Rattle.su_desk.specs.Desk.{DeskState, with_entry}

-- what is seen of such a desk: what is settled, and the entries behind it that stand ready, which
-- were made one after another
pub record TrialState : Type 0 where
  pub settled : DeskState
  pub ready : List Entry

-- nothing stands ready
abbrev pub nothing_ready : DeskState → TrialState
nothing_ready d = record { settled = d; ready = [] }

-- an entry stands ready, and nothing else
abbrev pub ready_with : DeskState → Entry → TrialState
ready_with d e = record { settled = d; ready = e ∷ [] }

-- a desk with the entries that stood ready
abbrev pub with_ready : DeskState → List Entry → DeskState
with_ready d es = record { roster = d.roster; history = d.history ++ es }

-- ---- what is told of an entry that stands ready

-- the tree of a desk
abbrev pub tree_of : DeskState → Tree
tree_of d = tree_after d.roster d.history

-- a group with its i-handle in T
abbrev pub with_handle : Tree → ℕ → ℕ × List ℕ
with_handle T g = (g, handle T (Group g))

-- the groups of which a pointer is in what is written, in the order of the roster, with their
-- i-handles in T
abbrev pub carried_handles : Membership → List Area → Tree → List (ℕ × List ℕ)
carried_handles ro w T = map (with_handle T) (carried_groups ro w)

-- What is told of an entry, of the history and the tree with it: its number, the version numbers,
-- the i-handle of its author, and those of the groups that it carries.
pub record Tells (d : DeskState) (e : Entry) (p : Prepared) : Type 0 where
  pub number : p.number ≡ length d.history + 1
  pub versions : p.versions.items ≡ versions d.roster (with_entry d e).history
  pub author_handle : p.author_handle ≡ handle (tree_of (with_entry d e)) (User e.author)
  pub groups : p.groups.items
      ≡ carried_handles d.roster (cells_of d.roster d.history e) (tree_of (with_entry d e))

-- just one entry stands ready, the one of which this is told
abbrev pub IsReady : TrialState → Prepared → Type 0
IsReady t p = (e : Entry) × (t.ready ≡ e ∷ []) × Tells t.settled e p

-- ---- steps between

-- the tree of a desk with the entries that stand ready
abbrev pub tree_with_ready : TrialState → Tree
tree_with_ready t = tree_of (with_ready t.settled t.ready)

-- without the last entry that stands ready, if one does
abbrev pub without_last : TrialState → TrialState
without_last t = record { settled = t.settled; ready = take (length t.ready - 1) t.ready }

-- ---- what is seen of the fields

-- a desk before its last entry
abbrev pub before_last : DeskState → DeskState
before_last d = record { roster = d.roster; history = take (length d.history - 1) d.history }

-- a desk of which the last n entries stand ready, and those before them are settled
abbrev pub split_before : DeskState → ℕ → TrialState
split_before d n = record {
  settled = record { roster = d.roster; history = take (length d.history - n) d.history };
  ready = drop (length d.history - n) d.history;
}
