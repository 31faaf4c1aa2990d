-- How an operation is defined: its checks in their order, and the edits that it makes where they
-- all pass.
use Rattle.std.specs.Prelude.{◌≡◌, ℕ, Bool, true, false, List, [], ◌∷◌, ◌++◌, Option, Some, None}
use Rattle.su_bytes.specs.declared.file_ids.FileId.{FileId}
use Rattle.su_bytes.specs.declared.file_ids.FileId.TheVariants.{User, Group}
use Rattle.su_bytes.specs.declared.refusals.Refusal.{Refusal}
use Rattle.su_bytes.specs.Membership.{Membership, is_member}
use Rattle.su_bytes.specs.Place.{Place}
use Rattle.su_table.specs.Edit.{Edit, Edit.Pointers}
use Rattle.su_op.specs.declared.areas.Area.{Area}
use Rattle.su_op.specs.declared.areas.Area.TheVariants.{Pointer as PointerArea}
use Rattle.su_op.specs.Area.{kind_cell}
use Rattle.su_op.specs.Footprint.{edits_areas}

-- what an accepted operation does, and the areas that it reads besides those that it writes
pub record Plan : Type 0 where
  pub reads : List Area
  pub edits : List Edit

-- checks one after another, and the plan behind them
pub data Rule : Type 0 where
  Accept : Plan → Rule
  -- the test passes, or this is the refusal
  Demand : Bool → Refusal → Rule → Rule
  -- there is a place, on which the rest depends, or this is the refusal
  Find : Option Place → Refusal → (Place → Rule) → Rule

-- the first refusal, if there is one
abbrev pub refusal : Rule → Option Refusal
refusal (Accept p) = None
refusal (Demand true r k) = refusal k
refusal (Demand false r k) = Some r
refusal (Find None r k) = Some r
refusal (Find (Some p) r k) = refusal (k p)

-- The plan behind all checks. Where one refuses this says nothing, since it is not asked.
abbrev pub plan_of : Rule → Plan
plan_of (Accept p) = p
plan_of (Demand b r k) = plan_of k
plan_of (Find None r k) = record { reads = []; edits = [] }
plan_of (Find (Some p) r k) = plan_of (k p)

-- the cells that a plan writes
abbrev pub plan_writes : Plan → List Area
plan_writes p = edits_areas p.edits

-- the cells that a plan reads: those besides, and those that it writes
abbrev pub plan_reads : Plan → List Area
plan_reads p = p.reads ++ plan_writes p

-- a row of the table of cells: what a plan reads besides what it writes, and what it writes
pub record HasRow (p : Plan) (besides : List Area) (written : List Area) : Type 0 where
  pub reads : p.reads ≡ besides
  pub writes : plan_writes p ≡ written

-- ---- words of the rules

-- a group file may be touched by the members of its group
abbrev pub may_touch : Membership → ℕ → FileId → Bool
may_touch ro a (User u i) = true
may_touch ro a (Group g k) = is_member ro a g

-- the group of a group file
abbrev pub group_of : FileId → ℕ
group_of (User u i) = 0
group_of (Group g k) = g

-- a group file's pointer points there, or goes; a user's file has none
abbrev pub pointer_edits : FileId → Option Place → List Edit
pointer_edits (User u i) v = []
pointer_edits (Group g k) v = Pointers (g, k) v ∷ []

-- the pointer of a group file; a user's file has none
abbrev pub pointer_areas : FileId → List Area
pointer_areas (User u i) = []
pointer_areas (Group g k) = PointerArea (g, k) ∷ []

-- the cells that show that the body of a file is at p, and of which kind it is
abbrev pub file_areas : FileId → Place → List Area
file_areas f p = kind_cell p ∷ pointer_areas f
