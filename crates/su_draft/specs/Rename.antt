-- A file gets another name. What had that name before loses it.
use Rattle.std.specs.Prelude.{ℕ, Bool, true, false, List, [], Option, Some, None, Result, Ok, nat_eq}
use Rattle.std.specs.Cmp.Lexicographic.{pointwise}
use Rattle.su_bytes.specs.declared.file_ids.FileId.{FileId}
use Rattle.su_bytes.specs.declared.refusals.Refusal.{Refusal}
use Rattle.su_node.specs.Name.{Name}
use Rattle.su_table.specs.Tree.{Tree}
use Rattle.su_op.specs.declared.operations.Op.{Op}
use Rattle.su_op.specs.declared.operations.Op.TheVariants.{Unlink, Rename}
use Rattle.su_op.specs.declared.rename.Rename.{Rename as RenameOp}
use Rattle.su_draft.specs.Refusable.{◌>>=◌}
use Rattle.su_draft.specs.Path.{named_path}
use Rattle.su_draft.specs.Walk.{directory_place, led_to, entry, directory_of}
use Rattle.su_draft.specs.Draft.{DraftState, empty_draft, with_take, with_operation}

-- with the unlink of what a directory's name leads to, if it leads to a file; the unlink writes
-- that file
abbrev pub with_unlink : Tree → DraftState → FileId → Name → Option FileId
    → Result DraftState Refusal
with_unlink T d directory x None = Ok d
with_unlink T d directory x (Some replaced) = do
  draft ← with_take T d replaced
  Ok (with_operation draft (Unlink (record { dir = directory; name = x; file = replaced })))

-- with the name free in the directory
unfoldable pub with_name_free : Tree → DraftState → FileId → Name
    → Result DraftState Refusal
with_name_free T d directory x = do
  place ← directory_place T directory
  with_unlink T d directory x (led_to T place x)

-- by user a; it writes both directories, first the one that loses the name
unfoldable pub moved : Tree → ℕ → RenameOp → Result (List Op) Refusal
moved T a r = do
  with_source ← with_take T (empty_draft a) r.from_
  with_target ← with_take T with_source r.to_
  draft ← with_name_free T with_target r.to_ r.new_
  Ok (with_operation draft (Rename r)).operations

-- a rename of a path to itself has no operations
abbrev pub renamed : Tree → ℕ → Bool → RenameOp → Result (List Op) Refusal
renamed T a true r = Ok []
renamed T a false r = moved T a r

-- by paths
unfoldable pub rename_draft : Tree → ℕ → List ℕ → List ℕ → Result (List Op) Refusal
rename_draft T a old new = do
  from ← named_path old
  to ← named_path new
  source ← directory_of T from
  file ← entry T source from.name
  target ← directory_of T to
  renamed T a (pointwise nat_eq old new)
      (record { from_ = source; old_ = from.name; to_ = target; new_ = to.name; file = file })
