-- Drafts: the operations of a command, as far as they are planned. Of the tree they ask what holds
-- before the first of them.
use Rattle.std.specs.Prelude.{ℕ, Bool, false, not, ◌&&◌, List, [], ◌∷◌, ◌++◌, Option, Some, None, Result, Ok, nat_eq, if◌then◌else◌}
use Rattle.std.specs.List.{list_any}
use Rattle.su_bytes.specs.declared.file_ids.FileId.{FileId}
use Rattle.su_bytes.specs.declared.refusals.Refusal.{Refusal}
use Rattle.su_bytes.specs.Place.{Place, file_eq}
use Rattle.su_table.specs.Tree.{Tree}
use Rattle.su_table.specs.Query.{body}
use Rattle.su_op.specs.Take.{is_group_file}
use Rattle.su_op.specs.declared.operations.Op.{Op}
use Rattle.su_op.specs.declared.operations.Op.TheVariants.{Take}
use Rattle.su_draft.specs.Refusable.{◌>>=◌}
use Rattle.su_draft.specs.Number.{free_body}

pub record DraftState : Type 0 where
  -- who makes them
  pub author : ℕ
  -- in order
  pub operations : List Op
  -- the last number of the author's table that they use; 0 before the first
  pub used : ℕ

-- the draft of user a, at first
abbrev pub empty_draft : ℕ → DraftState
empty_draft a = record { author = a; operations = []; used = 0 }

-- with an operation more
abbrev pub with_operation : DraftState → Op → DraftState
with_operation d op = record d { operations = d.operations ++ op ∷ [] }

-- the least free number of the author's table that isn't used yet
unfoldable pub next_body : Tree → DraftState → Result ℕ Refusal
next_body T d = free_body T d.author d.used

-- ---- takes

-- another user than a holds the body
abbrev pub is_others : ℕ → Option Place → Bool
is_others a None = false
is_others a (Some p) = not (nat_eq p.0 a)

-- the operation takes the file
abbrev pub takes : FileId → Op → Bool
takes f (Take t) = file_eq t.file f
takes f _ = false

-- A file that is to be written needs a take where it is a group file that another user holds, and
-- the draft doesn't take it yet.
unfoldable pub needs_take : Tree → DraftState → FileId → Bool
needs_take T d f =
    is_group_file f && is_others d.author (body T f) && not (list_any (takes f) d.operations)

-- with a take of the file, at number n
abbrev pub taken_at : DraftState → FileId → ℕ → DraftState
taken_at d f n = record {
  author = d.author;
  operations = d.operations ++ Take (record { file = f; body = n }) ∷ [];
  used = n;
}

-- with a take of the file
abbrev pub taken : Tree → DraftState → FileId → Result DraftState Refusal
taken T d f = do
  n ← next_body T d
  Ok (taken_at d f n)

-- with a take of a file that is to be written, if it needs one
unfoldable pub with_take : Tree → DraftState → FileId → Result DraftState Refusal
with_take T d f = if needs_take T d f then taken T d f else Ok d
