-- The draft of a command: the operations that carry it out, before it is known whether they are
-- accepted.
use Rattle.std.specs.Prelude.{ℕ, List, Result, Ok, Err, if◌then◌else◌}
use Rattle.su_bytes.specs.declared.file_ids.Kind.TheVariants.{File, Dir}
use Rattle.su_bytes.specs.declared.refusals.Refusal.{Refusal}
use Rattle.su_bytes.specs.declared.refusals.Refusal.TheVariants.{NoUser}
use Rattle.su_bytes.specs.Membership.{Membership, has_user}
use Rattle.su_table.specs.Tree.{Tree}
use Rattle.su_op.specs.declared.operations.Op.{Op}
use Rattle.su_draft.specs.declared.commands.Command.{Command}
use Rattle.su_draft.specs.declared.commands.Command.TheVariants.{Mkdir, Create, Write, Truncate, Link, Rename, Remove, Tidy}
use Rattle.su_draft.specs.Make.{make_draft}
use Rattle.su_draft.specs.Write.{write_draft}
use Rattle.su_draft.specs.Truncate.{truncate_draft}
use Rattle.su_draft.specs.Link.{link_draft}
use Rattle.su_draft.specs.Rename.{rename_draft}
use Rattle.su_draft.specs.Remove.{remove_draft}
use Rattle.su_draft.specs.Tidy.{tidy_draft}

-- the draft of each command
abbrev pub draft_of : Tree → ℕ → Command → Result (List Op) Refusal
draft_of T a (Mkdir path) = make_draft T a Dir path.items
draft_of T a (Create path) = make_draft T a File path.items
draft_of T a (Write path off bytes) = write_draft T a path.items off bytes.items
draft_of T a (Truncate path size) = truncate_draft T a path.items size
draft_of T a (Link old new) = link_draft T a old.items new.items
draft_of T a (Rename old new) = rename_draft T a old.items new.items
draft_of T a (Remove path) = remove_draft T a path.items
draft_of T a Tidy = Ok (tidy_draft T a)

-- the operations of a command by user a, before it is known whether they are accepted
unfoldable pub draft : Membership → Tree → ℕ → Command → Result (List Op) Refusal
draft ro T a command = if has_user ro a then draft_of T a command else Err (NoUser a)
