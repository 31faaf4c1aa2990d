-- The operations by cases: whether one is accepted, and what it then makes of the tree.
use Rattle.std.specs.Prelude.{List, Option}
use Rattle.su_bytes.specs.declared.refusals.Refusal.{Refusal}
use Rattle.su_bytes.specs.declared.refusals.Refusal.TheVariants.{NoUser}
use Rattle.su_bytes.specs.Membership.{Membership, has_user}
use Rattle.su_table.specs.Tree.{Tree}
use Rattle.su_table.specs.Edit.{edits}
use Rattle.su_op.specs.declared.areas.Area.{Area}
use Rattle.su_op.specs.declared.operations.Op.{Op}
use Rattle.su_op.specs.declared.operations.Op.TheVariants.{Create, Unlink, Write, Truncate, Take, Link, Rename, Drop}
use Rattle.su_op.specs.Action.{Action}
use Rattle.su_op.specs.Rule.{Rule, Rule.Demand, refusal, plan_of, plan_reads, plan_writes}
use Rattle.su_op.specs.Create.{create_rule, CreateRow}
use Rattle.su_op.specs.Unlink.{unlink_rule, UnlinkRow}
use Rattle.su_op.specs.Write.{write_rule, WriteRow}
use Rattle.su_op.specs.Truncate.{truncate_rule, TruncateRow}
use Rattle.su_op.specs.Take.{take_rule, TakeRow}
use Rattle.su_op.specs.Link.{link_rule, LinkRow}
use Rattle.su_op.specs.Rename.{rename_rule, RenameRow}
use Rattle.su_op.specs.DropBody.{drop_rule, DropRow}

-- the rule of an action by one of the users, by cases over its operation
abbrev pub rule_by_user : Membership → Tree → Action → Op → Rule
rule_by_user ro T x (Create c) = create_rule ro T x.author c
rule_by_user ro T x (Unlink u) = unlink_rule ro T x.author u
rule_by_user ro T x (Write w) = write_rule ro T x.author x.format w
rule_by_user ro T x (Truncate t) = truncate_rule ro T x.author x.format t
rule_by_user ro T x (Take t) = take_rule ro T x.author t
rule_by_user ro T x (Link l) = link_rule ro T x.author l
rule_by_user ro T x (Rename r) = rename_rule ro T x.author r
rule_by_user ro T x (Drop d) = drop_rule T x.author d

-- the rule of an action, whose author has to be a user
abbrev pub rule_of : Membership → Tree → Action → Rule
rule_of ro T x = Demand (has_user ro x.author) (NoUser x.author) (rule_by_user ro T x x.op)

-- The table of cells, by operations: what each reads besides what it writes, and what it writes.
-- The places are those of the bodies of the files that it names.
abbrev pub Row : Op → Type 0
Row (Create c) = CreateRow c
Row (Unlink u) = UnlinkRow u
Row (Write w) = WriteRow w
Row (Truncate t) = TruncateRow t
Row (Take t) = TakeRow t
Row (Link l) = LinkRow l
Row (Rename r) = RenameRow r
Row (Drop d) = DropRow d

-- ---- what an action is and does in T

-- why it is not accepted: the first refusal, or none
unfoldable pub why : Membership → Tree → Action → Option Refusal
why ro T x = refusal (rule_of ro T x)

-- ---- of an accepted action; where `why` is a refusal these say nothing

-- the tree after it
unfoldable pub effect : Membership → Tree → Action → Tree
effect ro T x = edits T (plan_of (rule_of ro T x)).edits

-- the cells that it reads
unfoldable pub reads : Membership → Tree → Action → List Area
reads ro T x = plan_reads (plan_of (rule_of ro T x))

-- the cells that it writes
unfoldable pub writes : Membership → Tree → Action → List Area
writes ro T x = plan_writes (plan_of (rule_of ro T x))
