-- What an accepted operation does, by operations.
use Rattle.std.specs.Prelude.{◌≡◌, true, ⊤}
use Rattle.std.specs.FinMap.{get}
use Rattle.su_table.specs.Tree.{Tree}
use Rattle.su_table.specs.Query.{is_free_at, links_at, size_at}
use Rattle.su_op.specs.Growth.{AreFreeFor}
use Rattle.su_op.specs.Rule.{Plan}
use Rattle.su_op.specs.Create.{create_plan}
use Rattle.su_op.specs.Unlink.{unlink_plan}
use Rattle.su_op.specs.Write.{write_plan}
use Rattle.su_op.specs.Truncate.{truncate_plan}
use Rattle.su_op.specs.Take.{take_plan}
use Rattle.su_op.specs.Link.{link_plan}
use Rattle.su_op.specs.Rename.{rename_plan}
use Rattle.su_op.specs.DropBody.{drop_plan}
use Rattle.su_perform.specs.declared.create.AcceptedCreate.{AcceptedCreate}
use Rattle.su_perform.specs.declared.unlink.AcceptedUnlink.{AcceptedUnlink}
use Rattle.su_perform.specs.declared.write.AcceptedWrite.{AcceptedWrite}
use Rattle.su_perform.specs.declared.truncate.AcceptedTruncate.{AcceptedTruncate}
use Rattle.su_perform.specs.declared.take.AcceptedTake.{AcceptedTake}
use Rattle.su_perform.specs.declared.link.AcceptedLink.{AcceptedLink}
use Rattle.su_perform.specs.declared.rename.AcceptedRename.{AcceptedRename}
use Rattle.su_perform.specs.declared.drop_body.AcceptedDrop.{AcceptedDrop}
use Rattle.su_perform.specs.declared.accepted.Accepted.{Accepted}
use Rattle.su_perform.specs.declared.accepted.Accepted.TheVariants.{Create, Unlink, Write, Truncate, Take, Link, Rename, Drop}

-- ---- the plan of each

abbrev pub planned_create : AcceptedCreate → Plan
planned_create x = create_plan x.author x.create.now x.directory

abbrev pub planned_unlink : AcceptedUnlink → Plan
planned_unlink x = unlink_plan x.links x.unlink.now x.directory x.place

abbrev pub planned_write : AcceptedWrite → Plan
planned_write x = write_plan x.size x.write.now x.place

abbrev pub planned_truncate : AcceptedTruncate → Plan
planned_truncate x = truncate_plan x.size x.truncate.now x.place

-- of a take, in the tree whose inode is copied
abbrev pub planned_take : Tree → AcceptedTake → Plan
planned_take T x = take_plan (get T.inodes x.place) x.author x.take.now x.place

abbrev pub planned_link : AcceptedLink → Plan
planned_link x = link_plan x.links x.link.now x.directory x.place

abbrev pub planned_rename : AcceptedRename → Plan
planned_rename x = rename_plan x.moved x.rename.now x.source x.target

abbrev pub planned_drop : AcceptedDrop → Plan
planned_drop x = drop_plan x.author x.dropped.now x.home

-- what an accepted operation does in T
abbrev pub planned : Tree → Accepted → Plan
planned T (Create x) = planned_create x
planned T (Unlink x) = planned_unlink x
planned T (Write x) = planned_write x
planned T (Truncate x) = planned_truncate x
planned T (Take x) = planned_take T x
planned T (Link x) = planned_link x
planned T (Rename x) = planned_rename x
planned T (Drop x) = planned_drop x

-- ---- where it can be done

-- what its check found, as far as it matters, holds in T
abbrev pub FitsIn : Tree → Accepted → Type 0
FitsIn T (Create x) = AreFreeFor T (planned_create x).edits
FitsIn T (Unlink x) = links_at T x.place ≡ x.links
FitsIn T (Write x) = size_at T x.place ≡ x.size
FitsIn T (Truncate x) = size_at T x.place ≡ x.size
FitsIn T (Take x) = is_free_at T (x.author, x.take.now.body) ≡ true
FitsIn T (Link x) = links_at T x.place ≡ x.links
FitsIn T (Rename x) = ⊤
FitsIn T (Drop x) = ⊤
