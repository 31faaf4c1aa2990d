use Rattle.std.proofs.Common.{◌∙◌, ap, subst}
use Rattle.std.specs.Prelude.{Ok, Err}
use Rattle.su_op.specs.declared.areas.Part.{Part}
use Rattle.su_op.specs.declared.areas.Area.{Area}
use Rattle.su_op.specs.declared.areas.Area.TheVariants.{Inode as InodeArea}
use Rattle.su_format.proofs.Public.{file_id_of}
use Rattle.su_kept_areas.specs.Spelling.{IsArea, area_bytes}
use Rattle.su_part_inverse.specs.Small.{Reads}
use Rattle.su_part_inverse.proofs.SmallReads.{reads_part, reads_area, last_refused, last_read, return_begun, name_ends, pointer_ends}
use Rattle.su_part_inverse.proofs.small.ReturnSmall.take.Goals as goal

pub returns-in_err-file-in-Inode : goal.returns-in_err-file-in-Inode
returns-in_err-file-in-Inode c =
    let old = c.args.reader.now in
    let mid = c.take_area.new.reader in
    let area = subst (λ (a : Area). Reads IsArea area_bytes old.left (Ok a) mid.left) (c.in-Inode.is ∙ ap (λ (q : Part). InodeArea c.in-Inode.place q) c.in-Name.is)
    (reads_area old.left mid.left (Ok _) c.in_ok-area.ensures.value (λ a rest at. tt)) in
    last_refused return_begun _ _ _ area (name_ends c.in-Inode.place c.in-Name.name) _ mid.left (reads_part file_id_of mid mid (Err _) c.in_err-file-in-Inode.ensures.takes) _ _ c.from_residual-in_err-file-in-Inode.ensures.1

pub returns-in_ok-file-in-Inode : goal.returns-in_ok-file-in-Inode
returns-in_ok-file-in-Inode c =
    let old = c.args.reader.now in
    let mid = c.take_area.new.reader in
    let area = subst (λ (a : Area). Reads IsArea area_bytes old.left (Ok a) mid.left) (c.in-Inode.is ∙ ap (λ (q : Part). InodeArea c.in-Inode.place q) c.in-Name.is)
    (reads_area old.left mid.left (Ok _) c.in_ok-area.ensures.value (λ a rest at. tt)) in
    last_read return_begun _ _ _ area (name_ends c.in-Inode.place c.in-Name.name) _ _ (reads_part file_id_of mid _ (Ok _) c.in_ok-file-in-Inode.ensures.takes)

pub returns-in_err-place-in-Pointer : goal.returns-in_err-place-in-Pointer
returns-in_err-place-in-Pointer c =
    let old = c.args.reader.now in
    let mid = c.take_area.new.reader in
    let area = subst (λ (a : Area). Reads IsArea area_bytes old.left (Ok a) mid.left) c.in-Pointer.is (reads_area old.left mid.left (Ok _) c.in_ok-area.ensures.value (λ a rest at. tt)) in
    last_refused return_begun _ _ _ area (pointer_ends c.in-Pointer.file) _ _ c.in_err-place-in-Pointer.ensures _ _ c.from_residual-in_err-place-in-Pointer.ensures.1

pub returns-in_ok-place-in-Pointer : goal.returns-in_ok-place-in-Pointer
returns-in_ok-place-in-Pointer c =
    let old = c.args.reader.now in
    let mid = c.take_area.new.reader in
    let area = subst (λ (a : Area). Reads IsArea area_bytes old.left (Ok a) mid.left) c.in-Pointer.is (reads_area old.left mid.left (Ok _) c.in_ok-area.ensures.value (λ a rest at. tt)) in
    last_read return_begun _ _ _ area (pointer_ends c.in-Pointer.file) _ _ c.in_ok-place-in-Pointer.ensures
