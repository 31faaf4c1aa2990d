use Rattle.su_bytes.specs.declared.refusals.Refusal.TheVariants.{NoMemory}
use Rattle.std.proofs.Common.{◌≡◌, Some, None, sym, subst}
use Rattle.su_node.specs.InodeChange.InodeChange.{Named}
use Rattle.su_part.specs.Known.Want.{AName}
use Rattle.su_part.specs.declared.fetches.Wanted.TheVariants.{Name as WantedName}
use Rattle.su_part_forest.specs.Forest.{Stands}
use Rattle.su_part_forest.specs.Known.Want.{OfUser}
use Rattle.su_part_forest.specs.Loading.{HasAt}
use Rattle.su_part_forest.proofs.EditLifting.{small_inum}
use Rattle.su_table.specs.Edit.{Edit.Inodes, edit}
use Rattle.su_perform.proofs.PerformLemmas.{handed_on, has_of_open, knows_named}
use Rattle.su_perform.proofs.rename.AcceptedRename.perform.Goals as goal

pub returns-in_err-add_name-clause-loaded : goal.returns-in_err-add_name-clause-loaded
returns-in_err-add_name-clause-loaded c T h has =
    let x = c.args.self.now in
    let f = c.args.forest.now in
    handed_on (λ e. e ≡ NoMemory) _ _ c.from_residual-in_err-add_name.ensures.1
    (c.in_err-add_name.ensures.loaded T h (subst (λ n. HasAt x.target (WantedName n) f) (sym c.in_ok-clone.ensures.cases) (has_of_open f T h x.target (WantedName x.rename.now.new_) has.0)))

pub returns-clause-ok : goal.returns-clause-ok
returns-clause-ok c T h has =
    let x = c.args.self.now in
    let f = c.args.forest.now in
    let small = small_inum c.number-number.result x.source.1 c.number-number.ensures.range.1 c.number-number.ensures.value in
    let old = knows_named f T h x.source x.rename.now.old_ small c.byte_count-bytes.ensures.key has.1.0 in
    let known = c.in_ok-add_name.ensures.known T h (OfUser x.source.0 (AName x.source.1 x.rename.now.old_)) old in
    subst (λ n. Stands c.remove_name.new.self (edit (edit T (Inodes x.target (Named n (Some x.rename.now.file)))) (Inodes x.source (Named x.rename.now.old_ None)))) c.in_ok-clone.ensures.cases
    (c.remove_name.ensures.stands _ (c.in_ok-add_name.ensures.ok T h) known)
