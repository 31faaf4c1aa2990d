use Rattle.su_bytes.specs.declared.refusals.Refusal.TheVariants.{NoMemory}
use Rattle.std.proofs.Common.{◌≡◌, ◌+◌, Some, sym, subst}
use Rattle.su_node.specs.InodeChange.InodeChange.{Linked, Named}
use Rattle.su_part.specs.Known.Want.{AnInode}
use Rattle.su_part.specs.declared.fetches.Wanted.TheVariants.{Nothing, Name as WantedName}
use Rattle.su_part_forest.specs.Forest.{Stands}
use Rattle.su_part_forest.specs.Known.Want.{OfUser}
use Rattle.su_part_forest.specs.Loading.{HasAt}
use Rattle.su_part_forest.proofs.EditLifting.{small_inum}
use Rattle.su_table.specs.Edit.{Edit.Inodes, edit}
use Rattle.su_perform.proofs.PerformLemmas.{handed_on, has_of_open, knows_open}
use Rattle.su_perform.proofs.link.AcceptedLink.perform.Goals as goal

pub returns-in_err-add_name-clause-loaded : goal.returns-in_err-add_name-clause-loaded
returns-in_err-add_name-clause-loaded c T h has =
    let x = c.args.self.now in
    let f = c.args.forest.now in
    handed_on (λ e. e ≡ NoMemory) _ _ c.from_residual-in_err-add_name.ensures.1
    (c.in_err-add_name.ensures.loaded T h (subst (λ n. HasAt x.directory (WantedName n) f) (sym c.in_ok-clone.ensures.cases) (has_of_open f T h x.directory (WantedName x.link.now.name) has.0)))

pub returns-clause-ok : goal.returns-clause-ok
returns-clause-ok c T h has =
    let x = c.args.self.now in
    let f = c.args.forest.now in
    let small = small_inum c.number-number.result x.place.1 c.number-number.ensures.range.1 c.number-number.ensures.value in
    let known = c.in_ok-add_name.ensures.known T h (OfUser x.place.0 (AnInode x.place.1)) (knows_open f T h x.place Nothing small has.1.0) in
    subst (λ n. Stands c.set_links.new.self (edit (edit T (Inodes x.directory (Named n (Some x.link.now.file)))) (Inodes x.place (Linked (x.links + 1))))) c.in_ok-clone.ensures.cases
    (c.set_links.ensures.stands _ (c.in_ok-add_name.ensures.ok T h) known)
