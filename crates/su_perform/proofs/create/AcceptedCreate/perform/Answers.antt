use Rattle.su_bytes.specs.declared.refusals.Refusal.TheVariants.{NoMemory}
use Rattle.std.proofs.Common.{◌≡◌, Some, sym, subst}
use Rattle.su_node.specs.InodeChange.InodeChange.{Named}
use Rattle.su_op.proofs.GrowthLemmas.{named_unnamed}
use Rattle.su_part.specs.Known.Want.{AName}
use Rattle.su_part.specs.declared.fetches.Wanted.TheVariants.{Name as WantedName}
use Rattle.su_part_forest.specs.Forest.{Stands}
use Rattle.su_part_forest.specs.Known.{Knows}
use Rattle.su_part_forest.specs.Known.Want.{OfUser}
use Rattle.su_part_forest.specs.Loading.{HasAt}
use Rattle.su_part_forest.proofs.EditLifting.{small_inum}
use Rattle.su_table.specs.Edit.{Edit.Inodes, edit, edits}
use Rattle.su_perform.specs.Performed.{added_edits}
use Rattle.su_perform.proofs.PerformLemmas.{handed_on, has_of_open, ready}
use Rattle.su_perform.proofs.create.AcceptedCreate.perform.Goals as goal

pub returns-in_err-add_name-clause-loaded : goal.returns-in_err-add_name-clause-loaded
returns-in_err-add_name-clause-loaded c T h fits has =
    let x = c.args.self.now in
    let f = c.args.forest.now in
    handed_on (λ e. e ≡ NoMemory) _ _ c.from_residual-in_err-add_name.ensures.1
    (c.in_err-add_name.ensures.loaded T h (subst (λ n. HasAt x.directory (WantedName n) f) (sym c.in_ok-clone.ensures.cases) (has_of_open f T h x.directory (WantedName x.create.now.name) has.0)))

pub returns-in-Err-clause-loaded : goal.returns-in-Err-clause-loaded
returns-in-Err-clause-loaded c T h fits has =
    let x = c.args.self.now in
    let small = small_inum c.number-number.result x.create.now.body c.number-number.ensures.range.1 c.number-number.ensures.value in
    let named = c.in_ok-add_name.ensures in
    let is = ready x _ c.in_ok-clone.ensures.cases c.args.forest.now _ T h small fits has named.keeps (named.ok T h) (named.known T h) in
    c.in-Err.ensures.loaded _ (named.ok T h) is

pub returns-in-Err-clause-err : goal.returns-in-Err-clause-err
returns-in-Err-clause-err c T h fits has =
    let x = c.args.self.now in
    let small = small_inum c.number-number.result x.create.now.body c.number-number.ensures.range.1 c.number-number.ensures.value in
    let named = c.in_ok-add_name.ensures in
    let is = ready x _ c.in_ok-clone.ensures.cases c.args.forest.now _ T h small fits has named.keeps (named.ok T h) (named.known T h) in
    let g = c.add_file.new.forest in
    let same = c.in_ok-clone.ensures.cases in
    let stands = subst (λ n. Stands g (edit T (Inodes x.directory (Named n (Some x.create.now.file))))) same (c.in-Err.ensures.err _ (named.ok T h) is) in
    let known = subst (λ n. Knows (edit T (Inodes x.directory (Named n (Some x.create.now.file)))) (OfUser x.directory.0 (AName x.directory.1 n)) g) same (c.in-Err.ensures.err_known _ (named.ok T h) is (OfUser x.directory.0 (AName x.directory.1 c.in_ok-clone.field-0)) (named.added T h)) in
    subst (Stands c.remove_name.new.self) (named_unnamed T x.directory x.create.now.name x.create.now.file fits.0) (c.remove_name.ensures.stands _ stands known)

pub returns-clause-ok : goal.returns-clause-ok
returns-clause-ok c T h fits has =
    let x = c.args.self.now in
    let small = small_inum c.number-number.result x.create.now.body c.number-number.ensures.range.1 c.number-number.ensures.value in
    let named = c.in_ok-add_name.ensures in
    let is = ready x _ c.in_ok-clone.ensures.cases c.args.forest.now _ T h small fits has named.keeps (named.ok T h) (named.known T h) in
    subst (λ n. Stands c.add_file.new.forest (edits (edit T (Inodes x.directory (Named n (Some x.create.now.file)))) (added_edits x))) c.in_ok-clone.ensures.cases (c.in_default.ensures.ok _ (named.ok T h) is)
