use Rattle.std.proofs.Common.{◌≡◌, ◌∙◌, Some, refl, sym, ap, subst, slice_get}
use Rattle.std.specs.Option.{option_copied}
use Rattle.su_op.specs.declared.operations.Change.TheVariants.{Do}
use Rattle.su_desk.specs.History.{entry_by}
use Rattle.su_desk.specs.Trial.{ready_with}
use Rattle.su_stored_desk.specs.Asked.{IsClear}
use Rattle.su_stored_desk.proofs.Clearness.{Known, known, trusted}
use Rattle.su_stored_desk.proofs.JoiningReady.{has_each, known_joined, known_unjoined, numbers_before}
use Rattle.su_stored_desk.proofs.StandingReady.{seen_so}
use Rattle.su_stored_desk.proofs.trials.TrialDesk.join.Given.{Over}
use Rattle.su_stored_desk.proofs.trials.TrialDesk.join.Goals as goal

-- the batch stands ready alone
ready : (g : Over) (c : goal.After-truncate g) → Known g.S.BlockSource.may_give c.join.new.self c.truncate.new.self.items c.self.inside.asked.items (ready_with c.args.self.now.state.settled (entry_by c.args.author c.args.format (Do c.args.batch)))
ready g c =
    let s = c.self.inside in
    let v = c.args.self.now.state in
    let m = g.S.BlockSource.may_give in
    let a = c.args.author in
    let f = c.args.format in
    let ops = c.args.batch in
    let t = c.in-Some.first.now in
    let k = known m s.desk s.tried.items s.asked.items v (ap (λ t. t.state) c.self.view_is) c.self.invariant in
    let first : slice_get s.tried.items 0 ≡ Some t = ap (λ ts. slice_get ts 0) (sym c.deref.ensures.value) ∙ sym c.first.ensures.value ∙ ap option_copied c.in-Some.is in
    let numbers = c.as_slice-numbers.result.now in
    let are = c.as_slice-numbers.ensures.value in
    let each = has_each m s.desk c.join.new.self s.tried.items s.asked.items v k a f ops c.requires.ready t first numbers are in
    known_joined m s.desk c.join.new.self s.tried.items s.asked.items v k a f ops c.requires.ready t first numbers are c.join.ensures.numbers_kept
    (λ clear.
    let was = subst (IsClear m) c.self.view_is clear in
    c.join.ensures.right v.settled ops (k.right clear) refl (sym c.count-count.ensures) c.requires.many c.requires.fits (numbers_before m s.desk c.join.new.self s.tried.items s.asked.items v k a f ops c.requires.ready t first numbers are clear) each (c.requires.joined was) (c.requires.kept was))
    c.truncate.new.self.items c.truncate.ensures.items c.requires.many (c.in_ok-join.ensures.done v.settled ops (sym c.count-count.ensures) each)

pub invariant_of-self-2 : goal.invariant_of-self-2
invariant_of-self-2 g c = trusted g.S.BlockSource.may_give _ _ _ _ (ready g c)

pub returns-clause-done : goal.returns-clause-done
returns-clause-done g c = seen_so _ _ _ (ready g c).seen

pub invariant_of-self : goal.invariant_of-self
invariant_of-self g c =
    let s = c.self.inside in
    let v = c.args.self.now.state in
    let m = g.S.BlockSource.may_give in
    let a = c.args.author in
    let f = c.args.format in
    let ops = c.args.batch in
    let t = c.in-Some.first.now in
    let k = known m s.desk s.tried.items s.asked.items v (ap (λ t. t.state) c.self.view_is) c.self.invariant in
    let first : slice_get s.tried.items 0 ≡ Some t = ap (λ ts. slice_get ts 0) (sym c.deref.ensures.value) ∙ sym c.first.ensures.value ∙ ap option_copied c.in-Some.is in
    let numbers = c.as_slice-numbers.result.now in
    let are = c.as_slice-numbers.ensures.value in
    let each = has_each m s.desk c.join.new.self s.tried.items s.asked.items v k a f ops c.requires.ready t first numbers are in
    trusted m c.join.new.self s.tried.items s.asked.items v
    (known_unjoined m s.desk c.join.new.self s.tried.items s.asked.items v k a f ops c.requires.ready t first numbers are c.join.ensures.numbers_kept
    (λ clear.
    let was = subst (IsClear m) c.self.view_is clear in
    c.join.ensures.right v.settled ops (k.right clear) refl (sym c.count-count.ensures) c.requires.many c.requires.fits (numbers_before m s.desk c.join.new.self s.tried.items s.asked.items v k a f ops c.requires.ready t first numbers are clear) each (c.requires.joined was) (c.requires.kept was))
    c.in_err-join.ensures.err)
