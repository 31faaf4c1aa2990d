use Rattle.std.proofs.Common.{◌≡◌, ◌∙◌, ◌≤◌, ℕ, Ok, Some, subst, Vec, Global, Option, sym, ap, arith, refl}
use Rattle.std.specs.Prelude.{IfSome, is_some}
use Rattle.su_op.specs.declared.operations.Op.{Op}
use Rattle.su_draft.proofs.StaleBodies.{drops_init, drops_more, drops_on, drops_end}
use Rattle.su_reading.proofs.Public.{answered, ends_ok, joined}
use Rattle.su_read_draft.proofs.Steps.{none_taken, same_ok, step_done, is_taken}
use Rattle.su_read_draft.proofs.tidy.tidy.Goals.{then-is_some+in_ok-push, else-is_some}
use Rattle.su_read_draft.proofs.tidy.tidy.Goals as goal

from_here : {low : ℕ} (o : Option ℕ) (n : ℕ) → o ≡ Some n → IfSome o (λ m. low ≤ m) → low ≤ n
from_here {low} o n is = subst (λ x. IfSome x (λ m. low ≤ m)) is

pub loop-drops-init : goal.loop-drops-init
loop-drops-init g c =
    let one = c.number-from_.ensures.value in
    (answered tt refl (g.met.R.TreeReader.follows_itself c.args.reader.now) (λ T h. drops_init T c.args.author _ _ c.new-drops.ensures.items one), omega (arith, one), omega (arith, one))

pub loop-drops-smaller : goal.loop-drops-smaller
loop-drops-smaller g c =
    let n = c.number-from_-in-Some.ensures in
    let low = from_here c.in_ok-body.field-0 c.in-Some.body c.in-Some.is c.in_ok-body.ensures.from_ in
    omega (arith, n.value, n.range.1, low)

pub loop-drops-preserved : goal.loop-drops-preserved
loop-drops-preserved g c =
    let n = c.number-from_-in-Some.ensures in
    let asked = joined c.in_ok-body.field-0 c.in_ok-body.was g.met.R.TreeReader.follows_on
    (joined tt refl g.met.R.TreeReader.follows_on c.loop-drops.invariant.0 c.next_body.ensures.finds) c.stale_home.ensures.works_out in
    elim c.if-is_some.branch [
      | then-is_some+in_ok-push w ↦ (
        step_done c.in_ok-stale_home.field-0 c.in_ok-stale_home.was asked (λ T is.
            drops_more T c.args.author c.loop-drops.from_ c.in-Some.body _ c.loop-drops.drops.items _ (is_taken T c.args.author c.loop-drops.from_ c.in-Some.body c.in_ok-body.field-0 c.in-Some.is is.0.1)
            (ap is_some (same_ok is.1) ∙ sym c.is_some.ensures ∙ w.if-is_some.true)
            (ap (λ (v : Vec Op Global). v.items) w.drops-is ∙ w.in_ok-push.ensures.items) n.value is.0.0),
        omega arith,
        omega (arith, n.range.1),
      )
      | else-is_some w ↦ (
        step_done c.in_ok-stale_home.field-0 c.in_ok-stale_home.was asked (λ T is.
            drops_on T c.args.author c.loop-drops.from_ c.in-Some.body _ c.loop-drops.drops.items _ (is_taken T c.args.author c.loop-drops.from_ c.in-Some.body c.in_ok-body.field-0 c.in-Some.is is.0.1)
            (ap is_some (same_ok is.1) ∙ sym c.is_some.ensures ∙ w.if-is_some.false)
            (ap (λ (v : Vec Op Global). v.items) w.drops-is) n.value is.0.0),
        omega arith,
        omega (arith, n.range.1),
      )
    ]

pub returns : goal.returns
returns g c = record {
  works_out = ends_ok c.in_ok-body.field-0 c.loop-drops.drops c.in_ok-body.was refl
      (joined tt refl g.met.R.TreeReader.follows_on c.loop-drops.invariant.0 c.next_body.ensures.finds)
      (λ T is. ap Ok (drops_end T c.args.author c.loop-drops.from_ c.loop-drops.drops.items c.loop-drops.invariant.1 (none_taken T c.args.author c.loop-drops.from_ c.in_ok-body.field-0 c.in_default.is is.1) is.0));
}
