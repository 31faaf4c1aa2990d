use Rattle.std.proofs.Common.{◌≡◌, List, ℕ, ◌+◌, ◌-◌, arith, subst, sym}
use Rattle.su_part.specs.InPlace.{HasJust, KeepsBelow}
use Rattle.su_part.proofs.InPlaceLemmas.{below_itself, below_on}
use Rattle.su_part.proofs.blocks.PartBytes.take_blocks.Goals as goal

pub loop-number-init : goal.loop-number-init
loop-number-init c = record {
  low = omega (arith, c.requires.order);
  high = omega arith;
  just = λ f h. h;
  keeps = λ f h. below_itself c.args.until c.args.self.now;
}

pub loop-number-preserved : goal.loop-number-preserved
loop-number-preserved c =
    let n = c.loop-number.number in
    let inv = c.loop-number.invariant in
    let low = inv.low in
    let high = inv.high in
    let some = c.loop-number-test.true in
    let e : n - 1 + 1 ≡ n = omega (arith, some) in
    let there = λ (f : ℕ → List ℕ) (h : HasJust f c.args.until c.args.self.now). subst (λ j. HasJust f j c.loop-number.self) (sym e) (inv.just f h) in
    let path = λ (f : ℕ → List ℕ) (h : HasJust f c.args.until c.args.self.now). (inv.keeps f h).paths (n - 1) (omega (arith, some)) (c.requires.paths (n - 1) (omega (arith, some)) (omega (arith, some, high))) in
    record {
      low = omega (arith, some);
      high = omega (arith, high);
      just = λ f h. c.take_block.ensures.just f (there f h) (path f h);
      keeps = λ f h. below_on n (n - 1) c.args.self.now c.loop-number.self c.take_block.new.self (omega arith) (inv.keeps f h) (c.take_block.ensures.keeps f (there f h) (path f h));
    }

pub returns-clause-just : goal.returns-clause-just
returns-clause-just c f h =
    let low = c.loop-number.invariant.low in
    let e : c.loop-number.number ≡ c.args.first = omega (arith, low, c.loop-number-test.false) in
    subst (λ j. HasJust f j c.loop-number.self) e (c.loop-number.invariant.just f h)

pub returns-clause-keeps : goal.returns-clause-keeps
returns-clause-keeps c f h =
    let low = c.loop-number.invariant.low in
    let e : c.loop-number.number ≡ c.args.first = omega (arith, low, c.loop-number-test.false) in
    subst (λ j. KeepsBelow j c.args.self.now c.loop-number.self) e (c.loop-number.invariant.keeps f h)
