use Rattle.std.proofs.Common.{◌≡◌, ℕ, ◌+◌, ◌*◌, ◌-◌, ◌≤◌, List, length, drop, ◌∙◌, arith}
use Rattle.std.proofs.lemmas.List.{length-take-le, length-drop}
use Rattle.su_lms.specs.declared.checks.Check.{Check}
use Rattle.su_lms.proofs.Checking.{verified_on, same_behind}
use Rattle.su_lms.proofs.checks.verify_all.Goals as goal

pub loop-group-preserved : goal.loop-group-preserved
loop-group-preserved c =
    let before : List Check = c.loop-group.checks in
    let part : List Check = c.verify_group.new.checks in
    let first : ℕ = 8 * c.loop-group.group in
    let count : ℕ = c.min-end.result - first in
    let inside : first + count ≤ length before = omega (arith, c.min-end.ensures) in
    let taken = length-take-le count (drop first before) (omega (arith, length-drop first before)) in
    let long : length part ≡ count = c.verify_group.auto.checks ∙ taken in
    record {
      room = c.verify_group.auto.runs ∙ c.loop-group.invariant.room;
      each = λ k d low in_checks.
          verified_on first count _ before part long inside c.loop-group.invariant.each c.loop-group.invariant.others
          (λ k d low. c.verify_group.ensures k d (omega (arith, taken))) k d (omega (arith, c.min-end.ensures)) in_checks;
      others = λ k d high.
          same_behind first count _ before part long inside c.loop-group.invariant.others k d (omega (arith, c.min-end.ensures));
    }
