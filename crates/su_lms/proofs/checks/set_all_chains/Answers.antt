use Rattle.std.proofs.Common.{◌≡◌, ℕ, ◌+◌, ◌*◌, ◌-◌, ◌≤◌, List, length, get_or, drop, ap, ◌∙◌, subst, inl, inr, arith}
use Rattle.std.proofs.lemmas.Bool.{cases_lt}
use Rattle.std.proofs.lemmas.List.{get_or_default, length-take-le, length-drop}
use Rattle.std.proofs.lemmas.Nat.{mul-add-lt, row_fits}
use borrow.Rule.Slice.PartMut.{put_mid}
use Rattle.sha_lanes.specs.declared.runs.ChainRun.{ChainRun}
use Rattle.sha_lanes.specs.Run.{end_of, idle, run_at}
use Rattle.su_lms.specs.Check.{EndsSo}
use Rattle.su_lms.specs.declared.checks.Check.{Check}
use Rattle.su_lms.proofs.Parts.{get_or_before, get_or_inside}
use Rattle.su_lms.proofs.checks.set_all_chains.Goals as goal

pub loop-k-preserved : goal.loop-k-preserved
loop-k-preserved c =
    let checks : List Check = c.args.checks.now in
    let stride : ℕ = c.args.stride in
    let k : ℕ = c.loop-k.k in
    let before : List ChainRun = c.loop-k.runs in
    let part : List ChainRun = c.set_chains.new.runs in
    let count : ℕ = k * stride + stride - k * stride in
    let fits : k * stride + stride ≤ length checks * stride = row_fits k stride (length checks) stride c.loop-k-test.true (omega arith) in
    let inside : k * stride + count ≤ length before = omega arith in
    let long : length part ≡ count = c.set_chains.auto.runs ∙ length-take-le count (drop (k * stride) before) (omega (arith, length-drop (k * stride) before)) in
    λ j d low. elim (cases_lt j k) [
      | inl less ↦ λ shape i within.
          ap end_of (get_or_before (k * stride) count before part long inside idle (j * stride + i)
          (omega (arith, mul-add-lt j stride i k less (omega (arith, c.requires.most j d (omega arith))))))
          ∙ c.loop-k.invariant j d less shape i within
      | inr at ↦
          let same : k ≡ j = omega arith in
          let check : c.index-checks-k.result ≡ get_or checks k d = c.index-checks-k.is ∙ get_or_default checks k c.index-checks-k.result d c.loop-k-test.true in
          let here : EndsSo (get_or checks k d) (λ i. end_of (run_at part i)) = subst (λ (check : Check). EndsSo check (λ i. end_of (run_at part i))) check c.set_chains.ensures in
          subst (λ (n : ℕ). EndsSo (get_or checks n d) (λ i. end_of (run_at (put_mid (k * stride) count before part) (n * stride + i)))) same
          (λ shape i within.
          ap end_of (get_or_inside (k * stride) count before part long inside idle i (omega (arith, c.requires.most k d c.loop-k-test.true)))
          ∙ here shape i within)
    ]
