use Rattle.std.proofs.Common.{◌≡◌, ℕ, ◌+◌, slice_index, ap, sym, ◌∙◌, min, arith, inl, inr}
use Rattle.std.proofs.lemmas.Bool.{cases_lt}
use Rattle.sha_lanes.specs.Chain.{chain, chain_step}
use Rattle.sha_lanes.proofs.Chains.{chain_none, chain_goes, chain_rests}
use Rattle.sha_lanes.proofs.steps.run.Goals as goal

pub loop-turn-init : goal.loop-turn-init
loop-turn-init c = λ k low fits place start in_place in_value. chain_none place (slice_index c.args.from k) (slice_index c.args.left k) start ∙ in_value

pub loop-turn-preserved : goal.loop-turn-preserved
loop-turn-preserved c = λ k low fits place start in_place in_value.
    let from : ℕ = slice_index c.args.from k in
    let left : ℕ = slice_index c.args.left k in
    let turn : ℕ = c.loop-turn.turn in
    let held = c.loop-turn.invariant k low fits place start in_place in_value in
    elim (cases_lt turn left) [
      | inl goes ↦
          let number : slice_index c.add_number.result k ≡ from + turn = c.add_number.ensures k low ∙ omega arith in
          c.pick-picked.ensures.goes k low goes _
          (chain_goes place from turn left start goes
          ∙ ap (λ j. chain_step place j (chain place from (min turn left) start)) (sym number)
          ∙ c.step-next.ensures k low (omega (arith, number)) place _ in_place held)
      | inr rests ↦ c.pick-picked.ensures.rests k low rests _ (chain_rests place from turn left start rests ∙ held)
    ]

pub returns : goal.returns
returns c = λ k low within fits place start in_place in_value.
    let all : min c.loop-turn.turn (slice_index c.args.left k) ≡ slice_index c.args.left k = omega arith in
    ap (λ n. chain place (slice_index c.args.from k) n start) (sym all) ∙ c.loop-turn.invariant k low fits place start in_place in_value
