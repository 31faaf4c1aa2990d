use Rattle.std.proofs.Common.{sym, ◌∙◌}
use Rattle.sha_lanes.specs.Lanes.{lane}
use Rattle.sha_lanes.proofs.LaneLemmas.{word_of_lane}
use Rattle.sha_lanes.proofs.Chains.{same_words}
use Rattle.sha_lanes.proofs.steps.pick.Goals as goal

pub returns-clause-goes : goal.returns-clause-goes
returns-clause-goes c = λ l low goes v held.
    let word = word_of_lane c.args.next.now l in
    held
    ∙ same_words (lane l c.args.next.now) _ _ _ _ _ _ _ _
    (c.pick_word-a.ensures.goes l low goes ∙ sym (word 0)) (c.pick_word-b.ensures.goes l low goes ∙ sym (word 1))
    (c.pick_word-c.ensures.goes l low goes ∙ sym (word 2)) (c.pick_word-d.ensures.goes l low goes ∙ sym (word 3))
    (c.pick_word-e.ensures.goes l low goes ∙ sym (word 4)) (c.pick_word-f.ensures.goes l low goes ∙ sym (word 5))
    (c.pick_word-g.ensures.goes l low goes ∙ sym (word 6)) (c.pick_word-h.ensures.goes l low goes ∙ sym (word 7))

pub returns-clause-rests : goal.returns-clause-rests
returns-clause-rests c = λ l low rests v held.
    let word = word_of_lane c.args.old.now l in
    held
    ∙ same_words (lane l c.args.old.now) _ _ _ _ _ _ _ _
    (c.pick_word-a.ensures.rests l low rests ∙ sym (word 0)) (c.pick_word-b.ensures.rests l low rests ∙ sym (word 1))
    (c.pick_word-c.ensures.rests l low rests ∙ sym (word 2)) (c.pick_word-d.ensures.rests l low rests ∙ sym (word 3))
    (c.pick_word-e.ensures.rests l low rests ∙ sym (word 4)) (c.pick_word-f.ensures.rests l low rests ∙ sym (word 5))
    (c.pick_word-g.ensures.rests l low rests ∙ sym (word 6)) (c.pick_word-h.ensures.rests l low rests ∙ sym (word 7))
