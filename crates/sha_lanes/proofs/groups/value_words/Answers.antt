use Rattle.std.proofs.Common.{◌≡◌, ℕ, ◌*◌, List, [], ◌∷◌, slice_index, sym, ◌∙◌, arith}
use Rattle.std.proofs.lemmas.List.{take_all}
use Rattle.sha2.specs.Sha256.{word_at}
use Rattle.sha_lanes.specs.declared.runs.ChainRun.{ChainRun}
use Rattle.sha_lanes.specs.Run.{run_at}
use Rattle.sha_lanes.proofs.Bytes.{words_bytes}
use Rattle.sha_lanes.proofs.LaneLemmas.{below_eight}
use Rattle.sha_lanes.proofs.groups.value_words.Goals as goal

pub returns : goal.returns
returns c = λ l low.
    let run : ChainRun = run_at c.args.group.now l in
    let words : List ℕ = slice_index c.value_word.result l ∷ slice_index c.value_word-2.result l ∷ slice_index c.value_word-3.result l ∷ slice_index c.value_word-4.result l ∷ slice_index c.value_word-5.result l ∷ slice_index c.value_word-6.result l ∷ slice_index c.value_word-7.result l ∷ slice_index c.value_word-8.result l ∷ [] in
    sym (words_bytes run.value words 8
    (below_eight (λ k. slice_index words k ≡ word_at run.value (4 * k)) (c.value_word.ensures l low) (c.value_word-2.ensures l low) (c.value_word-3.ensures l low) (c.value_word-4.ensures l low) (c.value_word-5.ensures l low) (c.value_word-6.ensures l low) (c.value_word-7.ensures l low) (c.value_word-8.ensures l low))
    (omega (arith, run.value_bytes.0)) run.value_bytes.1 ∙ take_all 32 run.value (omega (arith, run.value_bytes.0)))
