use Rattle.std.proofs.Common.{◌≡◌, ℕ, ◌*◌, ◌<◌, ◌++◌, List, [], ◌∷◌, zero, suc, slice_index, sym, ap, ◌∙◌, arith}
use Rattle.std.specs.Int.{w16, w32, to_be_bytes}
use Rattle.std.proofs.lemmas.List.{take_all}
use Rattle.sha2.specs.Sha256.{word_at, digest_bytes}
use Rattle.sha_lanes.specs.declared.runs.ChainRun.{ChainRun}
use Rattle.sha_lanes.specs.Run.{run_at}
use Rattle.sha_lanes.proofs.Bytes.{words_bytes, digest_more}
use Rattle.sha_lanes.proofs.groups.leaf_words.Goals as goal

below_four : (P : ℕ → Type 0) → P 0 → P 1 → P 2 → P 3 → (k : ℕ) → k < 4 → P k
below_four P a b c d zero low = a
below_four P a b c d (suc zero) low = b
below_four P a b c d (suc (suc zero)) low = c
below_four P a b c d (suc (suc (suc zero))) low = d
below_four P a b c d (suc (suc (suc (suc n)))) low = absurd (omega arith)

pub returns : goal.returns
returns c = λ l low index is.
    let run : ChainRun = run_at c.args.group.now l in
    let words : List ℕ = slice_index c.id_word.result l ∷ slice_index c.id_word-2.result l ∷ slice_index c.id_word-3.result l ∷ slice_index c.id_word-4.result l ∷ slice_index c.leaf_numbers.result l ∷ [] in
    let id : run.id ≡ digest_bytes words 4 =
    sym (words_bytes run.id words 4
    (below_four (λ k. slice_index words k ≡ word_at run.id (4 * k)) (c.id_word.ensures l low) (c.id_word-2.ensures l low) (c.id_word-3.ensures l low) (c.id_word-4.ensures l low))
    (omega (arith, run.id_bytes.0)) run.id_bytes.1 ∙ take_all 16 run.id (omega (arith, run.id_bytes.0))) in
    ap (λ s. s ++ to_be_bytes w32 run.leaf ++ to_be_bytes w16 run.chain) id
    ∙ ap (λ n. digest_bytes words 4 ++ to_be_bytes w32 n ++ to_be_bytes w16 run.chain) (sym (c.leaf_numbers.ensures l low))
    ∙ ap (λ n. digest_bytes words 4 ++ to_be_bytes w32 (slice_index c.leaf_numbers.result l) ++ to_be_bytes w16 n) (sym is)
    ∙ ap (λ s. s ++ to_be_bytes w16 (slice_index index l)) (sym (digest_more words 4))
