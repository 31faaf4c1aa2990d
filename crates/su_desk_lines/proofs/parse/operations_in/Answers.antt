use Rattle.std.proofs.Common.{codes, rules, tests}
use Rattle.std.proofs.lemmas.Iterator.Consumers.{map_from_collect}
use Rattle.std.proofs.lemmas.Iterator.Splits.{YieldsList-from_slice_split}
use Rattle.std.proofs.lemmas.Result.{IfOk-weaker}
use Rattle.su_desk_lines.specs.Script.{is_word}
use Rattle.su_desk_lines.proofs.ReadingBatches.{split_texts}
use Rattle.su_desk_lines.proofs.parse.operations_in.Goals as goal

pub returns : goal.returns
returns c =
    IfOk-weaker c.collect.result _ _ (λ parts split. split_texts c.args.words.now parts.items split)
    (map_from_collect _ c.collect.ensures.ran (YieldsList-from_slice_split _ (λ w. is_word (codes "+") w.now) c.args.words.now c.split.ensures.rest c.split.ensures.done c.split.ensures.closure (λ x b q k. search (rules, tests))))
