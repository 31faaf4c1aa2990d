use Rattle.std.proofs.Common.{◌∙◌, ◌++◌, map, drop, sym, ap, arith}
use Rattle.std.proofs.lemmas.List.{append-nil, drop_all}
use Rattle.su_history.specs.Line.{line_of, numbered, runs}
use Rattle.su_history.proofs.NumberedEntries.{length_numbered}
use Rattle.su_history.proofs.RunLemmas.{one_line_more}
use Rattle.su_history.proofs.history.lines.Goals as goal

pub loop-first-preserved : goal.loop-first-preserved
loop-first-preserved c =
    let h = c.args.entries.now in
    let more = one_line_more h c.loop-first.first c.end_of_run-end.result c.loop-first.lines.items c.in_ok-line.field-0 c.end_of_run-end.ensures.above c.end_of_run-end.ensures.inside c.end_of_run-end.ensures.goes_on
    c.end_of_run-end.ensures.longest c.in_ok-line.ensures c.loop-first.invariant.lines in
    record {
      within = c.end_of_run-end.ensures.inside;
      lines = more ∙ ap (λ ls. ls ++ map line_of (runs (drop c.end_of_run-end.result (numbered h)))) (sym c.in_ok-push.ensures.items);
    }

pub returns : goal.returns
returns c =
    let h = c.args.entries.now in
    let count = length_numbered h in
    let end = c.loop-first-test.false in
    sym (c.loop-first.invariant.lines
    ∙ ap (λ es. c.loop-first.lines.items ++ map line_of (runs es)) (drop_all c.loop-first.first (numbered h) (omega (arith, count, end)))
    ∙ append-nil c.loop-first.lines.items)
