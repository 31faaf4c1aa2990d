use Rattle.std.proofs.Common.{ℕ, ◌∙◌, ap, ◌+◌, ◌-◌, None, get_or}
use Rattle.su_history.specs.declared.line.Line.{Line}
use Rattle.su_history.specs.Line.{line_of}
use Rattle.su_history.proofs.LineLemmas.{line_is, line_told}
use Rattle.su_history.proofs.history.line.Goals as goal

pub returns : goal.returns
returns c = λ e es is.
    let x = c.index-entries-first.result in
    let y = c.index-entries-end.result in
    let fate = c.fate_of.ensures in
    let by : ℕ → Line = λ a. record { first = c.args.first + 1; last = c.args.end; author = a; deed = c.in_ok-deed_of_run.field-0; fate = c.fate_of.result } in
    ap by c.author.ensures
    ∙ line_told (c.args.first + 1) c.args.end x y c.in-Some.bytes (get_or c.args.undoers.now (c.args.end - 1) None) c.in_ok-deed_of_run.field-0 c.fate_of.result (line_of (record { first = e; others = es })) c.in_ok-deed_of_run.ensures fate
    (line_is c.args.entries.now c.args.undoers.now c.args.first c.args.end x y c.in-Some.bytes c.requires.undoers c.requires.some c.requires.there c.index-entries-first.is c.index-entries-end.is c.in-Some.ensures e es is)
