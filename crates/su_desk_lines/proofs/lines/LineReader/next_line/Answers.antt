use Rattle.std.proofs.Common.{◌<◌, sym, subst, drop, length, arith}
use Rattle.std.specs.Io.KnownBytes.{prepend_known}
use Rattle.su_desk_lines.specs.Script.{longest_line}
use Rattle.su_desk_lines.proofs.Broken.{After, after_taken, reads_too_long, reads_ended, reads_last, on_false, has_items}
use Rattle.su_desk_lines.proofs.lines.LineReader.next_line.Goals as goal

pub returns-then-len-gt-LONGEST_LINE : goal.returns-then-len-gt-LONGEST_LINE
returns-then-len-gt-LONGEST_LINE g c =
    let a = after_taken _ _ _ _ _ _ _ c.loop-line.invariant c.in_ok-ended.ensures.taken in
    let long : longest_line < length c.take.new.line.items = omega (arith, c.len.ensures, c.if-len-gt-LONGEST_LINE.true, c.take.new.line.ok.0) in
    reads_too_long _ _ _ _ (subst (λ r. After c.in_ok-ended.ended c.take.new.line.items (prepend_known (drop c.args.self.now.start c.args.self.now.filled.items) (g.R.Read.remaining c.args.self.now.reader)) (prepend_known (drop c.take.new.self.start c.take.new.self.filled.items) r)) (sym c.in_ok-ended.ensures.reader) a) long

pub returns-then-ended : goal.returns-then-ended
returns-then-ended g c =
    let a = after_taken _ _ _ _ _ _ _ c.loop-line.invariant c.in_ok-ended.ensures.taken in
    reads_ended c.take.new.line c.in_ok-ended.ended _ _ (subst (λ r. After c.in_ok-ended.ended c.take.new.line.items (prepend_known (drop c.args.self.now.start c.args.self.now.filled.items) (g.R.Read.remaining c.args.self.now.reader)) (prepend_known (drop c.take.new.self.start c.take.new.self.filled.items) r)) (sym c.in_ok-ended.ensures.reader) a) c.if-ended.true

pub returns-then-not-branch : goal.returns-then-not-branch
returns-then-not-branch g c =
    let a = after_taken _ _ _ _ _ _ _ c.loop-line.invariant c.in_ok-ended.ensures.taken in
    reads_last c.take.new.line c.in_ok-ended.ended c.in_ok-refill.field-0 (drop c.take.new.self.start c.take.new.self.filled.items) _ (g.R.Read.remaining c.take.new.self.reader) _
    (subst (λ r. After c.in_ok-ended.ended c.take.new.line.items (prepend_known (drop c.args.self.now.start c.args.self.now.filled.items) (g.R.Read.remaining c.args.self.now.reader)) (prepend_known (drop c.take.new.self.start c.take.new.self.filled.items) r)) (sym c.in_ok-ended.ensures.reader) a)
    c.if-ended.false (on_false c.in_ok-ended.ended _ c.in_ok-ended.ensures.empty c.if-ended.false) c.in_ok-refill.ensures.bytes c.if-not-branch.true
    (has_items c.take.new.line.items _ c.is_empty.result c.take.new.line.ok.0 c.is_empty.ensures c.if-is_empty.false)
