use Rattle.std.proofs.Common.{◌≡◌, ◌<◌, ◌++◌, ap, ◌∙◌, sym, arith}
use Rattle.su_book.specs.declared.keeping.TheConstants.{USERS}
use Rattle.su_book.specs.Machine.{last_numbers, last_numbers_below, last_number, paired}
use Rattle.su_book.proofs.LastLemmas.{below_more, number_read}
use Rattle.su_book.proofs.keeping.last_numbers.Goals as goal

pub loop-number-init : goal.loop-number-init
unfolding last_numbers_below
loop-number-init c cs are = c.new-numbers.ensures.items

pub loop-number-preserved : goal.loop-number-preserved
loop-number-preserved c cs are =
    let n = c.loop-number.number in
    let below : n < USERS = c.loop-number-test.true in
    let read : c.index.result.now ≡ last_number n cs = number_read cs c.args.last.now.items are n c.index.result.now below c.index.ensures in
    c.in_ok-push_paired.ensures
    ∙ (λ i. c.loop-number.invariant cs are i ++ paired (c.in-Ok.ensures.value i) (read i))
    ∙ sym (below_more n cs)

pub returns : goal.returns
unfolding last_numbers
returns c cs are =
    let all : c.loop-number.number ≡ USERS = omega arith in
    c.loop-number.invariant cs are ∙ ap (λ n. last_numbers_below n cs) all
