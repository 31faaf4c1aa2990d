use Rattle.std.proofs.Common.{◌≡◌, ◌<◌, IfSome, length, sym, ap, subst, arith}
use Rattle.std.proofs.lemmas.Bool.Decides.{nat_tests}
use Rattle.std.proofs.lemmas.List.{take_rest, length-drop}
use Rattle.su_seen.specs.Seen.{Seen, TakesLine}
use Rattle.su_seen.proofs.FileLines.{GoesOn, IsToldBefore, told_first, goes_on_first, told_next, goes_on_next, not_read, told_at_end, read_at_end}
use Rattle.su_seen.proofs.files.SeenFiles.of_text.Goals as goal

pub loop-left-init : goal.loop-left-init
loop-left-init c =
    let text = c.args.text.now in
    subst (λ (it : Seen). IsToldBefore text it text × GoesOn text it text) (sym c.new-files.ensures) (told_first text, goes_on_first text)

pub returns-in_default-clause-read : goal.returns-in_default-clause-read
returns-in_default-clause-read c files are lines =
    let some : 0 < length c.loop-left.left.now = grind (arith, nat_tests, c.loop-left-test.true, c.is_empty.ensures) in
    absurd (not_read c.args.text.now c.loop-left.left.now c.loop-left.files c.take_line.new.self c.in_ok-taken.field-0 files some
    c.loop-left.invariant.1 c.in_ok-taken.ensures.read c.in_default.is are lines)

pub loop-left-smaller : goal.loop-left-smaller
loop-left-smaller c =
    let takes : TakesLine c.loop-left.files c.take_line.new.self c.loop-left.left.now c.in-Some.taken =
    subst (λ it. IfSome it (TakesLine c.loop-left.files c.take_line.new.self c.loop-left.left.now)) c.in-Some.is c.in_ok-taken.ensures.told in
    let behind = ap length (take_rest c.loop-left.left.now c.in-Some.taken) in
    let long = length-drop c.in-Some.taken c.loop-left.left.now in
    let some = takes.some_byte in
    let within = takes.within in
    omega (arith, behind, long, some, within)

pub loop-left-preserved : goal.loop-left-preserved
loop-left-preserved c =
    let left = c.loop-left.left.now in
    let n = c.in-Some.taken in
    let after = c.take_line.new.self in
    let text = c.args.text.now in
    let takes : TakesLine c.loop-left.files after left n =
    subst (λ it. IfSome it (TakesLine c.loop-left.files after left)) c.in-Some.is c.in_ok-taken.ensures.told in
    let some : 0 < length left = let byte = takes.some_byte in let within = takes.within in omega (arith, byte, within) in
    let P : _ = λ it. IsToldBefore text after it × GoesOn text after it in
    subst P (sym (take_rest left n)) (
      told_next text left c.loop-left.files after n c.loop-left.invariant.0 takes,
      goes_on_next text left c.loop-left.files after c.in_ok-taken.field-0 n some c.loop-left.invariant.1 c.in_ok-taken.ensures.read c.in-Some.is,
    )

pub returns-clause-told : goal.returns-clause-told
returns-clause-told c =
    let none : length c.loop-left.left.now ≡ 0 = grind (arith, nat_tests, c.loop-left-test.false, c.is_empty.ensures) in
    told_at_end c.args.text.now c.loop-left.left.now c.loop-left.files none c.loop-left.invariant.0

pub returns-clause-read : goal.returns-clause-read
returns-clause-read c files are lines =
    let none : length c.loop-left.left.now ≡ 0 = grind (arith, nat_tests, c.loop-left-test.false, c.is_empty.ensures) in
    read_at_end c.args.text.now c.loop-left.left.now c.loop-left.files files none c.loop-left.invariant.1 are lines
