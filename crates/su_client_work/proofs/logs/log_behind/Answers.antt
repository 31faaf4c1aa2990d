use Rattle.std.proofs.Common.{◌≡◌, ℕ, List, Err, ◌++◌, ◌∙◌, ap, sym, arith, take}
use Rattle.std.proofs.lemmas.List.{append_assoc}
use Rattle.std.proofs.lemmas.Result.{err_from_is_err_and}
use Rattle.su_bytes.specs.declared.refusals.Refusal.TheVariants.{MissingBlock}
use Rattle.su_client_work.specs.SavedLog.{saved_log, entry_bytes}
use Rattle.su_client_work.proofs.SavedLogs.{missing_left, saved_more, saved_rest}
use Rattle.su_client_work.proofs.logs.log_behind.Goals as goal

pub loop-before-preserved : goal.loop-before-preserved
loop-before-preserved g c =
    let held = c.args.view.now.holding.held in
    let left_out = saved_log (take c.args.from_ held) in
    let count = ap (λ (head : ℕ × List ℕ). head.0) c.head-count.ensures.value in
    let test = c.loop-before-test.true in
    saved_more held c.loop-before.before (left_out ++ c.loop-before.log.items) (left_out ++ c.put_entry.new.log.items)
    (omega (arith, count, test)) c.loop-before.invariant
    (λ d there. ap (λ (l : List ℕ). left_out ++ l) (c.in_ok-put_entry.ensures.value d there) ∙ sym (append_assoc left_out c.loop-before.log.items (entry_bytes d)))

pub returns-clause-value : goal.returns-clause-value
returns-clause-value g c =
    let held = c.args.view.now.holding.held in
    let count = ap (λ (head : ℕ × List ℕ). head.0) c.head-count.ensures.value in
    let test = c.loop-before-test.false in
    saved_rest held c.args.from_ c.loop-before.before c.loop-before.log.items (omega (arith, count, test)) c.loop-before.invariant

pub returns-in_err-put_entry-clause-missing : goal.returns-in_err-put_entry-clause-missing
returns-in_err-put_entry-clause-missing g c = λ missing.
    let held = c.args.view.now.holding.held in
    let count = ap (λ (head : ℕ × List ℕ). head.0) c.head-count.ensures.value in
    let test = c.loop-before-test.true in
    let p = err_from_is_err_and c.from_residual.result c.from_residual.ensures.1 in
    let same = sym (p.1 ∙ ap Err p.2) ∙ missing in
    let gone : c.in_err-put_entry.field-0.0 ≡ MissingBlock = cc in
    missing_left held c.loop-before.before c.args.from_ c.args.view.now.holding.itemless c.loop-before.auto.before (omega (arith, count, test))
    (c.in_err-put_entry.ensures.missing (ap Err gone))
