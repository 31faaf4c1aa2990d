use Rattle.std.proofs.Common.{◌≡◌, ◌≤◌, sym, ℕ, IsTrue, None, Some, subst, arith, rules, tests}
use Rattle.std.proofs.lemmas.Bool.Decides.{nat_tests}
use Rattle.su_bytes.specs.FileId.{is_inum}
use Rattle.su_table.specs.Free.{IsLeastTaken}
use Rattle.su_table.specs.Query.{is_free_at}
use Rattle.su_table.proofs.Nexts.{next_found, next_none, next_other, taken_least}
use Rattle.su_table.proofs.forests.Forest.next_inode.Goals as goal

-- a number of the range of i-numbers is one
number_is : (n k : ℕ) → k ≡ n → 1 ≤ k → k ≤ 1000000 → IsTrue (is_inum n)
number_is n k e low high = subst (λ i. IsTrue (is_inum i)) e (search (rules, tests))

pub returns-in_err-place : goal.returns-in_err-place
returns-in_err-place c =
    let none = next_none c.self.inside.inodes c.args.user c.args.from_ c.range.result (c.range.ensures.in_range tt) c.in_err-place.ensures.steps.0 in
    let least = taken_least c.self.inside.inodes _ c.args.self.now c.self.view_is c.args.user c.args.from_ None none in
    subst (λ found. IsLeastTaken (λ i. is_free_at c.args.self.now (c.args.user, i)) c.args.from_ found) (sym c.from_residual.ensures) least

pub returns-then-eq : goal.returns-then-eq
returns-then-eq c =
    let number = number_is c.in_ok-place.place.now.1 c.number-number.result c.number-number.ensures.value c.number-number.ensures.range.0 c.number-number.ensures.range.1 in
    let found = next_found c.self.inside.inodes c.args.user c.args.from_ c.range.result _ _ (c.range.ensures.in_range tt) c.in_ok-place.ensures.steps (grind (arith, nat_tests)) number in
    taken_least c.self.inside.inodes _ c.args.self.now c.self.view_is c.args.user c.args.from_ (Some c.in_ok-place.place.now.1) found

pub returns-else-eq : goal.returns-else-eq
returns-else-eq c =
    let other = next_other c.self.inside.inodes c.args.user c.args.from_ c.range.result _ _ (c.range.ensures.in_range tt) c.in_ok-place.ensures.steps (grind (arith, nat_tests)) in
    taken_least c.self.inside.inodes _ c.args.self.now c.self.view_is c.args.user c.args.from_ None other
