use Rattle.std.proofs.Common.{◌∙◌, ap, sym, refl, inr}
use Rattle.std.proofs.lemmas.Result.{err_from_is_err_and}
use Rattle.su_reading.proofs.Public.{ends_ok, ends_err, err_at_once}
use Rattle.std.proofs.Common.{◌≡◌, ◌≤◌, ◌+◌, ℕ, IsTrue, Option, arith, subst}
use Rattle.std.specs.Option.{ok_or}
use Rattle.std.proofs.lemmas.Bool.{false≢true}
use Rattle.su_bytes.specs.FileId.{is_inum}
use Rattle.su_bytes.specs.declared.refusals.Refusal.TheVariants.{BadNumber}
use Rattle.su_table.specs.Free.{IsLeastFree}
use Rattle.su_table.specs.Query.{is_free_at}
use Rattle.su_table.specs.Tree.{Tree}
use Rattle.su_draft.specs.Number.{free_body, least_free}
use Rattle.su_draft.proofs.LeastFree.{least_free-is, least_free-past}
use Rattle.su_read_draft.proofs.numbers.free_body.Goals as goal

pub returns-in_err-start : goal.returns-in_err-start
unfolding free_body
returns-in_err-start g c =
    let p = err_from_is_err_and c.from_residual.result c.from_residual.ensures.1 in
    let next : c.args.used + 1 ≡ c.from.result + 1 = omega (arith, c.from.ensures) in
    record {
      works_out = err_at_once p.0 p.1 (g.met.R.TreeReader.follows_itself c.args.reader.now) (λ T.
          let past = least_free-past (λ i. is_free_at T (c.args.user, i)) (c.args.used + 1) (λ h. false≢true (c.in_err-start.ensures.accepted.1 (subst (λ (n : ℕ). IsTrue (is_inum n)) next h))) (omega arith) in
          inr (rw (p.2, c.in_err-start.ensures.refused, past) refl));
    }

least : (T : Tree) (a used start : ℕ) (o : Option ℕ) → 1 ≤ start → start ≡ used + 1 → IsLeastFree (λ i. is_free_at T (a, i)) start o → free_body T a used ≡ ok_or o BadNumber
unfolding free_body
least T a used start o low is h =
    ap (λ (n : ℕ). ok_or (least_free (λ i. is_free_at T (a, i)) n) BadNumber) (sym is) ∙ ap (λ (x : Option ℕ). ok_or x BadNumber) (sym (least_free-is (λ i. is_free_at T (a, i)) start o low h))

pub returns-in-Some : goal.returns-in-Some
returns-in-Some g c =
    let start : c.in_ok-start.start ≡ c.args.used + 1 = omega (arith, c.in_ok-start.ensures.value, c.from.ensures) in
    record {
      works_out = ends_ok c.in_ok-number.field-0 c.in-Some.number c.in_ok-number.was refl c.free_number.ensures.finds
          (λ T is. least T c.args.user c.args.used c.in_ok-start.start c.in_ok-number.field-0 (omega (arith, start)) start is ∙ rw c.in-Some.is refl);
    }

pub returns-in-None : goal.returns-in-None
returns-in-None g c =
    let start : c.in_ok-start.start ≡ c.args.used + 1 = omega (arith, c.in_ok-start.ensures.value, c.from.ensures) in
    record {
      works_out = ends_err c.in_ok-number.field-0 BadNumber c.in_ok-number.was refl c.free_number.ensures.finds
          (λ T is. inr (least T c.args.user c.args.used c.in_ok-start.start c.in_ok-number.field-0 (omega (arith, start)) start is ∙ rw c.in-None.is refl));
    }
