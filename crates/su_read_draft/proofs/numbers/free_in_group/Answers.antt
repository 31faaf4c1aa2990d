use Rattle.std.proofs.Common.{◌∙◌, ap, sym, refl, inr}
use Rattle.su_reading.proofs.Public.{ends_ok, ends_err}
use Rattle.std.proofs.Common.{◌≡◌, ℕ, Option, arith}
use Rattle.std.specs.Option.{ok_or}
use Rattle.su_bytes.specs.declared.file_ids.FileId.TheVariants.{Group}
use Rattle.su_bytes.specs.declared.refusals.Refusal.TheVariants.{BadNumber}
use Rattle.su_table.specs.Free.{IsLeastFree}
use Rattle.su_table.specs.Query.{is_pointer_free}
use Rattle.su_table.specs.Tree.{Tree}
use Rattle.su_draft.specs.Number.{free_group_number}
use Rattle.su_draft.proofs.LeastFree.{least_free-is}
use Rattle.su_read_draft.proofs.numbers.free_in_group.Goals as goal

least : (T : Tree) (k : ℕ) (o : Option ℕ) → IsLeastFree (λ n. is_pointer_free T (Group k n)) 1 o → free_group_number T k ≡ ok_or o BadNumber
unfolding free_group_number
least T k o h = ap (λ (x : Option ℕ). ok_or x BadNumber) (sym (least_free-is (λ n. is_pointer_free T (Group k n)) 1 o (omega arith) h))

pub returns-in-Some : goal.returns-in-Some
returns-in-Some g c = record {
  works_out = ends_ok c.in_ok-number.field-0 c.in-Some.number c.in_ok-number.was refl c.free_group_number.ensures.finds
      (λ T is. least T c.args.group c.in_ok-number.field-0 is ∙ rw c.in-Some.is refl);
}

pub returns-in-None : goal.returns-in-None
returns-in-None g c = record {
  works_out = ends_err c.in_ok-number.field-0 BadNumber c.in_ok-number.was refl c.free_group_number.ensures.finds
      (λ T is. inr (least T c.args.group c.in_ok-number.field-0 is ∙ rw c.in-None.is refl));
}
