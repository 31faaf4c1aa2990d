use Rattle.std.proofs.Common.{◌≡◌, ℕ, List, ◌++◌, length, take, sym, ap, ◌∙◌, subst}
use Rattle.std.specs.List.{AllByRecursion}
use Rattle.std.proofs.Math.Seq.{take-append_seam}
use Rattle.su_log.specs.Record.{IsExamined, IsRead}
use Rattle.su_log.specs.declared.records.Record.{Record}
use Rattle.su_log_ahead.proofs.Public.{examined}
use Rattle.su_client_work.proofs.ready.Fetched.examined.Goals as goal

given_back : (n : ℕ) (ys zs : List Record) → length ys ≡ n → take n (ys ++ zs) ≡ ys
given_back n ys zs long = ap (λ m. take m (ys ++ zs)) (sym long) ∙ take-append_seam ys zs

pub invariant_of-result : goal.invariant_of-result
invariant_of-result g c =
    let long : length c.examine.new.records ≡ length c.as_mut_slice.result.now = c.examine.auto.records in
    let back : c.from_vec.result.items ≡ c.examine.new.records = c.from_vec.ensures.items ∙ given_back c.self.inside.records.len c.examine.new.records _ (long ∙ c.as_mut_slice.ensures.len) in
    subst (AllByRecursion IsExamined) (sym back)
    (examined c.as_mut_slice.result.now c.examine.new.records long
    (subst (AllByRecursion (λ (r : Record). IsRead r.bytes.items r.commit)) (sym c.as_mut_slice.ensures.value) c.self.invariant) c.examine.ensures)
