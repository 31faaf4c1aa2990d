use Rattle.std.proofs.Common.{◌≡◌, length, sym, ◌∙◌, subst}
use Rattle.std.specs.List.{AllByRecursion}
use Rattle.su_log.specs.Record.{IsExamined, IsRead}
use Rattle.su_log.specs.declared.records.Record.{Record}
use Rattle.su_log_ahead.specs.Ahead.{IsLeft, IsUsedUp}
use Rattle.su_log_ahead.proofs.AheadLemmas.{ahead, all_unread, examined, left_examined, given_back}
use Rattle.su_log_ahead.proofs.ahead.Ahead.read_ahead.Goals as goal

pub invariant_of-self : goal.invariant_of-self
invariant_of-self g c =
    let long : length c.examine.new.records ≡ length c.as_mut_slice.result.now = c.examine.auto.records in
    let back : c.from_vec.result.items ≡ c.examine.new.records = c.from_vec.ensures.items ∙ given_back c.in-Ok.records.len c.examine.new.records _ (long ∙ c.as_mut_slice.ensures.len) in
    subst (AllByRecursion IsExamined) (sym back)
    (examined c.as_mut_slice.result.now c.examine.new.records long
    (subst (AllByRecursion (λ (r : Record). IsRead r.bytes.items r.commit)) (sym c.as_mut_slice.ensures.value) c.in-Ok.ensures.read) c.examine.ensures)

pub returns-in-Ok-clause-left : goal.returns-in-Ok-clause-left
returns-in-Ok-clause-left g c = λ place input l.
    let inside = c.self.inside in
    let before = ahead inside.records.items inside.stop inside.log.place (g.R.Read.remaining inside.log.reader) in
    let (here, known) = all_unread before place input (subst IsUsedUp (sym c.self.view_is) c.requires) (subst (λ s. IsLeft s place input) (sym c.self.view_is) l) in
    let long : length c.examine.new.records ≡ length c.as_mut_slice.result.now = c.examine.auto.records in
    let back : c.from_vec.result.items ≡ c.examine.new.records = c.from_vec.ensures.items ∙ given_back c.in-Ok.records.len c.examine.new.records _ (long ∙ c.as_mut_slice.ensures.len) in
    let behind = g.R.Read.remaining c.read_records.new.log.reader in
    let read = subst (λ p. IsLeft (ahead c.in-Ok.records.items c.in-Ok.stop c.read_records.new.log.place behind) p input) here (c.in-Ok.ensures.left input known) in
    subst (λ xs. IsLeft (ahead xs c.in-Ok.stop c.read_records.new.log.place behind) place input) (sym back)
    (left_examined c.as_mut_slice.result.now c.examine.new.records c.in-Ok.stop _ _ place input long c.examine.ensures
    (subst (λ xs. IsLeft (ahead xs c.in-Ok.stop c.read_records.new.log.place behind) place input) (sym c.as_mut_slice.ensures.value) read))
