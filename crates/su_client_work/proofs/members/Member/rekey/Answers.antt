use Rattle.std.proofs.Common.{Ok, Err, List, ℕ, refl, sym, ap, ◌∙◌, subst}
use Rattle.std.proofs.lemmas.Result.{err_from_is_err_and}
use Rattle.su_lms.specs.PrivateKey.{key_of}
use Rattle.su_op.specs.declared.operations.Change.TheVariants.{Rekey}
use Rattle.su_client.specs.Link.{LinkState}
use Rattle.su_client_work.specs.Publishing.{always, CommitsAtMost, IsOver, Publishes, RekeysAtMost}
use Rattle.su_client_work.specs.Turn.{Comes}
use Rattle.su_client_work.proofs.Working.{works_then, works_replaced}
use Rattle.su_client_work.proofs.members.Member.rekey.Goals as goal

pub returns-in_err-number-clause-signs : goal.returns-in_err-number-clause-signs
returns-in_err-number-clause-signs g c =
    let p = err_from_is_err_and c.from_residual.result c.from_residual.ensures.1 in
    let key = c.as_bytes.ensures.value ∙ c.public.ensures in
    subst (λ r. RekeysAtMost (key_of c.args.signer.key) c.args.signer.next c.args.self.now r c.change.new.self) (sym (p.1 ∙ ap Err p.2))
    (record {
      between = c.change.new.self;
      commits = subst (λ (k : List ℕ). CommitsAtMost (always (Rekey k)) c.args.self.now (Err c.in_err-number.field-0.0) c.change.new.self) key c.in_err-number.ensures.signs;
      replaces = refl;
    })

pub returns-in_err-number-clause-over : goal.returns-in_err-number-clause-over
returns-in_err-number-clause-over g c =
    let p = err_from_is_err_and c.from_residual.result c.from_residual.ensures.1 in
    let key = c.as_bytes.ensures.value ∙ c.public.ensures in
    rw (p.1, p.2) (subst (λ (k : List ℕ). IsOver g.A.Surroundings.may_connect (Rekey k) c.args.self.now c.change.new.self c.in_err-number.field-0.0) key c.in_err-number.ensures.over)

pub returns-clause-works : goal.returns-clause-works
returns-clause-works g c =
    works_then c.args.self.now c.change.new.self c.replace_key.new.self c.change.ensures.works (works_replaced c.change.new.self c.replace_key.new.self c.args.signer.next c.replace_key.ensures)

pub returns-clause-signs : goal.returns-clause-signs
returns-clause-signs g c = record {
  between = c.change.new.self;
  commits = subst (λ (k : List ℕ). CommitsAtMost (always (Rekey k)) c.args.self.now (Ok c.in_ok-number.number) c.change.new.self) (c.as_bytes.ensures.value ∙ c.public.ensures) c.in_ok-number.ensures.signs;
  replaces = c.replace_key.ensures;
}

pub returns-clause-link : goal.returns-clause-link
returns-clause-link g c = subst (λ (l : LinkState). Comes g.A.Surroundings.may_connect c.args.self.now.link l) (sym c.replace_key.ensures.link) c.change.ensures.link

pub returns-clause-published : goal.returns-clause-published
returns-clause-published g c = record {
  between = c.change.new.self;
  publishes = subst (λ (k : List ℕ). Publishes g.A.Surroundings.may_connect (always (Rekey k)) c.args.self.now c.change.new.self c.in_ok-number.number) (c.as_bytes.ensures.value ∙ c.public.ensures)
      c.in_ok-number.ensures.published;
  replaces = c.replace_key.ensures;
}
