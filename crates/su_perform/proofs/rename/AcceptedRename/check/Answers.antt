use Rattle.std.proofs.Common.{◌∙◌, sym}
use Rattle.su_op.proofs.RenameLemmas.{refused_as_there, accepted_at}
use Rattle.su_perform.proofs.rename.AcceptedRename.check.Goals as goal
use Rattle.std.proofs.lemmas.Bool.{not-false}

pub returns-then-not-is_name_free-clause-refused : goal.returns-then-not-is_name_free-clause-refused
returns-then-not-is_name_free-clause-refused c sound =
    c.in_ok-source.ensures.refusal sound
    ∙ refused_as_there _ _ _ _ _ _ (sym (c.is_directory.ensures sound) ∙ c.if-not-is_directory.false) (sym (c.is_directory-2.ensures sound) ∙ c.if-not-is_directory-2.false)
    (not-false _ (sym c.ne.ensures ∙ c.if-ne.false)) (not-false _ (sym c.ne-2.ensures ∙ c.if-ne-2.false)) (sym (c.leads_to.ensures sound) ∙ c.if-not-leads_to.false)
    (sym (c.is_name_free.ensures sound) ∙ c.if-not-is_name_free.true)

pub returns-clause-accepted : goal.returns-clause-accepted
returns-clause-accepted c sound =
    c.in_ok-source.ensures.refusal sound
    ∙ accepted_at _ _ _ _ _ _ (sym (c.is_directory.ensures sound) ∙ c.if-not-is_directory.false) (sym (c.is_directory-2.ensures sound) ∙ c.if-not-is_directory-2.false)
    (not-false _ (sym c.ne.ensures ∙ c.if-ne.false)) (not-false _ (sym c.ne-2.ensures ∙ c.if-ne-2.false)) (sym (c.leads_to.ensures sound) ∙ c.if-not-leads_to.false)
    (sym (c.is_name_free.ensures sound) ∙ c.if-not-is_name_free.false) (sym (c.moves_directory.ensures sound) ∙ c.if-moves_directory.false)
