use Rattle.std.proofs.Common.{◌⊎◌, inl, inr}
use Rattle.su_view.proofs.JoinLemmas.{not_next}
use Rattle.su_view.proofs.views.View.accept_with.Goals as goal

either : {A B C D : Type 0} → A ⊎ C → A ⊎ B ⊎ C ⊎ D
either (inl a) = inl a
either (inr c) = inr (inr (inl c))

pub returns-in-Err-clause-refused : goal.returns-in-Err-clause-refused
returns-in-Err-clause-refused g c clear = either (not_next c.args.self.now.holding c.args.commit c.in-Err.refusal c.in-Err.ensures.refused)
