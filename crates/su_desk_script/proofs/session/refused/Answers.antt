use Rattle.std.proofs.Common.{◌≡◌, ◌∙◌, IfOk, subst}
use Rattle.su_desk_script.proofs.session.refused.Goals as goal

pub returns : goal.returns
returns c = subst (λ line. IfOk c.from_slice.result (λ text. text.items ≡ line)) (c.as_bytes.ensures.value ∙ c.in_ok-text.ensures.ok) c.from_slice.ensures.items
