use Rattle.std.proofs.Common.{◌∙◌, sym, refl, ap}
use Rattle.su_frames.specs.Stream.{fault}
use Rattle.su_session.proofs.Going.{step-waits, step-answered, step-unsent, step-broken, step-memory, step-refused, lacked}
use Rattle.su_session.proofs.talks.Talk.step.Goals as goal

pub returns-in-Ok-None : goal.returns-in-Ok-None
returns-in-Ok-None g c = record { reads = refl; says = λ known. step-waits g.S.Service.answers _ _ _ _ _ known _ (rw c.in-Ok-None.field-0-is at c.in-Ok-None.ensures) }

pub returns-in-Whole : goal.returns-in-Whole
returns-in-Whole g c = record { reads = refl; says = λ known. step-answered g.S.Service.answers _ _ _ _ _ _ _ c.in-Ok-Some.message.items known _ _ (rw c.in-Ok-Some.field-0-is at c.in-Ok-Some.ensures) (rw c.as_slice.ensures.value at c.in-Whole.ensures) }

pub returns-in-Unflushed : goal.returns-in-Unflushed
returns-in-Unflushed g c = record { reads = refl; says = λ known. step-unsent g.S.Service.answers _ _ _ _ _ _ _ c.in-Ok-Some.message.items known _ _ (rw c.in-Ok-Some.field-0-is at c.in-Ok-Some.ensures) (rw c.as_slice.ensures.value at c.in-Unflushed.ensures) }

pub returns-in-Ok-Some : goal.returns-in-Ok-Some
returns-in-Ok-Some g c = record { reads = refl; says = λ known. step-broken g.S.Service.answers _ _ _ _ _ _ _ c.in-Ok-Some.message.items known _ _ (rw c.in-Ok-Some.field-0-is at c.in-Ok-Some.ensures) (rw c.as_slice.ensures.value at c.in-Broken.ensures) }

pub returns-in-Some : goal.returns-in-Some
returns-in-Some g c = record { reads = refl; says = λ known. step-refused g.S.Service.answers c.refuse.result c.in-Some.refusal _ _ _ _ _ known _ _ (ap fault (sym c.in-Err.ensures.1) ∙ sym c.failed.ensures ∙ c.in-Some.is) c.refuse.ensures }

pub returns : goal.returns
returns g c = record { reads = refl; says = λ known. step-memory g.S.Service.answers _ _ _ _ _ known _ (lacked _ _ c.in-Err.ensures.0 (ap fault (sym c.in-Err.ensures.1) ∙ sym c.failed.ensures ∙ c.in-None.is)) }
