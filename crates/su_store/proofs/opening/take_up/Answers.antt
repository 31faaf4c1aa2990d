use Rattle.std.proofs.Common.{Ok, Err, Result, IfOk}
use Rattle.su_store.proofs.opening.take_up.Goals as goal

joined : {X Y : Type 0} (r : Result X Y) (P Q R : X → Type 0) → ((x : X) → P x → Q x → R x) → IfOk r P → IfOk r Q → IfOk r R
joined (Ok x) P Q R f p q = f x p q
joined (Err e) P Q R f p q = tt

pub returns-in-Ok-clause-opened : goal.returns-in-Ok-clause-opened
returns-in-Ok-clause-opened g c =
    joined c.take_up.result _ _ _ (λ f clean begun late. record {
      was = c.in-Ok.connection;
      opened = c.in-Ok.ensures.opened (clean late);
      found = c.in-Ok.ensures.found (clean late);
      begun = begun late;
    }) c.take_up.ensures.clean c.take_up.ensures.begun
