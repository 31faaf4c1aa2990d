-- What a forest on a store shows, from question to question.
use Rattle.std.specs.Prelude.{◌≡◌, Option, Some, IfSome}
use Rattle.std.proofs.Common.{subst}

pub there : {X : Type 0} (P : X → Type 0) (o : Option X) (x : X) → o ≡ Some x → IfSome o P → P x
there P o x is = subst (λ y. IfSome y P) is
