use Rattle.std.proofs.Common.{◌∙◌, ap, ◌++◌, ◌∷◌, [], replicate}
use Rattle.std.proofs.lemmas.List.{replicate-append-replicate}
use Rattle.su_desk_script.proofs.desk.zero_keys.Goals as goal

pub loop-number-preserved : goal.loop-number-preserved
loop-number-preserved c =
    c.in_ok-push.ensures.items ∙ ap (λ keys. keys ++ replicate 56 0 ∷ []) c.loop-number.invariant ∙ replicate-append-replicate c.loop-number._number 1 (replicate 56 0)
