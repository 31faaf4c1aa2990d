use Rattle.std.proofs.Common.{◌∙◌, sym, subst, inl, inr}
use Rattle.std.specs.Prelude.{IsSome}
use Rattle.su_shared_items.specs.Shard.{item_under}
use Rattle.su_shared_items.proofs.Counting.{still_there}
use Rattle.su_shared_items.proofs.shard.Shard.share.Goals as goal

pub returns-then-promote-clause-held : goal.returns-then-promote-clause-held
returns-then-promote-clause-held c =
    inl (inr (subst (λ items. IsSome (item_under items c.args.digest.now)) (sym c.promote.ensures.items) (still_there c.args.digest.now c.self.inside.spare.items (sym c.promote.ensures.found ∙ c.if-promote.true))))
