use Rattle.std.specs.Prelude.{Err}
use Rattle.std.proofs.Common.{subst}
use Rattle.su_format.specs.Reading.{Decodes}
use Rattle.su_part.specs.Item.{inode_format}
use Rattle.su_part.proofs.ItemLemmas.{none_read}
use Rattle.su_part.proofs.items.get_inode.Goals as goal

pub returns : goal.returns
returns g c =
    none_read g.S.BlockSource.may_give g.S.BlockSource.failed g.S.BlockSource.follows c.args.digest c.in_ok-item.item.items c.args.source.now c.get.new.self
    c.in_ok-item.ensures.given (c.in_ok-item.ensures.checked c.requires) c.get.ensures.no_more c.get.ensures.follows
    c.in-Err.refusal c.of_all.result (subst (λ s. Decodes inode_format s (Err c.in-Err.refusal)) c.as_slice.ensures.value c.in-Err.ensures) c.of_all.ensures
