use Rattle.std.proofs.Common.{◌≡◌, sym, ap, ◌∙◌}
use Rattle.std.specs.Prelude.{Some}
use Rattle.sha2.specs.Sha256.{sha256}
use Rattle.su_block_cache.specs.Kept.{item_under}
use Rattle.su_block_cache.proofs.Keeping.{IsUsed, kept-used, kept-keeps, kept_has_digest, gives-kept, no_more-used, no_more-asked}
use Rattle.su_block_cache.proofs.cache.BlockCacheBlockSource.get.Goals as goal

pub invariant_of-self : goal.invariant_of-self
invariant_of-self g c =
    let used : IsUsed c.args.digest c.self.inside.kept c.copy.new.self = record { newest = c.copy.ensures.newest; none = c.copy.ensures.none; capacity = c.copy.ensures.capacity } in
    kept-used c.args.digest c.self.inside.kept c.copy.new.self used g.S.BlockSource.is_checked c.self.invariant

pub returns-in_err-item-clause-within : goal.returns-in_err-item-clause-within
returns-in_err-item-clause-within g c =
    let used : IsUsed c.args.digest c.self.inside.kept c.copy.new.self = record { newest = c.copy.ensures.newest; none = c.copy.ensures.none; capacity = c.copy.ensures.capacity } in
    (kept-used c.args.digest c.self.inside.kept c.copy.new.self used g.S.BlockSource.is_checked c.self.invariant).within.within

pub returns-in_err-item-clause-no_more : goal.returns-in_err-item-clause-no_more
returns-in_err-item-clause-no_more g c =
    let used : IsUsed c.args.digest c.self.inside.kept c.copy.new.self = record { newest = c.copy.ensures.newest; none = c.copy.ensures.none; capacity = c.copy.ensures.capacity } in
    no_more-used g.S.BlockSource.may_give c.args.digest c.self.inside.kept c.self.inside.source c.args.self.now c.self.view_is c.copy.new.self used

pub invariant_of-self-in-Some : goal.invariant_of-self-in-Some
invariant_of-self-in-Some g c =
    let used : IsUsed c.args.digest c.self.inside.kept c.copy.new.self = record { newest = c.copy.ensures.newest; none = c.copy.ensures.none; capacity = c.copy.ensures.capacity } in
    kept-used c.args.digest c.self.inside.kept c.copy.new.self used g.S.BlockSource.is_checked c.self.invariant

pub returns-in-Some-clause-within : goal.returns-in-Some-clause-within
returns-in-Some-clause-within g c =
    let used : IsUsed c.args.digest c.self.inside.kept c.copy.new.self = record { newest = c.copy.ensures.newest; none = c.copy.ensures.none; capacity = c.copy.ensures.capacity } in
    (kept-used c.args.digest c.self.inside.kept c.copy.new.self used g.S.BlockSource.is_checked c.self.invariant).within.within

pub returns-in-Some-clause-given : goal.returns-in-Some-clause-given
returns-in-Some-clause-given g c =
    let found : item_under c.self.inside.kept.items c.args.digest ≡ Some c.in-Some.item.items = sym (rw c.in-Some.is at c.in_ok-item.ensures.value) in
    gives-kept g.S.BlockSource.may_give c.args.digest c.self.inside.kept c.self.inside.source c.args.self.now c.self.view_is c.in-Some.item.items found

pub returns-in-Some-clause-checked : goal.returns-in-Some-clause-checked
returns-in-Some-clause-checked g c =
    let found : item_under c.self.inside.kept.items c.args.digest ≡ Some c.in-Some.item.items = sym (rw c.in-Some.is at c.in_ok-item.ensures.value) in
    kept_has_digest g.S.BlockSource.is_checked c.args.digest c.self.inside.kept c.in-Some.item.items c.self.invariant found

pub returns-in-Some-clause-no_more : goal.returns-in-Some-clause-no_more
returns-in-Some-clause-no_more g c =
    let used : IsUsed c.args.digest c.self.inside.kept c.copy.new.self = record { newest = c.copy.ensures.newest; none = c.copy.ensures.none; capacity = c.copy.ensures.capacity } in
    no_more-used g.S.BlockSource.may_give c.args.digest c.self.inside.kept c.self.inside.source c.args.self.now c.self.view_is c.copy.new.self used

pub invariant_of-self-2 : goal.invariant_of-self-2
invariant_of-self-2 g c =
    let used : IsUsed c.args.digest c.self.inside.kept c.copy.new.self = record { newest = c.copy.ensures.newest; none = c.copy.ensures.none; capacity = c.copy.ensures.capacity } in
    kept-keeps g.S.BlockSource.is_checked c.args.digest c.as_slice.result.now c.copy.new.self c.keep.new.self c.keep.ensures.keeps c.keep.ensures.capacity
    (kept-used c.args.digest c.self.inside.kept c.copy.new.self used g.S.BlockSource.is_checked c.self.invariant)
    (λ ok. ap sha256 c.as_slice.ensures.value ∙ c.in_ok-item-2.ensures.checked ok)

pub returns-clause-no_more : goal.returns-clause-no_more
returns-clause-no_more g c =
    let used : IsUsed c.args.digest c.self.inside.kept c.copy.new.self = record { newest = c.copy.ensures.newest; none = c.copy.ensures.none; capacity = c.copy.ensures.capacity } in
    no_more-asked g.S.BlockSource.may_give c.args.digest c.self.inside.kept c.self.inside.source c.args.self.now c.self.view_is c.copy.new.self c.keep.new.self c.get.new.self c.as_slice.result.now c.in_ok-item-2.item.items
    used c.keep.ensures.keeps c.as_slice.ensures.value c.in_ok-item-2.ensures.given c.get.ensures.no_more
