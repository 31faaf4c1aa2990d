use Rattle.std.proofs.Common.{◌≡◌}
use Rattle.std.specs.Prelude.{Err}
use Rattle.std.proofs.lemmas.Result.{err_from_is_err_and}
use Rattle.su_part_tree.proofs.Putting.{wider}
use Rattle.su_part.proofs.ShedLemmas.{on_ok, shed_handed_on, sheds_on}
use Rattle.su_part.proofs.ShedParts.{all_took, content_sheds}
use Rattle.su_part.specs.declared.inodes.PartInode.{PartInode}
use Rattle.su_part.proofs.inodes.PartInode.shed.Goals as goal

pub returns-in_err-shed-clause-sheds : goal.returns-in_err-shed-clause-sheds
returns-in_err-shed-clause-sheds g c =
    let p = err_from_is_err_and c.from_residual.result c.from_residual.ensures.1 in
    let is : c.shed.result ≡ Err p.0 = cc (c.in_err-shed.was, p.2) in
    shed_handed_on p.0 is p.1 (content_sheds c.args.self.now c.shed.new.self c.shed.ensures.kind c.shed.ensures.size c.shed.ensures.digest c.shed.ensures.sheds)

pub returns-clause-sheds : goal.returns-clause-sheds
returns-clause-sheds g c =
    sheds_on g.met.S.BlockSource.follows_itself g.met.S.BlockSource.follows_on
    (content_sheds c.args.self.now c.shed.new.self c.shed.ensures.kind c.shed.ensures.size c.shed.ensures.digest c.in_ok-shed.ensures.sheds)
    c.put_own.ensures.sheds

pub returns-clause-put : goal.returns-clause-put
returns-clause-put g c =
    let q : PartInode = record { home = c.args.self.now.home; links = c.args.self.now.links; content = c.shed.new.self } in
    let both = sheds_on g.met.S.BlockSource.follows_itself g.met.S.BlockSource.follows_on (content_sheds c.args.self.now c.shed.new.self c.shed.ensures.kind c.shed.ensures.size c.shed.ensures.digest c.in_ok-shed.ensures.sheds) c.put_own.ensures.sheds in
    on_ok c.put_own.result _ _
    (λ own. all_took c.args.self.now q both (wider g.S.BlockSource.follows g.S.BlockSource.puts g.met.S.BlockSource.follows_on c.args.source.now c.shed.new.source c.put_own.new.source c.put_own.new.source c.shed.ensures.sheds.follows (g.met.S.BlockSource.follows_itself c.put_own.new.source) _ own) c.in_ok-shed.ensures.none)
    c.put_own.ensures.put
