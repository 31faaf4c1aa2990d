use Rattle.std.proofs.Common.{◌≡◌, inl, inr}
use Rattle.std.specs.Prelude.{Err}
use Rattle.std.proofs.lemmas.Result.{err_from_is_err_and}
use Rattle.su_part.proofs.ShedLemmas.{shed_handed_on, sheds_on}
use Rattle.su_part.proofs.ShedParts.{user_hashed}
use Rattle.su_part.proofs.users.UserPart.shed_inodes.Goals as goal

pub loop-number-init : goal.loop-number-init
loop-number-init g c = record {
  stands = λ x h. h;
  no_new = λ i own. own;
  not_lost = λ i own. inr own;
  more = λ i m. inl m;
  hashed = user_hashed c.args.self.now;
  failed = λ x h. tt;
  refused = tt;
  follows = g.met.S.BlockSource.follows_itself c.args.source.now;
}

pub returns-in_err-shed_inode-clause-sheds : goal.returns-in_err-shed_inode-clause-sheds
returns-in_err-shed_inode-clause-sheds g c =
    let p = err_from_is_err_and c.from_residual.result c.from_residual.ensures.1 in
    let is : c.shed_inode.result ≡ Err p.0 = cc (c.in_err-shed_inode.was, p.2) in
    shed_handed_on p.0 is p.1 (sheds_on g.met.S.BlockSource.follows_itself g.met.S.BlockSource.follows_on c.loop-number.invariant c.shed_inode.ensures.sheds)

pub loop-number-preserved : goal.loop-number-preserved
loop-number-preserved g c = sheds_on g.met.S.BlockSource.follows_itself g.met.S.BlockSource.follows_on c.loop-number.invariant c.in_ok-shed_inode.ensures.sheds
