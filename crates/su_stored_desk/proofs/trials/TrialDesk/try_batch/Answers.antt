use Rattle.std.proofs.Common.{◌≡◌, true, subst}
use Rattle.std.specs.List.{AllByRecursion}
use Rattle.su_bytes.specs.Format.{is_as_new}
use Rattle.su_op.specs.Action.{oldest_format}
use Rattle.su_stored_desk.proofs.JoinedLemmas.{fits_behind, many_fit}
use Rattle.su_stored_desk.proofs.Public.{asks_on}
use Rattle.su_stored_desk.proofs.trials.TrialDesk.try_batch.Goals as goal

pub try_all-requires : goal.try_all-requires
try_all-requires g c =
    let v = c.args.self.now.state in
    let f = c.args.format in
    fits_behind v c.try_next.new.self.state c.args.author f c.parts.result.0.now c.parts.result.1.now c.in_ok-try_next.ensures.settled c.in_ok-try_next.ensures.ready
    (subst (AllByRecursion (λ o. is_as_new f (oldest_format o) ≡ true)) c.parts.ensures (many_fit v.settled.history f c.args.batch.now c.requires.fits c.requires.many).has).1

pub returns-clause-asks : goal.returns-clause-asks
returns-clause-asks g c = asks_on g.met.S.BlockSource.follows_on c.args.self.now c.try_next.new.self c.try_all.new.self c.try_next.ensures.asks c.try_all.ensures.asks
