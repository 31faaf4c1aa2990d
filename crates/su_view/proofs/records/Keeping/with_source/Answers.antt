use Rattle.std.proofs.Common.{refl, ap}
use Rattle.su_stored_desk.specs.Asked.{TrialOn}
use Rattle.su_stored_desk.proofs.Public.{quiet_is_clear}
use Rattle.su_view.proofs.KeepingLemmas.{keeping_moved}
use Rattle.su_view.proofs.records.Keeping.with_source.Goals as goal

pub returns-clause-kept : goal.returns-clause-kept
returns-clause-kept g c =
    let k = c.args.self in
    keeping_moved g.S.BlockSource.may_give g.T.BlockSource.may_give k _ c.requires.kept refl refl refl refl refl refl
    (ap (λ (d : TrialOn g.row.T.Denot). d.state.settled) c.with_source.ensures) (c.requires.kept.legal (quiet_is_clear g.S.BlockSource.may_give k.desk c.requires.quiet))
