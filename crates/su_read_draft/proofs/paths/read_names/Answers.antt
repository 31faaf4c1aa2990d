use Rattle.std.proofs.Common.{inr, ap, Err}
use Rattle.su_bytes.specs.declared.refusals.Refusal.{Refusal}
use Rattle.su_read_draft.proofs.NameLists.{pieces-ok, pieces-bad, pieces-more}
use Rattle.su_read_draft.proofs.paths.read_names.Goals as goal

pub returns-in-Err-BadName : goal.returns-in-Err-BadName
returns-in-Err-BadName c = inr (pieces-bad c.args.pieces.now c.loop-piece.piece-index _ c.loop-piece-test.true (c.in-Err-BadName.ensures.bad.0 (ap (λ (e : Refusal). Err e) c.in-Err-BadName.field-0-is)))

pub loop-piece-preserved : goal.loop-piece-preserved
loop-piece-preserved c = pieces-more c.args.pieces.now c.loop-piece.names.items c.push.new.self.items c.in-Ok.name c.loop-piece.piece-index _ c.loop-piece-test.true c.in_ok-push-in-Ok.ensures.items c.in-Ok.ensures.value c.in-Ok.ensures.accepted c.loop-piece.invariant

pub returns : goal.returns
returns c = pieces-ok c.args.pieces.now c.loop-piece.names.items c.loop-piece.piece-index c.loop-piece-test.false c.loop-piece.invariant
