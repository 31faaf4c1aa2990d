use Rattle.su_change.proofs.OutlineLemmas.{not_refused, read_so}
use Rattle.su_change.proofs.outlines.read_outline.Goals as goal

pub unreachable-requires : goal.unreachable-requires
unreachable-requires c =
    not_refused c.args.bytes.now c.decode.result c.decode.ensures c.requires.0 c.requires.1 c.in-Err.refusal c.in-Err.is c.in_default.not-NoMemory

pub returns-in-Ok : goal.returns-in-Ok
returns-in-Ok c = λ ops is. read_so c.args.bytes.now c.decode.result c.decode.ensures ops is c.in-Ok.batch c.in-Ok.is
