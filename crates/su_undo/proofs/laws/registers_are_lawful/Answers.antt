use Rattle.su_undo.proofs.Copies.{registers_lawful}
use Rattle.su_undo.proofs.laws.registers_are_lawful.Goals as goal

pub returns : goal.returns
returns c = registers_lawful
