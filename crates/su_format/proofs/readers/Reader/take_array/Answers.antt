use Rattle.std.proofs.Common.{arith}
use Rattle.su_format.proofs.Formats.{first_taken}
use Rattle.su_format.proofs.readers.Reader.take_array.Goals as goal

pub returns-clause-found : goal.returns-clause-found
returns-clause-found g c =
    let cut = c.in_ok-array.ensures.cases in
    first_taken g.row.N c.args.self.now c.self.inside.place c.self.inside.left.now _ _ c.self.view_is (omega arith) cut.0 cut.1
