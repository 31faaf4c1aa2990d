use Rattle.std.proofs.Common.{arith}
use Rattle.su_reading.proofs.Public.{ends}
use Rattle.su_files.proofs.Steps.{whole, whole_refused}
use Rattle.su_files.proofs.reads.read.Goals as goal

pub returns : goal.returns
returns g c = record {
  works_out = ends c.read_at.ensures.works_out
      (λ T b is. whole T c.args.file 18446744073709551615 b.items is (let small = b.small in omega (arith, b.ok.0, b.ok.1, small)))
      (λ T e is. whole_refused T c.args.file 18446744073709551615 e is);
}
