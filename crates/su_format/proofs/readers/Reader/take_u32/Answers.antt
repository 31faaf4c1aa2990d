use Rattle.std.proofs.Common.{◌<◌, ◌^◌, arith, rules}
use Rattle.std.proofs.lemmas.Nat.{be_bytes_4}
use Rattle.su_format.specs.Part.{u32_part, u32_bytes}
use Rattle.su_format.proofs.Formats.{too_short, read_from}
use Rattle.su_format.proofs.readers.Reader.take_u32.Goals as goal

pub returns-in_default-clause-takes : goal.returns-in_default-clause-takes
unfolding u32_part
returns-in_default-clause-takes c =
    too_short (λ n. n < 2 ^ 32) u32_bytes 4 c.args.self.now c.args.self.now _ c.malformed-malformed.ensures (λ n _. omega arith) c.in_default.ensures.none.1

pub returns-clause-takes : goal.returns-clause-takes
unfolding u32_part
returns-clause-takes c =
    read_from (λ n. n < 2 ^ 32) u32_bytes 4 _ _ _ _ c.in-Some.ensures.found (omega arith)
    (be_bytes_4 c.in-Some.bytes _ (search rules) (search rules) c.from_be_bytes.ensures)
