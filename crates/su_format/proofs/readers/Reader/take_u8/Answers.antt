use Rattle.std.proofs.Common.{ℕ, ◌<◌, get_or, arith, rules}
use Rattle.su_format.specs.Part.{u8_part, bytes_part, u8_bytes}
use Rattle.su_format.specs.Format.{part}
use Rattle.su_format.proofs.Parts.{single}
use Rattle.su_format.proofs.Formats.{too_short, read_from}
use Rattle.su_format.proofs.readers.Reader.take_u8.Goals as goal

pub returns-in_default-clause-takes : goal.returns-in_default-clause-takes
unfolding u8_part
returns-in_default-clause-takes c =
    too_short (λ n. n < 256) u8_bytes 1 c.args.self.now c.args.self.now _ c.malformed-malformed.ensures (λ n _. omega arith) c.in_default.ensures.none.1

pub returns-clause-takes : goal.returns-clause-takes
unfolding u8_part bytes_part part
returns-clause-takes c =
    read_from (λ n. n < 256) u8_bytes 1 _ _ c.in-Some.bytes _ c.in-Some.ensures.found (let small : (i : ℕ) → get_or c.in-Some.bytes i 0 < 256 = search rules in small 0) (single c.in-Some.bytes c.in-Some.ensures.found.spelled.0)
