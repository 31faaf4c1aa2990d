use Rattle.std.proofs.Common.{◌≡◌, length, arith}
use Rattle.su_format.specs.Part.{digest_part, bytes_part}
use Rattle.su_format.proofs.Formats.{too_short}
use Rattle.su_format.proofs.readers.Reader.take_digest.Goals as goal

pub returns-in_default-clause-takes : goal.returns-in_default-clause-takes
unfolding digest_part bytes_part
returns-in_default-clause-takes c =
    too_short (λ bytes. length bytes ≡ 32) (λ bytes. bytes) 32 c.args.self.now c.args.self.now _ c.malformed-malformed.ensures (λ bytes is. omega arith) c.in_default.ensures.none.1

pub returns-clause-takes : goal.returns-clause-takes
unfolding digest_part
returns-clause-takes c = rw c.new.ensures c.in-Some.ensures.found
