use Rattle.std.proofs.Common.{◌≡◌, length, sym, arith}
use Rattle.su_format.specs.Part.{bytes_part}
use Rattle.su_format.proofs.Formats.{first_taken, too_short}
use Rattle.su_format.proofs.readers.Reader.take_bytes.Goals as goal

pub returns-then-self-count-clause-refused : goal.returns-then-self-count-clause-refused
unfolding bytes_part
returns-then-self-count-clause-refused c =
    (too_short (λ bytes. length bytes ≡ c.args.count) (λ bytes. bytes) c.args.count c.args.self.now c.args.self.now _ c.malformed.ensures (λ bytes is. omega arith) (rw (sym c.self.view_is) (omega arith)), c.malformed.ensures)

pub returns-clause-found : goal.returns-clause-found
returns-clause-found c =
    first_taken c.args.count c.args.self.now c.self.inside.place c.self.inside.left.now _ _ c.self.view_is (omega arith) c.split_at.ensures.front c.split_at.ensures.back
