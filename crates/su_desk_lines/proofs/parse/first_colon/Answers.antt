use Rattle.su_desk_lines.proofs.Bytes.{position-byte}
use Rattle.su_desk_lines.proofs.parse.first_colon.Goals as goal

pub returns : goal.returns
returns c = position-byte 58 c.args.word.now c.memchr.result c.memchr.ensures
