use Rattle.su_desk_lines.proofs.Bytes.{first_line_feed}
use Rattle.su_desk_lines.proofs.lines.line_end.Goals as goal

pub returns : goal.returns
returns c = first_line_feed c.args.bytes.now c.memchr.result c.memchr.ensures
