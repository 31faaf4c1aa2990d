use Rattle.std.proofs.Common.{◌≡◌, length, map}
use Rattle.su_desk_lines.specs.Form.{read_values}
use Rattle.su_desk_lines.specs.Raw.{texts}
use Rattle.su_desk_lines.specs.Value.{value_of}
use Rattle.su_desk_lines.proofs.ReadingValues.{read_on}
use Rattle.su_desk_lines.proofs.values.read_values.Given as goal

abbrev pub invariant-loop-left : goal.invariant-loop-left
invariant-loop-left l = read_on (map value_of l.values.items) l.left l.own (texts l.rest) ≡ read_values l.fn.kinds (texts l.fn.words)

abbrev pub decreases-loop-left : goal.decreases-loop-left
decreases-loop-left l = length l.left
