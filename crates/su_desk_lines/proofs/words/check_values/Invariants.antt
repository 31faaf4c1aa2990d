use Rattle.std.proofs.Common.{◌≡◌, ◌++◌, true, map}
use Rattle.std.specs.Bool.{OnTrue}
use Rattle.std.specs.List.{list_all}
use Rattle.su_desk_lines.specs.Form.{is_good_name, is_good_number}
use Rattle.su_desk_lines.specs.Value.{said_by, value_of}
use Rattle.su_desk_lines.proofs.words.check_values.Given as goal

abbrev pub invariant-loop-value : goal.invariant-loop-value
invariant-loop-value l =
    (list_all is_good_name (map value_of l.yielded) ≡ true)
    × (list_all is_good_number (map value_of l.yielded) ≡ l.in_range)
    × OnTrue l.in_range (map said_by l.left.items ≡ map value_of l.yielded)
    × (l.fn.values.items ≡ l.yielded ++ l.value-iterator.rest.items)
