use Rattle.std.proofs.Common.{◌≡◌, map, take}
use Rattle.serde_json.specs.View.{view}
use Rattle.su_history_json.specs.Json.{line_data}
use Rattle.su_history_json.proofs.lines.history_json.Given as goal

-- the objects so far
abbrev pub invariant-loop-line : goal.invariant-loop-line
invariant-loop-line l = map view l.values.items ≡ map (line_data l.team l.names) (take l.line-index l.lines)
