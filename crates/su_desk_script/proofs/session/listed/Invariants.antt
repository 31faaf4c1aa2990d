use Rattle.std.proofs.Common.{◌≡◌, take}
use Rattle.std.specs.List.{flat_map}
use Rattle.su_desk_script.specs.Answer.{name_text}
use Rattle.su_desk_script.proofs.session.listed.Given as goal

abbrev pub invariant-loop-entry : goal.invariant-loop-entry
invariant-loop-entry l = l.text.items ≡ flat_map name_text (take l.entry-index l.names)
