use Rattle.std.proofs.Common.{◌≡◌, ◌++◌, take}
use Rattle.std.specs.List.{flat_map}
use Rattle.su_desk_script.specs.Answer.{further_version_text}
use Rattle.su_desk_script.proofs.session.versions_shown.Given as goal

abbrev pub invariant-loop-version : goal.invariant-loop-version
invariant-loop-version l = l.text.items ≡ l.initial.text.items ++ flat_map further_version_text (take l.version-index l.others)
