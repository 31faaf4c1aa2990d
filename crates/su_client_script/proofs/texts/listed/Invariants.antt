use Rattle.std.proofs.Common.{◌≡◌, take}
use Rattle.su_client_script.specs.Text.{listing_shown}
use Rattle.su_client_script.proofs.texts.listed.Given as goal

abbrev pub invariant-loop-entry : goal.invariant-loop-entry
invariant-loop-entry l = l.text.items ≡ listing_shown (take l.entry-index l.names)
