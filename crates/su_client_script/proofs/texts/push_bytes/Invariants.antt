use Rattle.std.proofs.Common.{◌≡◌, ◌++◌, take}
use Rattle.su_client_script.specs.Text.{bytes_shown}
use Rattle.su_client_script.proofs.texts.push_bytes.Given as goal

abbrev pub invariant-loop-byte : goal.invariant-loop-byte
invariant-loop-byte l = l.text.items ≡ l.fn.text.items ++ bytes_shown (take l.byte-index l.bytes)
