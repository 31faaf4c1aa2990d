-- What is kept of the end of a chain, to measure the next commit by it.
use Rattle.std.specs.Prelude.{ℕ, List}
use Rattle.su_version.specs.Chain.{Tip}
use Rattle.su_version.specs.declared.chains.Tip as kept

-- the tip that is kept so, where these are the keys that a user has or had
abbrev pub tip_with : kept.Tip → List (List ℕ) → Tip
tip_with t used = record {
  number = t.number;
  head = t.head;
  format = t.format;
  vector = t.vector.now;
  key = t.key;
  leaf = t.leaf;
  used = used;
}
