use Rattle.std.proofs.Common.{◌≡◌, ◌++◌, map, take}
use Rattle.su_desk_lines.specs.declared.verbs.Verb.TheVariants.{Change}
use Rattle.su_desk_lines.specs.Desk.{batch_said}
use Rattle.su_desk_lines.specs.Value.{left_of}
use Rattle.su_desk_lines.proofs.ranges.take_batch.Given as goal

abbrev pub invariant-loop-verb : goal.invariant-loop-verb
invariant-loop-verb l = record {
  verbs : map (λ v. Change v) (batch_said l.operations.items).verbs ≡ take l.verb-index l.verbs;
  words : left_of l.fn.words ≡ (batch_said l.operations.items).values ++ left_of l.words;
}
