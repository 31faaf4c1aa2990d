use Rattle.std.proofs.Common.{◌≡◌, rules, map, ap, sym, ◌∙◌}
use Rattle.std.specs.FinMap.{entries}
use Rattle.std.specs.Map.Iter.{deref_pair}
use Rattle.std.proofs.lemmas.Map.Iter.{iter_end}
use Rattle.su_seen.specs.Kept.{by_bytes}
use Rattle.su_seen.specs.Seen.{file_lines}
use Rattle.su_seen.proofs.KeptMap.{kept_entries}
use Rattle.su_seen.proofs.files.SeenFiles.spelled.Goals as goal

pub returns : goal.returns
returns c =
    let all : map deref_pair c.loop-path.yielded ≡ c.self.inside.numbers.entries = search (rules, iter_end) in
    c.loop-path.invariant ∙ ap (λ it. file_lines (by_bytes it)) all ∙ ap file_lines (sym (kept_entries c.self.inside.numbers.entries c.self.invariant))
    ∙ ap (λ m. file_lines (entries m)) c.self.view_is
