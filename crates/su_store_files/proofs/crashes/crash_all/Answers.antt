use Rattle.std.proofs.Common.{◌≡◌, ◌∷◌, ◌++◌, [], option_to_list, ap, sym, ◌∙◌}
use Rattle.su_store_files.proofs.CrashLemmas.{one_left}
use Rattle.su_store_files.proofs.crashes.crash_all.Goals as goal

pub loop-file-preserved : goal.loop-file-preserved
loop-file-preserved g c = record {
  left = λ lists kept.
      let others = c.pop.new.self.items in
      one_left g.V.Volume c.loop-file.files.items others c.loop-file.found.items c.push.new.self.items c.in-Some.file c.in_ok-left.left lists
      (c.pop.ensures.items ∙ ap (λ o. others ++ option_to_list o) c.in-Some.is) c.in-Ok.ensures.items c.in_ok-left.ensures (c.loop-file.invariant.left lists kept);
}
