use Rattle.su_person.specs.FoundChanges.{key_of}
use Rattle.su_person.proofs.FoundLemmas.{one_file_more}
use Rattle.su_person.proofs.found_changes.FoundChanges.none_of.Goals as goal

pub loop-file-preserved : goal.loop-file-preserved
loop-file-preserved c = λ f.
    one_file_more c.loop-file.lasts c.insert.new.self c.args.files.now c.loop-file.file-index c.file-item.result f c.key_of.result c.loop-file-test.true c.file-item.is c.key_of.ensures
    (c.in_ok-insert.ensures.updates.0 (key_of f)) (c.loop-file.invariant f)
