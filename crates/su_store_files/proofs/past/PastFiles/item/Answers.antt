use Rattle.std.proofs.Common.{sym}
use Rattle.su_store_files.proofs.PastLemmas.{all_zip_set, unset_ok}
use Rattle.su_store_files.proofs.past.PastFiles.item.Goals as goal

pub returns-clause-kept : goal.returns-clause-kept
returns-clause-kept g c lists kept =
    all_zip_set g.V.Volume.keeps c.turn_to.new.self.places.items lists c.args.number c.index_mut.result.now c.read.new.file (sym c.index_mut.ensures.value) c.read.ensures.kept (c.turn_to.ensures.kept lists kept)

pub returns-clause-clean : goal.returns-clause-clean
returns-clause-clean g c =
    unset_ok g.V.Volume.is_clean _ _ c.turn_to.new.self.places.items c.args.number c.index_mut.result.now c.read.new.file (sym c.index_mut.ensures.value) c.in_ok-turn_to.ensures.clean c.read.ensures.clean
