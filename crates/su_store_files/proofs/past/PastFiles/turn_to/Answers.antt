use Rattle.std.proofs.Common.{sym}
use Rattle.su_store_files.proofs.PastLemmas.{all_zip_set, all_unset, on_ok}
use Rattle.su_store_files.proofs.past.PastFiles.turn_to.Goals as goal

pub returns-clause-clean : goal.returns-clause-clean
returns-clause-clean g c =
    let was = c.args.self.now in
    on_ok _ (all_unset g.V.Volume.is_clean was.places.items was.opened c.index_mut.result.now c.shut.new.self (sym c.index_mut.ensures.value)) c.shut.ensures.clean

pub returns-clause-kept : goal.returns-clause-kept
returns-clause-kept g c lists kept =
    let was = c.args.self.now in
    all_zip_set g.V.Volume.keeps was.places.items lists was.opened c.index_mut.result.now c.shut.new.self (sym c.index_mut.ensures.value) c.shut.ensures.kept kept
