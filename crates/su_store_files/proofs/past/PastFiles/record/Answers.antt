use Rattle.std.proofs.Common.{sym}
use Rattle.su_store_files.proofs.PastLemmas.{all_zip_set}
use Rattle.su_store_files.proofs.past.PastFiles.record.Goals as goal

pub returns : goal.returns
returns g c lists kept =
    all_zip_set g.V.Volume.keeps c.turn_to.new.self.places.items lists c.args.number c.index_mut.result.now c.read_record.new.file (sym c.index_mut.ensures.value) c.read_record.ensures (c.turn_to.ensures.kept lists kept)
