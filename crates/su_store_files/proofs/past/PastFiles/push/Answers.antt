use Rattle.std.proofs.Common.{◌∷◌, ◌++◌, [], sym, subst}
use Rattle.std.specs.List.{AllZip}
use Rattle.su_store_files.proofs.PastLemmas.{all_zip_push}
use Rattle.su_store_files.proofs.past.PastFiles.push.Goals as goal

pub returns-in-Ok-clause-kept : goal.returns-in-Ok-clause-kept
returns-in-Ok-clause-kept g c lists own kept one =
    subst (λ l. AllZip g.V.Volume.keeps l (lists ++ own ∷ [])) (sym c.in-Ok.ensures.items)
    (all_zip_push g.V.Volume.keeps c.args.self.now.places.items lists c.args.place own kept one)
