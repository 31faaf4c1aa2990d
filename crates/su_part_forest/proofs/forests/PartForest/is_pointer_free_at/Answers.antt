use Rattle.std.proofs.Common.{◌≡◌, ◌∙◌, ap, sym}
use Rattle.std.specs.Prelude.{Ok, Err}
use Rattle.std.proofs.lemmas.Result.{err_from_is_err_and}
use Rattle.su_table.specs.Query.{is_pointer_free}
use Rattle.su_part.proofs.LoadLemmas.{answered, handed_on}
use Rattle.su_part_forest.proofs.Reading.{pointer_free_seen}
use Rattle.su_part_forest.proofs.forests.PartForest.is_pointer_free_at.Goals as goal

pub returns-in-User-clause-value : goal.returns-in-User-clause-value
returns-in-User-clause-value g c T h free = sym (ap (is_pointer_free T) c.in-User.is)

pub returns-in_err-fetch_pointer-in-Group-clause-loads : goal.returns-in_err-fetch_pointer-in-Group-clause-loads
returns-in_err-fetch_pointer-in-Group-clause-loads g c =
    let p = err_from_is_err_and c.from_residual.result c.from_residual.ensures.1 in
    let is : c.fetch_pointer.result ≡ Err p.0 = cc (c.in_err-fetch_pointer-in-Group.was, p.2) in
    handed_on p.0 is p.1 c.fetch_pointer.ensures.loads

pub returns-in_ok-fetch_pointer-in-Group-clause-loads : goal.returns-in_ok-fetch_pointer-in-Group-clause-loads
returns-in_ok-fetch_pointer-in-Group-clause-loads g c = answered (Ok c.is_pointer_free.result) tt c.in_ok-fetch_pointer-in-Group.ensures.loads

pub returns-in_ok-fetch_pointer-in-Group-clause-value : goal.returns-in_ok-fetch_pointer-in-Group-clause-value
returns-in_ok-fetch_pointer-in-Group-clause-value g c T h free =
    let after = c.fetch_pointer.ensures.loads.stands T h free in
    c.is_pointer_free.ensures (T, after)
    ∙ pointer_free_seen c.fetch_pointer.new.self T after c.in-Group.group c.in-Group.number c.in_ok-fetch_pointer-in-Group.ensures.has
    ∙ sym (ap (is_pointer_free T) c.in-Group.is)
