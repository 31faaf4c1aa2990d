use Rattle.std.proofs.Common.{refl}
use Rattle.std.proofs.lemmas.Result.{err_from_is_err_and}
use Rattle.su_reading.proofs.Public.{ends_ok, stops, ok_at_once}
use Rattle.su_draft.specs.Make.{new_file}
use Rattle.su_read_draft.proofs.make.new_file.Goals as goal

pub returns-in_err-free_in_group-in-Group : goal.returns-in_err-free_in_group-in-Group
unfolding new_file
returns-in_err-free_in_group-in-Group g c =
    let p = err_from_is_err_and c.from_residual.result c.from_residual.ensures.1 in
    record { works_out = stops p.0 (cc (c.in_err-free_in_group-in-Group.was, p.2)) p.1 c.free_in_group.ensures.works_out (λ T why. rw (c.in-Group.is, why) refl) }

pub returns-in-User : goal.returns-in-User
unfolding new_file
returns-in-User g c = record { works_out = ok_at_once _ refl (g.met.R.TreeReader.follows_itself c.args.reader.now) (λ T. rw c.in-User.is refl) }

pub returns-in_ok-free_in_group-in-Group : goal.returns-in_ok-free_in_group-in-Group
unfolding new_file
returns-in_ok-free_in_group-in-Group g c = record { works_out = ends_ok c.in_ok-free_in_group-in-Group.field-0 _ c.in_ok-free_in_group-in-Group.was refl c.free_in_group.ensures.works_out (λ T is. rw (c.in-Group.is, is) refl) }
