use Rattle.std.proofs.Common.{◌≡◌, true}
use Rattle.su_bytes.specs.FileId.{is_file_id, file_id_bytes}
use Rattle.su_format.specs.Part.{file_id_part}
use Rattle.su_format.proofs.Formats.{read_from}
use Rattle.su_format.proofs.Parts.{none_of_bytes, no_bytes, length-file_id_bytes}
use Rattle.su_format.proofs.readers.Reader.take_file_id.Goals as goal

pub returns-in_default-clause-takes : goal.returns-in_default-clause-takes
unfolding file_id_part
returns-in_default-clause-takes c =
    no_bytes (λ a. is_file_id a ≡ true) file_id_bytes 6 (λ a _. length-file_id_bytes a) c.args.self.now c.args.self.now _ c.malformed-malformed.ensures
    (rw c.ahead-ahead.ensures at c.in_default.ensures.none.1)

pub returns-in_default-file_id_of-clause-takes : goal.returns-in_default-file_id_of-clause-takes
unfolding file_id_part
returns-in_default-file_id_of-clause-takes c =
    none_of_bytes (λ a. is_file_id a ≡ true) file_id_bytes 6 (λ a _. length-file_id_bytes a) c.args.self.now c.take_array.new.self c.args.self.now _ _ c.malformed-malformed.ensures
    (rw c.ahead-ahead.ensures at c.in-Some.ensures.found) c.in_default-file_id_of.ensures.none

pub returns-clause-takes : goal.returns-clause-takes
unfolding file_id_part
returns-clause-takes c =
    read_from (λ a. is_file_id a ≡ true) file_id_bytes 6 _ _ _ _ (rw c.ahead-ahead.ensures at c.in-Some.ensures.found)
    c.in-Some-file_id_of.ensures.found.0 c.in-Some-file_id_of.ensures.found.1
