use Rattle.std.proofs.Common.{◌≡◌, true}
use Rattle.su_bytes.specs.Principal.{is_principal}
use Rattle.su_format.specs.Part.{principal_part, principal_bytes}
use Rattle.su_format.proofs.Formats.{read_from}
use Rattle.su_format.proofs.Parts.{none_of_bytes, no_bytes, length-principal_bytes}
use Rattle.su_format.proofs.readers.Reader.take_principal.Goals as goal

pub returns-in_default-clause-takes : goal.returns-in_default-clause-takes
unfolding principal_part
returns-in_default-clause-takes c =
    no_bytes (λ a. is_principal a ≡ true) principal_bytes 2 (λ a _. length-principal_bytes a) c.args.self.now c.args.self.now _ c.malformed-malformed.ensures
    (rw c.ahead-ahead.ensures at c.in_default.ensures.none.1)

pub returns-in_default-principal_of-clause-takes : goal.returns-in_default-principal_of-clause-takes
unfolding principal_part
returns-in_default-principal_of-clause-takes c =
    none_of_bytes (λ a. is_principal a ≡ true) principal_bytes 2 (λ a _. length-principal_bytes a) c.args.self.now c.take_array.new.self c.args.self.now _ _ c.malformed-malformed.ensures
    (rw c.ahead-ahead.ensures at c.in-Some.ensures.found) c.in_default-principal_of.ensures.none

pub returns-clause-takes : goal.returns-clause-takes
unfolding principal_part
returns-clause-takes c =
    read_from (λ a. is_principal a ≡ true) principal_bytes 2 _ _ _ _ (rw c.ahead-ahead.ensures at c.in-Some.ensures.found)
    c.in-Some-principal_of.ensures.found.0 c.in-Some-principal_of.ensures.found.1
