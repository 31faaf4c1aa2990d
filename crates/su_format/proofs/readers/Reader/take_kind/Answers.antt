use Rattle.su_format.specs.Part.{AnyKind}
use Rattle.su_format.specs.Part.{kind_part, kind_bytes}
use Rattle.su_format.proofs.Formats.{read_from}
use Rattle.su_format.proofs.Parts.{none_of_bytes, no_bytes, length-kind_bytes}
use Rattle.su_format.proofs.readers.Reader.take_kind.Goals as goal

pub returns-in_default-clause-takes : goal.returns-in_default-clause-takes
unfolding kind_part
returns-in_default-clause-takes c =
    no_bytes AnyKind kind_bytes 1 (λ a _. length-kind_bytes a) c.args.self.now c.args.self.now _ c.malformed-malformed.ensures
    (rw c.ahead-ahead.ensures at c.in_default.ensures.none.1)

pub returns-in_default-kind_of-clause-takes : goal.returns-in_default-kind_of-clause-takes
unfolding kind_part
returns-in_default-kind_of-clause-takes c =
    none_of_bytes AnyKind kind_bytes 1 (λ a _. length-kind_bytes a) c.args.self.now c.take_array.new.self c.args.self.now _ _ c.malformed-malformed.ensures
    (rw c.ahead-ahead.ensures at c.in-Some.ensures.found) (λ k _. c.in_default-kind_of.ensures.none k)

pub returns-clause-takes : goal.returns-clause-takes
unfolding kind_part
returns-clause-takes c =
    read_from AnyKind kind_bytes 1 _ _ _ _ (rw c.ahead-ahead.ensures at c.in-Some.ensures.found)
    tt c.in-Some-kind_of.ensures.found
