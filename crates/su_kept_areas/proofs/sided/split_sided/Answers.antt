use Rattle.std.proofs.Common.{◌≡◌, ◌∙◌}
use Rattle.su_format.specs.Part.{rest_part}
use Rattle.su_kept_areas.specs.Spelling.{kind_of}
use Rattle.su_kept_areas.proofs.Formats.{fields_told, fields_refused}
use Rattle.su_kept_areas.proofs.SidedLemmas.{first_byte, fields_behind, more_sided}
use Rattle.su_kept_areas.proofs.sided.split_sided.Goals as goal

pub unreachable-requires : goal.unreachable-requires
unreachable-requires c =
    let it = c.requires.0 in
    let begins = c.requires.2 in
    let kind : c.kind_of-kind.result ≡ kind_of it.1 = c.kind_of-kind.ensures it.0 (kind_of it.1) (first_byte c.args.bytes.now it c.requires.1 begins) in
    let refused = rw c.new-reader.ensures at c.in_default.ensures.refused in
    c.in_default.ensures.malformed (fields_refused _ _ _ it.1 c.requires.1 kind (fields_behind c.args.bytes.now it c.requires.1 begins) begins.is refused)

pub returns-clause-value : goal.returns-clause-value
unfolding rest_part
returns-clause-value c it rest begins =
    let kind : c.kind_of-kind.result ≡ kind_of it.1 = c.kind_of-kind.ensures it.0 (kind_of it.1) (first_byte c.args.bytes.now it rest begins) in
    let took = rw c.new-reader.ensures at c.in-Ok.ensures.value in
    let told = fields_told _ _ it.1 _ rest _ kind (fields_behind c.args.bytes.now it rest begins) begins.is took.spelled in
    (told.0, c.take_rest.ensures.spelled.0 ∙ told.1)

pub returns-clause-shorter : goal.returns-clause-shorter
returns-clause-shorter c =
    let value = returns-clause-value c c.requires.0 c.requires.1 c.requires.2 in
    let more = more_sided c.args.bytes.now c.requires.0 c.requires.1 c.requires.2 in
    rw value.1 more
