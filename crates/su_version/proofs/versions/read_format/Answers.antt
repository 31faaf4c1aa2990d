use Rattle.std.proofs.Common.{◌≡◌, length, refl, ap}
use Rattle.su_bytes.specs.declared.refusals.Refusal.TheVariants.{Malformed}
use Rattle.su_format.specs.Part.{bytes_part}
use Rattle.su_format.proofs.Public.{missing_too, another, taken_as, bytes_lawful}
use Rattle.su_version.specs.Version.{AnyFormat, first_bytes, format_part}
use Rattle.su_version.proofs.Spelling.{length-first_bytes}
use Rattle.su_version.proofs.versions.read_format.Goals as goal

pub returns-in_default : goal.returns-in_default
unfolding bytes_part format_part
returns-in_default c =
    missing_too (λ b. length b ≡ 4) (λ b. b) AnyFormat first_bytes first_bytes (λ f _. (length-first_bytes f, refl)) c.args.reader.now c.take_bytes.new.self c.take_bytes.new.self c.in_default.field-0 _
    c.in_default.ensures.refused.1 (ap Malformed c.place.ensures) c.in_default.ensures.refused.0

pub returns-in_default-format_of : goal.returns-in_default-format_of
unfolding bytes_part format_part
returns-in_default-format_of c =
    another (λ b. length b ≡ 4) (λ b. b) AnyFormat first_bytes (bytes_lawful 4) first_bytes (λ f _. (length-first_bytes f, refl)) c.args.reader.now c.take_bytes.new.self c.take_bytes.new.self c.in-Ok.bytes.now _
    (ap Malformed c.place.ensures) c.in-Ok.ensures.found (λ f _ is. c.in_default-format_of.ensures.none f is)

pub returns : goal.returns
unfolding bytes_part format_part
returns c =
    taken_as (λ b. length b ≡ 4) (λ b. b) AnyFormat first_bytes c.args.reader.now c.take_bytes.new.self c.in-Ok.bytes.now c.in-Some.format
    c.in-Ok.ensures.found tt c.in-Some.ensures.found
