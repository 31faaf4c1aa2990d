-- Worked examples of the definitions.
use Rattle.std.proofs.Common.{◌≡◌, codes, refl}
use Rattle.std.specs.Fmt.{digits}
use Rattle.std.specs.Str.{chars, is_utf8}
use lib.Utf8.{encode}
use Rattle.hex.specs.Hex.{encode_with}
use Rattle.su_seen.specs.Line.{seen_line}

a_plan : seen_line 41 (codes "/report/plan") ≡ codes "41 /report/plan"
unfolding is_utf8 chars encode encode_with digits
a_plan = refl

a_name_with_a_line_feed : seen_line 7 (codes "/a\nb c") ≡ codes "7 /a\\x0ab c"
unfolding is_utf8 chars encode encode_with digits
a_name_with_a_line_feed = refl
