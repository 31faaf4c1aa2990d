-- Words as code holds them before their ranges are known.
use Rattle.std.specs.Prelude.{ℕ, List, map}
use Rattle.std.specs.Borrow.{Bor}
use Rattle.su_bytes.specs.declared.file_ids.FileId.{FileId}
use Rattle.su_bytes.specs.declared.principals.Principal.{Principal}
use Rattle.su_bytes.specs.declared.principals.Principal.TheVariants as principal
use Rattle.su_desk_lines.specs.declared.parse.RawPrincipal.{RawPrincipal}
use Rattle.su_desk_lines.specs.declared.parse.RawPrincipal.TheVariants.{User, Group}
use Rattle.su_desk_lines.specs.declared.parse.RawFile.{RawFile}
use Rattle.su_desk_lines.specs.Script.{numbered_file}

-- the bytes of borrowed words
abbrev pub texts : List (Bor (List ℕ)) → List (List ℕ)
texts words = map (λ w. w.now) words

abbrev pub principal_of : RawPrincipal → Principal
principal_of (User u) = principal.User u
principal_of (Group g) = principal.Group g

abbrev pub file_of : RawFile → FileId
file_of f = numbered_file (principal_of f.owner) f.number
