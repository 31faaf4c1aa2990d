use Rattle.std.proofs.Common.{◌≡◌, ◌+◌, ℕ, suc, ◌∷◌, ◌++◌, List, length, ap, ◌∙◌, arith}
use Rattle.std.specs.Prelude.{slice_index}
use Rattle.std.proofs.lemmas.List.{length-append}
use Rattle.std.proofs.Math.Seq.{get_or-append_seam}
use Rattle.su_team.proofs.NextUsers.{front_of_bytes}
use Rattle.su_team.proofs.UserLines.{in_name, name_size}
use Rattle.su_team.proofs.lines.name_length.Goals as goal
use Rattle.su_team.proofs.lines.name_length.Goals.{then-length-lt1-via-then-length-lt1, then-length-lt1-via-else-length-lt1+then-length-gt-LONGEST_NAME, then-length-lt1-via-else-length-lt1+else-length-gt-LONGEST_NAME+then-bytes-length, then-length-lt1-via-else-length-lt1+else-length-gt-LONGEST_NAME+else-bytes-length+then-bytes-length-ne32}

pub returns-then-length-lt1 : goal.returns-then-length-lt1
returns-then-length-lt1 c name rest is bytes =
    let n : c.name_bytes-length.result ≡ length name =
    front_of_bytes c.args.bytes.now name rest c.name_bytes-length.result bytes (in_name name is) c.name_bytes-length.ensures.in_names c.name_bytes-length.ensures.within c.name_bytes-length.ensures.ends in
    let size = name_size name is in
    let long : length c.args.bytes.now ≡ length name + suc (length rest) = ap length bytes ∙ length-append name (32 ∷ rest) in
    let space : slice_index c.args.bytes.now c.name_bytes-length.result ≡ 32 =
    ap (λ (it : List ℕ). slice_index it c.name_bytes-length.result) bytes ∙ ap (slice_index (name ++ 32 ∷ rest)) n ∙ get_or-append_seam name 32 rest 0 in
    elim c.then-length-lt1.branch [
      | then-length-lt1-via-then-length-lt1 w ↦ omega (arith, n, size)
      | then-length-lt1-via-else-length-lt1+then-length-gt-LONGEST_NAME w ↦ omega (arith, n, size)
      | then-length-lt1-via-else-length-lt1+else-length-gt-LONGEST_NAME+then-bytes-length w ↦ omega (arith, n, long)
      | then-length-lt1-via-else-length-lt1+else-length-gt-LONGEST_NAME+else-bytes-length+then-bytes-length-ne32 w ↦ omega (arith, space)
    ]
