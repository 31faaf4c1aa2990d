-- Bytes that are no commit's. (This project's own.)
use Rattle.std.specs.Prelude.{◌≡◌, ℕ, List}
use Rattle.su_bytes.specs.declared.refusals.Refusal.{Refusal}
use Rattle.su_bytes.specs.declared.refusals.Refusal.TheVariants.{Malformed}
use Rattle.su_format.specs.Format.{whole}
use Rattle.su_format.specs.Reading.{start, IsRefusedAt}
use Rattle.su_version.specs.Commit.{commit_format}

-- no commit is spelled so; the first part that isn't there begins at that place
abbrev pub IsMalformed : List ℕ → Refusal → Type 0
IsMalformed bytes e =
    (place : ℕ) × (e ≡ Malformed place) × IsRefusedAt (whole commit_format) (start bytes) place
