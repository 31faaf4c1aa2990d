-- Where a client may save its log.
use Rattle.std.specs.Prelude.{◌≡◌, ◌⊎◌, ℕ, List, [], drop, length}
use Rattle.su_bytes.specs.declared.formats.Format.{Format}
use Rattle.su_version.specs.Version.{first_bytes}

-- A log may begin with these bytes, the first eight of a file or fewer where there are fewer: it has
-- none; or they are the number of bytes of a commit, and those that commits of a format begin with.
abbrev pub BeginsLog : List ℕ → Type 0
BeginsLog front =
    (front ≡ [])
    ⊎ ((length front ≡ 8)
    × ((format : Format) × (drop 4 front ≡ first_bytes format)))
