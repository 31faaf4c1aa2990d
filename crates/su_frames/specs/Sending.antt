-- What becomes of a message that is put on a stream.
use Rattle.std.specs.Prelude.{ℕ, ◌<◌, List, length, take, Option}
use Rattle.std.specs.Io.KnownBytes.{Appends}
use Rattle.su_frames.specs.declared.sending.Sent.{Sent}
use Rattle.su_frames.specs.declared.sending.Sent.TheVariants.{Whole, Unflushed, Broken}

-- these bytes were written, or a front of them that isn't all
abbrev pub Sends : List ℕ → Option (List ℕ) → Sent → Option (List ℕ) → Type 0
Sends bytes held Whole held' = Appends held held' bytes
Sends bytes held Unflushed held' = Appends held held' bytes
Sends bytes held Broken held' =
    (n : ℕ) × (n < length bytes) × Appends held held' (take n bytes)
