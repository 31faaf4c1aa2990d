-- Messages that are sent ahead of their time.
use Rattle.std.specs.Prelude.{ℕ, ◌-◌, nat_eq, List, length, take, Option, Some, None, if◌then◌else◌}
use Rattle.std.specs.List.{flat_map, ends_with}
use Rattle.std.specs.Global.{Vec}
use Rattle.su_frames.specs.Stream.{frame}
use Rattle.su_client.specs.Link.{LinkState}

-- the messages as they stand on the stream
abbrev pub framed : List (Vec ℕ) → List ℕ
framed messages = flat_map (λ m. frame m.items) messages

-- the bytes before this end of them, where they are known to have it
abbrev pub before : Option (List ℕ) → List ℕ → Option (List ℕ)
before None end = None
before (Some bytes) end =
    if ends_with nat_eq bytes end then Some (take (length bytes - length end) bytes) else None

-- a link as if these messages, the last that were written, weren't yet
abbrev pub without : LinkState → List (Vec ℕ) → LinkState
without a messages = record a { held = before a.held (framed messages) }
