-- A stream of messages, each behind its length. (This project's own format.)
use Rattle.std.specs.Prelude.{◌≡◌, ℕ, ◌+◌, ◌<◌, ◌≤◌, ◌==◌, ◌⊎◌, nat_lt, if◌then◌else◌, List, ◌++◌, length, take, All, Option, Some, None, Result, Ok, Err}
use Rattle.std.specs.List.{flat_map}
use Rattle.std.specs.Int.{w32, from_be_bytes}
use Rattle.std.specs.Global.{Vec}
use Rattle.su_format.specs.Part.{u32_bytes}
use Rattle.su_bytes.specs.declared.refusals.Refusal.{Refusal}
use Rattle.su_bytes.specs.declared.refusals.Refusal.TheVariants.{Malformed, TooLong, NoMemory}

-- bytes that can be a message
abbrev pub IsMessage : List ℕ → Type 0
IsMessage message = (0 < length message) × (length message ≤ 131072)

-- a message on the stream: its length in four bytes, then its bytes
abbrev pub frame : List ℕ → List ℕ
frame message = u32_bytes (length message) ++ message

-- the stream of these messages, and then these bytes
abbrev pub stream : List (List ℕ) → List ℕ → List ℕ
stream messages rest = flat_map frame messages ++ rest

-- the bytes are these messages, and then a rest, which may hold more messages
pub record Splits (bytes : List ℕ) (messages : List (List ℕ)) (rest : List ℕ) : Type 0 where
  pub whole : bytes ≡ stream messages rest
  pub each : All IsMessage messages

-- ---- what stands next

-- the length that stands next, where all of it has come
abbrev pub next_length : List ℕ → ℕ
next_length bytes = from_be_bytes w32 (take 4 bytes)

-- why no message has this length
abbrev pub length_fault : ℕ → Option Refusal
length_fault n =
    if n == 0 then Some (Malformed 0) else if nat_lt 131072 n then Some TooLong else None

-- why the length that stands next is refused
abbrev pub fault : List ℕ → Option Refusal
fault bytes = if nat_lt (length bytes) 4 then None else length_fault (next_length bytes)

-- less than a whole message: bytes of the length are missing, or bytes of the message
abbrev pub IsPartial : List ℕ → Type 0
IsPartial bytes =
    (fault bytes ≡ None) × ((length bytes < 4) ⊎ (length bytes < 4 + next_length bytes))

-- what stands next is no whole message
abbrev pub IsRest : List ℕ → Type 0
IsRest rest = IsPartial rest ⊎ ((e : Refusal) × (fault rest ≡ Some e))

-- ---- what is answered of it

-- a whole message stands next
abbrev pub StandsWhole : List ℕ → Type 0
StandsWhole bytes =
    (message rest : List ℕ) × IsMessage message × (bytes ≡ frame message ++ rest)

-- The next message is asked for, where these bytes wait before and after: the first one is taken,
-- or nothing is whole yet, or its length is refused, or it is whole and there is no memory for it.
abbrev pub Nexts : List ℕ → Result (Option (Vec ℕ)) Refusal → List ℕ → Type 0
Nexts old (Ok (Some message)) new = IsMessage message.items × (old ≡ frame message.items ++ new)
Nexts old (Ok None) new = IsPartial old × (new ≡ old)
Nexts old (Err e) new =
    ((fault old ≡ Some e) ⊎ ((e ≡ NoMemory) × StandsWhole old)) × (new ≡ old)

-- how long the message is that stands next, where it is whole
abbrev pub Measures : List ℕ → Result (Option ℕ) Refusal → Type 0
Measures bytes (Ok (Some n)) =
    (take 4 bytes ≡ u32_bytes n) × (0 < n) × (n ≤ 131072) × (4 + n ≤ length bytes)
Measures bytes (Ok None) = IsPartial bytes
Measures bytes (Err e) = fault bytes ≡ Some e
