-- Requests and their bytes. (This project's own format.)
use Rattle.std.specs.Prelude.{◌≡◌, ◌<◌, ◌^◌, ℕ, List, [], ◌∷◌, length}
use Rattle.su_message.specs.declared.requests.Request.{Request}
use Rattle.su_message.specs.declared.requests.Request.TheVariants.{Grant, Commit, Give, Fetch, Put, Get}
use Rattle.su_format.specs.Format.{Format, making, ◌>>=◌}
use Rattle.su_format.specs.Part.{u64_bytes, u64_part, rest_part, digest_part}

-- a number of eight bytes, a digest of 32: as the types of the code have them
abbrev pub IsRequest : Request → Type 0
IsRequest (Fetch number) = number < 2 ^ 64
IsRequest (Get digest) = length digest ≡ 32
IsRequest _ = Unit {0}

-- the number of its kind, and its fields: the bytes of the commit or the item, to the end; the
-- number of the record; the digest
abbrev pub request_bytes : Request → List ℕ
request_bytes Grant = 1 ∷ []
request_bytes (Commit bytes) = 2 ∷ bytes
request_bytes Give = 3 ∷ []
request_bytes (Fetch number) = 4 ∷ u64_bytes number
request_bytes (Put bytes) = 5 ∷ bytes
request_bytes (Get digest) = 6 ∷ digest

-- the request's bytes tell where it ends: it doesn't run to the end of its message
abbrev pub EndsItself : Request → Type 0
EndsItself (Commit bytes) = ⊥
EndsItself (Put bytes) = ⊥
EndsItself _ = Unit {0}

-- ---- the fields of each kind, as parts

abbrev pub grant_fields : Format Request
grant_fields = making Grant

abbrev pub commit_fields : Format Request
commit_fields = rest_part >>= λ bytes. making (Commit bytes)

abbrev pub give_fields : Format Request
give_fields = making Give

abbrev pub fetch_fields : Format Request
fetch_fields = u64_part >>= λ number. making (Fetch number)

abbrev pub put_fields : Format Request
put_fields = rest_part >>= λ bytes. making (Put bytes)

abbrev pub get_fields : Format Request
get_fields = digest_part >>= λ digest. making (Get digest)

-- the number of each kind, and its fields
abbrev pub request_kinds : List (ℕ × Format Request)
request_kinds =
    (1, grant_fields) ∷ (2, commit_fields) ∷ (3, give_fields) ∷ (4, fetch_fields)
    ∷ (5, put_fields) ∷ (6, get_fields) ∷ []
