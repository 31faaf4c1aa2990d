-- Replies and their bytes. (This project's own format.)
use Rattle.std.specs.Prelude.{◌≡◌, ◌<◌, ◌^◌, ℕ, List, [], ◌∷◌, ◌++◌, length}
use Rattle.su_bytes.specs.declared.refusals.Refusal.{Refusal}
use Rattle.su_bytes.specs.declared.refusals.Refusal.TheVariants.{Malformed, Busy, WrongPrev}
use Rattle.su_message.specs.declared.replies.Reply.{Reply}
use Rattle.su_message.specs.declared.replies.Reply.TheVariants.{Granted, Stored, Given, Kept, Nothing, PutDone, Item, Refused}
use Rattle.su_format.specs.Format.{Format, making, ◌>>=◌}
use Rattle.su_format.specs.Part.{u64_bytes, u8_part, u64_part, rest_part, digest_part}
use Rattle.su_message.specs.LastNumbers.{AreLast, users_bytes, last_format}

-- the argument of a refusal that there is room for
abbrev pub refused_argument : Refusal → ℕ
refused_argument (Malformed place) = place
refused_argument (Busy seat) = seat
refused_argument (WrongPrev number) = number
refused_argument _ = 0

-- each number is in its range, users ascend, a digest has 32 bytes: as the types of the code have
-- them
abbrev pub IsReply : Reply → Type 0
IsReply (Granted count last) = (count < 2 ^ 64) × AreLast last
IsReply (Stored number) = number < 2 ^ 64
IsReply (PutDone digest) = length digest ≡ 32
IsReply (Refused number argument) = (number < 256) × (argument < 2 ^ 64)
IsReply _ = Unit {0}

-- the number of its kind, and its fields: how many records there are, and the users' last ones; the
-- number of the record; its bytes, to the end; the digest; the item, to the end; the number of the
-- refusal, and its argument
abbrev pub reply_bytes : Reply → List ℕ
reply_bytes (Granted count last) = 129 ∷ (u64_bytes count ++ users_bytes last)
reply_bytes (Stored number) = 130 ∷ u64_bytes number
reply_bytes Given = 131 ∷ []
reply_bytes (Kept bytes) = 132 ∷ bytes
reply_bytes Nothing = 133 ∷ []
reply_bytes (PutDone digest) = 134 ∷ digest
reply_bytes (Item bytes) = 135 ∷ bytes
reply_bytes (Refused number argument) = 255 ∷ number ∷ u64_bytes argument

-- the reply's bytes tell where it ends: it doesn't run to the end of its message
abbrev pub EndsItself : Reply → Type 0
EndsItself (Kept bytes) = ⊥
EndsItself (Item bytes) = ⊥
EndsItself _ = Unit {0}

-- ---- the fields of each kind, as parts

abbrev pub granted_fields : Format Reply
granted_fields = u64_part >>= λ count. last_format >>= λ last. making (Granted count last)

abbrev pub stored_fields : Format Reply
stored_fields = u64_part >>= λ number. making (Stored number)

abbrev pub given_fields : Format Reply
given_fields = making Given

abbrev pub kept_fields : Format Reply
kept_fields = rest_part >>= λ bytes. making (Kept bytes)

abbrev pub nothing_fields : Format Reply
nothing_fields = making Nothing

abbrev pub put_done_fields : Format Reply
put_done_fields = digest_part >>= λ digest. making (PutDone digest)

abbrev pub item_fields : Format Reply
item_fields = rest_part >>= λ bytes. making (Item bytes)

abbrev pub refused_fields : Format Reply
refused_fields = u8_part >>= λ number. u64_part >>= λ argument. making (Refused number argument)

-- the number of each kind, and its fields
abbrev pub reply_kinds : List (ℕ × Format Reply)
reply_kinds =
    (129, granted_fields) ∷ (130, stored_fields) ∷ (131, given_fields) ∷ (132, kept_fields)
    ∷ (133, nothing_fields) ∷ (134, put_done_fields) ∷ (135, item_fields)
    ∷ (255, refused_fields) ∷ []
