-- Records of a log.
use Rattle.std.proofs.Common.{◌≡◌, ℕ, ◌+◌, List, length, length-append, refl, arith}
use Rattle.su_format.specs.Part.{u32_bytes}
use Rattle.su_log.specs.Part.{part_bytes}
use Rattle.su_log.specs.Log.{record_bytes}

pub long_part : (bytes : List ℕ) → length (part_bytes bytes) ≡ 4 + length bytes
long_part bytes =
    let sum = length-append (u32_bytes (length bytes)) bytes in
    let four : length (u32_bytes (length bytes)) ≡ 4 = refl in
    omega (arith, sum, four)

-- a record is as long as its parts
pub parts_read : (place mid place' : ℕ) (bytes item : List ℕ) → mid ≡ place + (4 + length bytes) → place' ≡ mid + (4 + length item)
    → place' ≡ place + length (record_bytes (record { commit = bytes; item = item }))
parts_read place mid place' bytes item here there =
    let one = length-append (part_bytes bytes) (part_bytes item) in
    let first = long_part bytes in
    let second = long_part item in
    omega (arith, one, first, second, here, there)
