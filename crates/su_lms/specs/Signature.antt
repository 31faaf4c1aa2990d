-- Public keys and signatures as bytes (RFC 8554, Sections 5.3 and 5.4), and which signatures are valid.
use Rattle.std.specs.Prelude.{ℕ, ◌≡◌, ◌<◌, ◌+◌, ◌*◌, ◌^◌, Bool, ◌&&◌, nat_eq, nat_le, List, take, drop, length}
use Rattle.su_lms.specs.ParameterSets.{IsOneTimeType, IsTreeType, chain_count, height_of}
use Rattle.su_lms.specs.Strings.{number_at, part_at}
use Rattle.su_lms.specs.OneTime.{message_hash, with_checksum, end_from, one_time_key_from}
use Rattle.su_lms.specs.MerkleTree.{leaf_value, climb}

-- The public key: u32str(LMS type) || u32str(LM-OTS type) || I || T[1] (Section 5.3)

abbrev pub lms_of : List ℕ → ℕ
lms_of key = number_at 0 key

abbrev pub ots_of : List ℕ → ℕ
ots_of key = number_at 4 key

abbrev pub id_of : List ℕ → List ℕ
id_of key = take 16 (drop 8 key)

abbrev pub root_of : List ℕ → List ℕ
root_of key = part_at 24 key

-- 56 bytes, of listed types
pub record IsPublicKey (key : List ℕ) : Type 0 where
  pub size : length key ≡ 56
  pub tree_type : IsTreeType (lms_of key)
  pub one_time_type : IsOneTimeType (ots_of key)

-- the same, as a test
abbrev pub is_public_key : List ℕ → Bool
is_public_key key =
    nat_eq (length key) 56 && (nat_le 5 (lms_of key) && nat_le (lms_of key) 9)
    && (nat_le 1 (ots_of key) && nat_le (ots_of key) 4)

-- The signature: u32str(q) || u32str(LM-OTS type) || C || y[0] || .. || y[p - 1] || u32str(LMS type) || path[0] || .. ||
-- path[h - 1] (Sections 4.5 and 5.4)

abbrev pub leaf_of : List ℕ → ℕ
leaf_of signature = number_at 0 signature

abbrev pub one_time_type_of : List ℕ → ℕ
one_time_type_of signature = number_at 4 signature

-- C
abbrev pub randomizer_of : List ℕ → List ℕ
randomizer_of signature = part_at 8 signature

-- y[i]
abbrev pub chain_value_of : List ℕ → ℕ → List ℕ
chain_value_of signature i = part_at (40 + 32 * i) signature

abbrev pub tree_type_of : ℕ → List ℕ → ℕ
tree_type_of ots signature = number_at (40 + 32 * chain_count ots) signature

-- path[k]
abbrev pub path_value_of : ℕ → List ℕ → ℕ → List ℕ
path_value_of ots signature k = part_at (44 + 32 * chain_count ots + 32 * k) signature

abbrev pub signature_size : ℕ → ℕ → ℕ
signature_size lms ots = 44 + 32 * chain_count ots + 32 * height_of lms

-- Q || Cksm(Q) of the message (Section 4.6)
abbrev pub candidate_digits : ℕ → List ℕ → List ℕ → List ℕ → List ℕ
candidate_digits ots id message signature =
    with_checksum ots (message_hash id (leaf_of signature) (randomizer_of signature) message)

-- z[i], the end of chain i that the signature of a message leads to (Section 4.6)
abbrev pub candidate_end : ℕ → List ℕ → List ℕ → List ℕ → ℕ → List ℕ
candidate_end ots id message signature i =
    end_from ots id (leaf_of signature) (candidate_digits ots id message signature) i
    (chain_value_of signature i)

-- the chains end where the signature of the message leads to
abbrev pub AreEnds : List ℕ → List ℕ → List ℕ → (ℕ → List ℕ) → Type 0
AreEnds key message signature end =
    (i : ℕ) → i < chain_count (ots_of key)
    → end i ≡ candidate_end (ots_of key) (id_of key) message signature i

-- Kc, the one-time public key that the signature of a message leads to (Section 4.6)
unfoldable pub candidate_key : ℕ → List ℕ → List ℕ → List ℕ → List ℕ
candidate_key ots id message signature =
    one_time_key_from ots id (leaf_of signature) (candidate_digits ots id message signature)
    (chain_value_of signature)

-- the root that the one-time public key of the signature's leaf leads to (Section 5.4.2)
abbrev pub root_from : ℕ → ℕ → List ℕ → List ℕ → List ℕ → List ℕ
root_from lms ots id signature key =
    climb id (path_value_of ots signature) (2 ^ height_of lms + leaf_of signature)
    (leaf_value id (2 ^ height_of lms + leaf_of signature) key) (height_of lms)

-- Tc, the root that the signature of a message leads to (Section 5.4.2)
unfoldable pub candidate_root : ℕ → ℕ → List ℕ → List ℕ → List ℕ → List ℕ
candidate_root lms ots id message signature =
    root_from lms ots id signature (candidate_key ots id message signature)

-- the signature's length and types are those of the key, and its leaf is one of the tree (Section 5.4.2)
pub record HasShape (key signature : List ℕ) : Type 0 where
  pub size : length signature ≡ signature_size (lms_of key) (ots_of key)
  pub one_time_type : one_time_type_of signature ≡ ots_of key
  pub tree_type : tree_type_of (ots_of key) signature ≡ lms_of key
  pub leaf : leaf_of signature < 2 ^ height_of (lms_of key)

-- the message is signed under the key by this signature: it has the shape that the key wants, and leads to the key's root
-- (Section 5.4.2)
pub record IsSigned (key message signature : List ℕ) : Type 0 where
  pub public_key : IsPublicKey key
  pub shape : HasShape key signature
  pub root : candidate_root (lms_of key) (ots_of key) (id_of key) message signature ≡ root_of key
