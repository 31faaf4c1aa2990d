-- Private keys, and the public keys and signatures that they make (RFC 8554, Sections 5.2 to 5.4 and Appendix A).
use Rattle.std.specs.Prelude.{ℕ, ◌≡◌, ◌+◌, ◌-◌, ◌/◌, ◌^◌, min, List, [], ◌∷◌, ◌++◌, length}
use Rattle.sha2.specs.Sha256.{sha256}
use Rattle.su_lms.specs.ParameterSets.{CanBeMade, chain_count, height_of}
use Rattle.su_lms.specs.Strings.{u32str, joined}
use Rattle.su_lms.specs.OneTime.{chain_place, chain, private_value, one_time_key, message_hash, with_checksum, steps_signed}
use Rattle.su_lms.specs.MerkleTree.{leaf_value, node_value, sibling_of}

-- the types, I and SEED, from which all else follows
pub record PrivateKey : Type 0 where
  pub lms : ℕ
  pub ots : ℕ
  pub id : List ℕ
  pub seed : List ℕ

-- of a key that can be made here
pub record IsPrivateKey (key : PrivateKey) : Type 0 where
  pub types : CanBeMade key.lms key.ots
  pub id : length key.id ≡ 16
  pub seed : length key.seed ≡ 32

-- how many leaves the key has (Section 5.3)
abbrev pub leaf_count : PrivateKey → ℕ
leaf_count key = 2 ^ height_of key.lms

-- of so many leaves, how many are the last few: an eighth, and no more than 64. With these in sight a
-- user is told, or goes on to the next key. (This project's own.)
abbrev pub few_of : ℕ → ℕ
few_of count = min 64 (count / 8)

-- T[r] of the leaf with the node number r (Section 5.3)
abbrev pub leaf_at : PrivateKey → ℕ → List ℕ
leaf_at key r = leaf_value key.id r (one_time_key key.ots key.id key.seed (r - leaf_count key))

-- T[r] of the node r, `level` levels above the leaves (Section 5.3)
abbrev pub node_at : PrivateKey → ℕ → ℕ → List ℕ
node_at key level r = node_value key.id (leaf_at key) level r

-- the public key (Section 5.3)
unfoldable pub key_of : PrivateKey → List ℕ
key_of key = u32str key.lms ++ u32str key.ots ++ key.id ++ node_at key (height_of key.lms) 1

-- C of leaf q, made from SEED so that signing draws no random numbers; 67 is the letter C
unfoldable pub randomizer : List ℕ → ℕ → List ℕ
randomizer seed q = sha256 (seed ++ 67 ∷ [] ++ u32str q)

-- y[i] of a signature by leaf q, by Q || Cksm(Q) (Section 4.5)
abbrev pub signed_value : PrivateKey → ℕ → List ℕ → ℕ → List ℕ
signed_value key q digits i = chain (chain_place key.id q i) 0 (steps_signed key.ots digits i) (private_value key.id key.seed q i)

-- Q || Cksm(Q) of a message signed by leaf q (Section 4.5)
abbrev pub digits_of : PrivateKey → ℕ → List ℕ → List ℕ
digits_of key q message = with_checksum key.ots (message_hash key.id q (randomizer key.seed q) message)

-- the LM-OTS signature by leaf q (Section 4.5)
unfoldable pub one_time_signature : PrivateKey → ℕ → List ℕ → List ℕ
one_time_signature key q message = u32str key.ots ++ randomizer key.seed q ++ joined (chain_count key.ots) (signed_value key q (digits_of key q message))

-- path[k] of leaf q: the sibling of the node on the way to the root (Section 5.4.1)
abbrev pub path_at : PrivateKey → ℕ → ℕ → List ℕ
path_at key q k = node_at key k (sibling_of ((leaf_count key + q) / 2 ^ k))

-- the signature by leaf q (Section 5.4.1)
unfoldable pub signature_of : PrivateKey → ℕ → List ℕ → List ℕ
signature_of key q message = u32str q ++ one_time_signature key q message ++ u32str key.lms ++ joined (height_of key.lms) (path_at key q)
