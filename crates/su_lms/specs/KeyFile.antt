-- Key files: a private key and the leaf that signs next, as 64 bytes.
use Rattle.std.specs.Prelude.{ℕ, ◌≤◌, List, ◌++◌, codes}
use Rattle.su_lms.specs.Strings.{u32str}
use Rattle.su_lms.specs.PrivateKey.{PrivateKey, IsPrivateKey, leaf_count}
use Rattle.su_lms.specs.declared.parameters.Params.{Params}
use Rattle.su_lms.specs.declared.key_files.KeyFile.{KeyFile}

-- the private key of a parameter set, I and SEED
abbrev pub made_key : Params → List ℕ → List ℕ → PrivateKey
made_key params id seed = record { lms = params.lms; ots = params.ots; id = id; seed = seed }

-- the private key in a key file
abbrev pub private_key_of : KeyFile → PrivateKey
private_key_of file = made_key file.params file.id file.seed

-- the bytes of a key file: `SK01`, LMS type, LM-OTS type, I, SEED, next leaf
unfoldable pub key_file_bytes : PrivateKey → ℕ → List ℕ
key_file_bytes key next = codes "SK01" ++ u32str key.lms ++ u32str key.ots ++ key.id ++ key.seed ++ u32str next

-- a key that can be made, and a leaf of its tree, or the number after the last one where all have signed
pub record IsKept (key : PrivateKey) (next : ℕ) : Type 0 where
  pub made : IsPrivateKey key
  pub in_tree : next ≤ leaf_count key
