-- What is signed verifies.
use Rattle.std.proofs.Common.{◌≡◌, ℕ, zero, suc, ◌+◌, ◌-◌, ◌*◌, ◌/◌, ◌^◌, ◌≤◌, ◌<◌, List, [], ◌++◌, length, take, drop, refl, ap, sym, ◌∙◌, arith}
use Rattle.std.proofs.lemmas.List.{append-nil, length-append, drop-drop}
use Rattle.std.proofs.lemmas.Nat.{and_le_l, from_be_bytes-to_be_bytes_4}
use Rattle.std.proofs.Math.Pow.{pow_mono}
use Rattle.std.specs.Int.{w32, from_be_bytes}
use Rattle.sha2.specs.Sha256.{sha256}
use Rattle.sha2.proofs.Facts256.{length-sha256}
use Rattle.su_lms.specs.ParameterSets.{width_of, chain_count, height_of}
use Rattle.su_lms.specs.Strings.{u16str, u32str, number_at, coef, joined}
use Rattle.su_lms.specs.OneTime.{chain, chain_place, private_value, end_from, hash_of_ends, one_time_key, one_time_key_from, message_hash, with_checksum, steps_signed}
use Rattle.su_lms.specs.MerkleTree.{node_value, leaf_value, inner_value, parent_value, climb}
use Rattle.su_lms.specs.Signature.{IsPublicKey, IsSigned, lms_of, ots_of, id_of, leaf_of, randomizer_of, chain_value_of, path_value_of, candidate_key, candidate_root}
use Rattle.su_lms.specs.PrivateKey.{PrivateKey, IsPrivateKey, leaf_count, leaf_at, node_at, key_of, randomizer, signed_value, digits_of, one_time_signature, signature_of, path_at}
use Rattle.su_lms.proofs.Chaining.{chain_add, length-chain, length-private_value, length-randomizer}
use Rattle.su_lms.proofs.Joining.{joined_same, length-joined, part-joined}
use Rattle.su_lms.proofs.Places.{AtPlaces, at_places, KeyPlaces, key_places}
use Rattle.su_lms.proofs.Climbing.{climb-path}
use Rattle.su_lms.proofs.NodeTables.{on_level}

-- a number reads as it is spelled
pub number_at-u32str : (place : ℕ) (s : List ℕ) (n : ℕ) → n < 2 ^ 32 → take 4 (drop place s) ≡ u32str n → number_at place s ≡ n
unfolding number_at
number_at-u32str place s n fits is = ap (from_be_bytes w32) is ∙ from_be_bytes-to_be_bytes_4 n fits

coef_le : (s : List ℕ) (i w : ℕ) → coef s i w ≤ 2 ^ w - 1
unfolding coef
coef_le s i w = and_le_l _ _

-- the steps of the signer and those of the verifier are all steps of the chain
pub end_from-signed : (key : PrivateKey) (q : ℕ) (digits : List ℕ) (i : ℕ) → end_from key.ots key.id q digits i (signed_value key q digits i) ≡ chain (chain_place key.id q i) 0 (2 ^ width_of key.ots - 1) (private_value key.id key.seed q i)
end_from-signed key q digits i =
    let a : ℕ = steps_signed key.ots digits i in
    let last : ℕ = 2 ^ width_of key.ots - 1 in
    let within : a ≤ last = coef_le digits i (width_of key.ots) in
    let place : List ℕ = chain_place key.id q i in
    let start : List ℕ = private_value key.id key.seed q i in
    let from : a ≡ 0 + a = omega arith in
    let all : a + (last - a) ≡ last = omega arith in
    ap (λ n. chain place n (last - a) (chain place 0 a start)) from ∙ chain_add place 0 a (last - a) start ∙ ap (λ n. chain place 0 n start) all

-- the same path leads to the same node
climb_same : (id : List ℕ) (f g : ℕ → List ℕ) (r : ℕ) (value : List ℕ) (k : ℕ) → ((j : ℕ) → j < k → f j ≡ g j) → climb id f r value k ≡ climb id g r value k
unfolding climb
climb_same id f g r value zero same = refl
climb_same id f g r value (suc k) same =
    ap (λ v. parent_value id (r / 2 ^ k) (f k) v) (climb_same id f g r value k (λ j h. same j (omega arith)))
    ∙ ap (λ s. parent_value id (r / 2 ^ k) s (climb id g r value k)) (same k (omega arith))

length-node_value : (id : List ℕ) (leaf : ℕ → List ℕ) → ((r : ℕ) → length (leaf r) ≡ 32) → (level r : ℕ) → length (node_value id leaf level r) ≡ 32
unfolding node_value inner_value
length-node_value id leaf size zero r = size r
length-node_value id leaf size (suc level) r = length-sha256 _

length-leaf_value : (id : List ℕ) (r : ℕ) (key : List ℕ) → length (leaf_value id r key) ≡ 32
unfolding leaf_value
length-leaf_value id r key = length-sha256 _

pub length-node_at : (key : PrivateKey) (level r : ℕ) → length (node_at key level r) ≡ 32
length-node_at key level r = length-node_value key.id (leaf_at key) (λ r. length-leaf_value key.id r _) level r

-- the parts of the public key
pub key_of-places : (key : PrivateKey) → length key.id ≡ 16 → KeyPlaces (u32str key.lms) (u32str key.ots) key.id (node_at key (height_of key.lms) 1) (key_of key)
unfolding key_of
key_of-places key size = key_places (u32str key.lms) (u32str key.ots) key.id (node_at key (height_of key.lms) 1) refl refl size (length-node_at key (height_of key.lms) 1)

-- the parts of the signature
signature_of-places : (key : PrivateKey) (q : ℕ) (message : List ℕ) → AtPlaces (u32str q) (u32str key.ots) (randomizer key.seed q) (joined (chain_count key.ots) (signed_value key q (digits_of key q message))) (u32str key.lms) (joined (height_of key.lms) (path_at key q)) (signature_of key q message) (32 * chain_count key.ots)
unfolding signature_of one_time_signature
signature_of-places key q message =
    at_places (u32str q) (u32str key.ots) (randomizer key.seed q) (joined (chain_count key.ots) (signed_value key q (digits_of key q message))) (u32str key.lms) (joined (height_of key.lms) (path_at key q)) (32 * chain_count key.ots)
    refl refl (length-randomizer key.seed q) (length-joined (chain_count key.ots) (signed_value key q (digits_of key q message)) (λ i h. length-chain _ 0 _ _ (length-private_value key.id key.seed q i))) refl

length_of_parts : (q ots c values lms path : List ℕ) → length q ≡ 4 → length ots ≡ 4 → length c ≡ 32 → length lms ≡ 4 → length (q ++ (ots ++ c ++ values) ++ lms ++ path) ≡ 44 + length values + length path
length_of_parts q ots c values lms path q_size ots_size c_size lms_size =
    omega (arith, length-append (q ++ (ots ++ c ++ values) ++ lms) path, length-append (q ++ (ots ++ c ++ values)) lms, length-append q (ots ++ c ++ values), length-append (ots ++ c) values, length-append ots c)

-- the length of the signature
length-signature_of : (key : PrivateKey) (q : ℕ) (message : List ℕ) → length (signature_of key q message) ≡ 44 + 32 * chain_count key.ots + 32 * height_of key.lms
unfolding signature_of one_time_signature
length-signature_of key q message =
    let values : List ℕ = joined (chain_count key.ots) (signed_value key q (digits_of key q message)) in
    let path : List ℕ = joined (height_of key.lms) (path_at key q) in
    let c : List ℕ = randomizer key.seed q in
    let c_size : length c ≡ 32 = length-randomizer key.seed q in
    let values_size : length values ≡ 32 * chain_count key.ots = length-joined (chain_count key.ots) _ (λ i h. length-chain _ 0 _ _ (length-private_value key.id key.seed q i)) in
    let path_size : length path ≡ 32 * height_of key.lms = length-joined (height_of key.lms) _ (λ k h. length-node_at key k _) in
    length_of_parts (u32str q) (u32str key.ots) c values (u32str key.lms) path refl refl c_size refl ∙ omega arith

-- the one-time key that the signature leads to is that of the leaf
candidate_key-signed : (key : PrivateKey) (q : ℕ) (message s : List ℕ) → leaf_of s ≡ q → randomizer_of s ≡ randomizer key.seed q → ((i : ℕ) → i < chain_count key.ots → chain_value_of s i ≡ signed_value key q (digits_of key q message) i) → candidate_key key.ots key.id message s ≡ one_time_key key.ots key.id key.seed q
unfolding candidate_key one_time_key_from one_time_key hash_of_ends
candidate_key-signed key q message s leaf random values =
    let digits : List ℕ = digits_of key q message in
    let found : ℕ → List ℕ → List ℕ = λ n digits.
    sha256 (key.id ++ u32str n ++ u16str 0x8080 ++ joined (chain_count key.ots) (λ i. end_from key.ots key.id n digits i (chain_value_of s i))) in
    ap (λ n. found n (with_checksum key.ots (message_hash key.id n (randomizer_of s) message))) leaf
    ∙ ap (λ r. found q (with_checksum key.ots (message_hash key.id q r message))) random
    ∙ ap (λ j. sha256 (key.id ++ u32str q ++ u16str 0x8080 ++ j))
    (joined_same (chain_count key.ots) _ _ (λ i h. ap (end_from key.ots key.id q digits i) (values i h) ∙ end_from-signed key q digits i))

-- the root that the signature leads to is that of the key
candidate_root-signed : (key : PrivateKey) (q : ℕ) (message s : List ℕ) → q < leaf_count key → leaf_of s ≡ q → candidate_key key.ots key.id message s ≡ one_time_key key.ots key.id key.seed q → ((k : ℕ) → k < height_of key.lms → path_value_of key.ots s k ≡ path_at key q k) → candidate_root key.lms key.ots key.id message s ≡ node_at key (height_of key.lms) 1
unfolding candidate_root
candidate_root-signed key q message s below leaf one_time path =
    let h : ℕ = height_of key.lms in
    let r : ℕ = leaf_count key + q in
    let back : q ≡ leaf_count key + q - leaf_count key = omega arith in
    let none : h - h ≡ 0 = omega arith in
    let flat : 2 ^ (h - h) ≡ 1 = ap (λ n. 2 ^ n) none in
    let here = on_level h q h (omega arith) below in
    let top : r / 2 ^ h ≡ 1 = omega arith in
    ap (λ n. climb key.id (path_value_of key.ots s) (leaf_count key + n) (leaf_value key.id (leaf_count key + n) (candidate_key key.ots key.id message s)) h) leaf
    ∙ ap (λ k. climb key.id (path_value_of key.ots s) r (leaf_value key.id r k) h) one_time
    ∙ ap (λ n. climb key.id (path_value_of key.ots s) r (leaf_value key.id r (one_time_key key.ots key.id key.seed n)) h) back
    ∙ climb_same key.id (path_value_of key.ots s) (path_at key q) r (leaf_at key r) h path
    ∙ climb-path key.id (leaf_at key) r h ∙ ap (node_value key.id (leaf_at key) h) top

-- the values of the chains stand at their places
values_found : (key : PrivateKey) (q : ℕ) (message : List ℕ) (i : ℕ) → i < chain_count key.ots → chain_value_of (signature_of key q message) i ≡ signed_value key q (digits_of key q message) i
values_found key q message i low =
    let s : List ℕ = signature_of key q message in
    let value : ℕ → List ℕ = signed_value key q (digits_of key q message) in
    ap (take 32) (sym (drop-drop (32 * i) 40 s) ∙ ap (drop (32 * i)) (signature_of-places key q message).values_on)
    ∙ part-joined (chain_count key.ots) value _ i (λ i h. length-chain _ 0 _ _ (length-private_value key.id key.seed q i)) low

-- the path stands at its place
path_found : (key : PrivateKey) (q : ℕ) (message : List ℕ) (k : ℕ) → k < height_of key.lms → path_value_of key.ots (signature_of key q message) k ≡ path_at key q k
path_found key q message k low =
    let s : List ℕ = signature_of key q message in
    let path : List ℕ = joined (height_of key.lms) (path_at key q) in
    ap (take 32) (sym (drop-drop (32 * k) (44 + 32 * chain_count key.ots) s) ∙ ap (drop (32 * k)) ((signature_of-places key q message).path_on ∙ sym (append-nil path)))
    ∙ part-joined (height_of key.lms) (path_at key q) [] k (λ k h. length-node_at key k _) low

key_of-is : (key : PrivateKey) → key_of key ≡ u32str key.lms ++ u32str key.ots ++ key.id ++ node_at key (height_of key.lms) 1
unfolding key_of
key_of-is key = refl

-- such parts make a public key
pub of_parts-is_public_key : (lms ots : ℕ) (id root bytes : List ℕ) → (5 ≤ lms) × (lms ≤ 9) → (1 ≤ ots) × (ots ≤ 4) → length id ≡ 16 → length root ≡ 32 → bytes ≡ u32str lms ++ u32str ots ++ id ++ root → IsPublicKey bytes
of_parts-is_public_key lms ots id root bytes tree_type one_time_type id_size root_size is =
    let parts : List ℕ = u32str lms ++ u32str ots ++ id ++ root in
    let places = key_places (u32str lms) (u32str ots) id root refl refl id_size root_size in
    let lms_is : lms_of bytes ≡ lms = ap (number_at 0) is ∙ number_at-u32str 0 parts lms (omega (arith, tree_type)) places.tree_type in
    let ots_is : ots_of bytes ≡ ots = ap (number_at 4) is ∙ number_at-u32str 4 parts ots (omega (arith, one_time_type)) places.one_time_type in
    record {
      size = ap length is ∙ places.size;
      tree_type = (omega (arith, tree_type), omega (arith, tree_type));
      one_time_type = (omega (arith, one_time_type), omega (arith, one_time_type));
    }

-- what is signed verifies
pub signature_of-is_signed : (key : PrivateKey) → IsPrivateKey key → (q : ℕ) (message : List ℕ) → q < leaf_count key → IsSigned (key_of key) message (signature_of key q message)
signature_of-is_signed key made q message below =
    let k : List ℕ = key_of key in
    let s : List ℕ = signature_of key q message in
    let places = signature_of-places key q message in
    let keys = key_of-places key made.id in
    let most : leaf_count key ≤ 2 ^ 10 = pow_mono {i = height_of key.lms} {j = 10} (omega (arith, made.types)) in
    let lms_is : lms_of k ≡ key.lms = number_at-u32str 0 k key.lms (omega (arith, made.types)) keys.tree_type in
    let ots_is : ots_of k ≡ key.ots = number_at-u32str 4 k key.ots (omega (arith, made.types)) keys.one_time_type in
    let leaf_is : leaf_of s ≡ q = number_at-u32str 0 s q (omega arith) places.leaf in
    let one_is : number_at 4 s ≡ key.ots = number_at-u32str 4 s key.ots (omega (arith, made.types)) places.one_time_type in
    let tree_is : number_at (40 + 32 * chain_count key.ots) s ≡ key.lms = number_at-u32str _ s key.lms (omega (arith, made.types)) places.tree_type in
    let leaves : 2 ^ height_of (lms_of k) ≡ leaf_count key = ap (λ t. 2 ^ height_of t) lms_is in
    let one_time = candidate_key-signed key q message s leaf_is places.randomizer (values_found key q message) in
    record {
      public_key = of_parts-is_public_key key.lms key.ots key.id _ k (omega (arith, made.types), omega (arith, made.types)) (omega (arith, made.types), omega (arith, made.types)) made.id (length-node_at key (height_of key.lms) 1) (key_of-is key);
      shape = record {
        size = length-signature_of key q message ∙ ap (λ t. 44 + 32 * chain_count t + 32 * height_of key.lms) (sym ots_is) ∙ ap (λ t. 44 + 32 * chain_count (ots_of k) + 32 * height_of t) (sym lms_is);
        one_time_type = one_is ∙ sym ots_is;
        tree_type = ap (λ t. number_at (40 + 32 * chain_count t) s) ots_is ∙ tree_is ∙ sym lms_is;
        leaf = omega arith;
      };
      root = ap (λ t. candidate_root t (ots_of k) (id_of k) message s) lms_is ∙ ap (λ t. candidate_root key.lms t (id_of k) message s) ots_is
          ∙ ap (λ i. candidate_root key.lms key.ots i message s) keys.id_there
          ∙ candidate_root-signed key q message s below leaf_is one_time (path_found key q message) ∙ sym keys.root_there;
    }

pub signature_of-is : (key : PrivateKey) (q : ℕ) (message : List ℕ) → signature_of key q message ≡ u32str q ++ one_time_signature key q message ++ u32str key.lms ++ joined (height_of key.lms) (path_at key q)
unfolding signature_of
signature_of-is key q message = refl
