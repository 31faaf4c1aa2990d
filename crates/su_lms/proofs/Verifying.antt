-- The root that a signature leads to, from the ends of its chains.
use Rattle.std.proofs.Common.{◌≡◌, ℕ, List, ap, sym}
use Rattle.su_lms.specs.OneTime.{hash_of_ends, one_time_key_from}
use Rattle.su_lms.specs.Signature.{AreEnds, candidate_key, candidate_root, root_from, lms_of, ots_of, id_of, leaf_of}
use Rattle.su_lms.proofs.Joining.{hash_of_ends_same}

pub root_of_ends : (key message signature : List ℕ) (end : ℕ → List ℕ) → AreEnds key message signature end → candidate_root (lms_of key) (ots_of key) (id_of key) message signature ≡ root_from (lms_of key) (ots_of key) (id_of key) signature (hash_of_ends (ots_of key) (id_of key) (leaf_of signature) end)
unfolding candidate_root candidate_key one_time_key_from
root_of_ends key message signature end ends =
    ap (root_from (lms_of key) (ots_of key) (id_of key) signature) (sym (hash_of_ends_same (ots_of key) (id_of key) (leaf_of signature) end _ ends))
