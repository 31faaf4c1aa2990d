-- The parts of a signature at their places.
use Rattle.std.proofs.Common.{◌≡◌, ℕ, ◌+◌, List, ◌++◌, length, take, drop, refl, ap, ◌∙◌, arith}
use Rattle.std.proofs.lemmas.List.{append_assoc, length-append, take_at, drop_at, drop-drop, take_all}

-- what stands behind a first part
pub drop_past : (a b : List ℕ) (n k m : ℕ) → length a ≡ n → m ≡ n + k → drop m (a ++ b) ≡ drop k b
drop_past a b n k m size place = rw (place, ← drop-drop k n (a ++ b), drop_at a b n size) refl

-- q, type, C, values, type and path, as they are put together and as they are found
pub record AtPlaces (q ots c values lms path signature : List ℕ) (size : ℕ) : Type 0 where
  pub leaf : take 4 (drop 0 signature) ≡ q
  pub one_time_type : take 4 (drop 4 signature) ≡ ots
  pub randomizer : take 32 (drop 8 signature) ≡ c
  pub values_on : drop 40 signature ≡ values ++ (lms ++ path)
  pub tree_type : take 4 (drop (40 + size) signature) ≡ lms
  pub path_on : drop (44 + size) signature ≡ path

pub at_places : (q ots c values lms path : List ℕ) (size : ℕ) → length q ≡ 4 → length ots ≡ 4 → length c ≡ 32 → length values ≡ size → length lms ≡ 4 → AtPlaces q ots c values lms path (q ++ (ots ++ c ++ values) ++ lms ++ path) size
at_places q ots c values lms path size q_size ots_size c_size values_size lms_size =
    let all : q ++ (ots ++ c ++ values) ++ lms ++ path ≡ q ++ (ots ++ (c ++ (values ++ (lms ++ path)))) = simp append_assoc in
    let behind_q : drop 4 (q ++ (ots ++ (c ++ (values ++ (lms ++ path))))) ≡ ots ++ (c ++ (values ++ (lms ++ path))) = drop_at q _ 4 q_size in
    let behind_ots : drop 8 (q ++ (ots ++ (c ++ (values ++ (lms ++ path))))) ≡ c ++ (values ++ (lms ++ path)) =
    drop_past q _ 4 4 8 q_size refl ∙ drop_at ots _ 4 ots_size in
    let behind_c : drop 40 (q ++ (ots ++ (c ++ (values ++ (lms ++ path))))) ≡ values ++ (lms ++ path) =
    drop_past q _ 4 36 40 q_size refl ∙ drop_past ots _ 4 32 36 ots_size refl ∙ drop_at c _ 32 c_size in
    let behind_values : drop (40 + size) (q ++ (ots ++ (c ++ (values ++ (lms ++ path))))) ≡ lms ++ path =
    drop_past q _ 4 (36 + size) _ q_size (omega arith) ∙ drop_past ots _ 4 (32 + size) _ ots_size (omega arith)
    ∙ drop_past c _ 32 size _ c_size refl ∙ drop_at values _ size values_size in
    let behind_lms : drop (44 + size) (q ++ (ots ++ (c ++ (values ++ (lms ++ path))))) ≡ path =
    drop_past q _ 4 (40 + size) _ q_size (omega arith) ∙ drop_past ots _ 4 (36 + size) _ ots_size (omega arith)
    ∙ drop_past c _ 32 (4 + size) _ c_size (omega arith) ∙ drop_past values _ size 4 _ values_size (omega arith) ∙ drop_at lms _ 4 lms_size in
    record {
      leaf = ap (take 4) all ∙ take_at q _ 4 q_size;
      one_time_type = ap (λ s. take 4 (drop 4 s)) all ∙ ap (take 4) behind_q ∙ take_at ots _ 4 ots_size;
      randomizer = ap (λ s. take 32 (drop 8 s)) all ∙ ap (take 32) behind_ots ∙ take_at c _ 32 c_size;
      values_on = ap (drop 40) all ∙ behind_c;
      tree_type = ap (λ s. take 4 (drop (40 + size) s)) all ∙ ap (take 4) behind_values ∙ take_at lms _ 4 lms_size;
      path_on = ap (drop (44 + size)) all ∙ behind_lms;
    }

-- the parts of a public key
pub record KeyPlaces (lms ots id root key : List ℕ) : Type 0 where
  pub tree_type : take 4 (drop 0 key) ≡ lms
  pub one_time_type : take 4 (drop 4 key) ≡ ots
  pub id_there : take 16 (drop 8 key) ≡ id
  pub root_there : take 32 (drop 24 key) ≡ root
  pub size : length key ≡ 56

pub key_places : (lms ots id root : List ℕ) → length lms ≡ 4 → length ots ≡ 4 → length id ≡ 16 → length root ≡ 32 → KeyPlaces lms ots id root (lms ++ ots ++ id ++ root)
key_places lms ots id root lms_size ots_size id_size root_size =
    let all : lms ++ ots ++ id ++ root ≡ lms ++ (ots ++ (id ++ root)) = simp append_assoc in
    let behind_lms : drop 4 (lms ++ (ots ++ (id ++ root))) ≡ ots ++ (id ++ root) = drop_at lms _ 4 lms_size in
    let behind_ots : drop 8 (lms ++ (ots ++ (id ++ root))) ≡ id ++ root = drop_past lms _ 4 4 8 lms_size refl ∙ drop_at ots _ 4 ots_size in
    let behind_id : drop 24 (lms ++ (ots ++ (id ++ root))) ≡ root =
    drop_past lms _ 4 20 24 lms_size refl ∙ drop_past ots _ 4 16 20 ots_size refl ∙ drop_at id _ 16 id_size in
    record {
      tree_type = ap (take 4) all ∙ take_at lms _ 4 lms_size;
      one_time_type = ap (λ s. take 4 (drop 4 s)) all ∙ ap (take 4) behind_lms ∙ take_at ots _ 4 ots_size;
      id_there = ap (λ s. take 16 (drop 8 s)) all ∙ ap (take 16) behind_ots ∙ take_at id _ 16 id_size;
      root_there = ap (λ s. take 32 (drop 24 s)) all ∙ ap (take 32) behind_id ∙ take_all 32 root (omega arith);
      size = omega (arith, length-append lms ots, length-append (lms ++ ots) id, length-append (lms ++ ots ++ id) root);
    }
