-- Key files read as they are spelled.
use Rattle.std.proofs.Common.{◌≡◌, ℕ, ◌+◌, ◌^◌, ◌≤◌, ◌<◌, List, ◌++◌, length, take, drop, get_or, inl, inr, refl, ap, sym, ◌∙◌, arith}
use Rattle.std.specs.Prelude.{codes}
use Rattle.std.proofs.lemmas.Bool.{cases_lt}
use Rattle.std.proofs.lemmas.List.{append_assoc, length-append, length-take-le, length-drop, take_at, take_all, drop_at, drop-drop, take-append-drop, get_or-take, get_or-drop, get_or_past}
use Rattle.std.proofs.lemmas.Nat.{be_bytes_4}
use Rattle.std.proofs.Math.Pow.{pow_mono}
use Rattle.su_lms.specs.ParameterSets.{height_of}
use Rattle.su_lms.specs.Strings.{u32str, number_at, part_at}
use Rattle.su_lms.specs.PrivateKey.{PrivateKey}
use Rattle.su_lms.specs.KeyFile.{key_file_bytes, IsKept}
use Rattle.su_lms.proofs.Signing.{number_at-u32str}

-- a number is spelled as it was read
pub u32str-number_at : (place : ℕ) (bytes : List ℕ) (n : ℕ) → place + 4 ≤ length bytes → ((i : ℕ) → get_or bytes i 0 < 256) → n ≡ number_at place bytes → u32str n ≡ take 4 (drop place bytes)
unfolding number_at
u32str-number_at place bytes n inside small is =
    let size : length (take 4 (drop place bytes)) ≡ 4 = length-take-le 4 (drop place bytes) (omega (arith, length-drop place bytes)) in
    be_bytes_4 (take 4 (drop place bytes)) n size
    (λ i. elim (cases_lt i 4) [
      | inl low ↦ (
          let there : get_or (take 4 (drop place bytes)) i 0 ≡ get_or bytes (place + i) 0 = get_or-take 4 (drop place bytes) i 0 low ∙ get_or-drop place bytes i 0 in
          rw there (small (place + i))
          )
      | inr high ↦ (
          let past : get_or (take 4 (drop place bytes)) i 0 ≡ 0 = get_or_past (take 4 (drop place bytes)) i 0 (omega arith) in
          rw past (omega arith)
          )
    ]) is

-- a part, and what comes behind it
piece : (n place next : ℕ) (bytes : List ℕ) → next ≡ place + n → drop place bytes ≡ take n (drop place bytes) ++ drop next bytes
piece n place next bytes is =
    sym (take-append-drop n (drop place bytes)) ∙ ap (λ s. take n (drop place bytes) ++ s) (drop-drop n place bytes ∙ ap (λ k. drop k bytes) (sym is))

regrouped : (a b c d e f : List ℕ) → a ++ b ++ c ++ d ++ e ++ f ≡ a ++ (b ++ (c ++ (d ++ (e ++ f))))
regrouped a b c d e f = simp append_assoc

-- equal parts make equal strings
put_together : (a b c d e f a' b' c' d' e' f' : List ℕ) → a ≡ a' → b ≡ b' → c ≡ c' → d ≡ d' → e ≡ e' → f ≡ f' → a ++ b ++ c ++ d ++ e ++ f ≡ a' ++ b' ++ c' ++ d' ++ e' ++ f'
put_together a b c d e f a' b' c' d' e' f' p q r s t u = cc

-- the parts of 64 bytes are all of them
six_parts : (bytes : List ℕ) → length bytes ≡ 64 → bytes ≡ take 4 (drop 0 bytes) ++ take 4 (drop 4 bytes) ++ take 4 (drop 8 bytes) ++ take 16 (drop 12 bytes) ++ take 32 (drop 28 bytes) ++ take 4 (drop 60 bytes)
six_parts bytes size =
    let last : drop 60 bytes ≡ take 4 (drop 60 bytes) = sym (take_all 4 (drop 60 bytes) (omega (arith, length-drop 60 bytes))) in
    piece 4 0 4 bytes refl
    ∙ ap (λ s. take 4 (drop 0 bytes) ++ s) (piece 4 4 8 bytes refl
    ∙ ap (λ s. take 4 (drop 4 bytes) ++ s) (piece 4 8 12 bytes refl
    ∙ ap (λ s. take 4 (drop 8 bytes) ++ s) (piece 16 12 28 bytes refl
    ∙ ap (λ s. take 16 (drop 12 bytes) ++ s) (piece 32 28 60 bytes refl ∙ ap (λ s. take 32 (drop 28 bytes) ++ s) last))))
    ∙ sym (regrouped (take 4 (drop 0 bytes)) (take 4 (drop 4 bytes)) (take 4 (drop 8 bytes)) (take 16 (drop 12 bytes)) (take 32 (drop 28 bytes)) (take 4 (drop 60 bytes)))

-- what is read from a key file spells it
pub key_file_found : (bytes : List ℕ) (lms ots next : ℕ) (id seed : List ℕ) → length bytes ≡ 64 → ((i : ℕ) → get_or bytes i 0 < 256) → number_at 0 bytes ≡ 0x534b3031 → lms ≡ number_at 4 bytes → ots ≡ number_at 8 bytes → id ≡ take 16 (drop 12 bytes) → seed ≡ part_at 28 bytes → next ≡ number_at 60 bytes → bytes ≡ key_file_bytes (record { lms = lms; ots = ots; id = id; seed = seed }) next
unfolding key_file_bytes
key_file_found bytes lms ots next id seed size small mark lms_is ots_is id_is seed_is next_is =
    let mark_there : codes "SK01" ≡ take 4 (drop 0 bytes) = u32str-number_at 0 bytes 0x534b3031 (omega arith) small (sym mark) in
    let lms_there : u32str lms ≡ take 4 (drop 4 bytes) = u32str-number_at 4 bytes lms (omega arith) small lms_is in
    let ots_there : u32str ots ≡ take 4 (drop 8 bytes) = u32str-number_at 8 bytes ots (omega arith) small ots_is in
    let next_there : u32str next ≡ take 4 (drop 60 bytes) = u32str-number_at 60 bytes next (omega arith) small next_is in
    six_parts bytes size ∙ sym (put_together (codes "SK01") (u32str lms) (u32str ots) id seed (u32str next) _ _ _ _ _ _ mark_there lms_there ots_there id_is seed_is next_there)

-- what a spelled key file holds
pub record HoldsKey (key : PrivateKey) (next : ℕ) (bytes : List ℕ) : Type 0 where
  pub size : length bytes ≡ 64
  pub mark : number_at 0 bytes ≡ 0x534b3031
  pub lms : number_at 4 bytes ≡ key.lms
  pub ots : number_at 8 bytes ≡ key.ots
  pub id : take 16 (drop 12 bytes) ≡ key.id
  pub seed : part_at 28 bytes ≡ key.seed
  pub next_leaf : number_at 60 bytes ≡ next

spelled_places : (mark lms ots id seed next bytes : List ℕ) → length mark ≡ 4 → length lms ≡ 4 → length ots ≡ 4 → length id ≡ 16 → length seed ≡ 32 → length next ≡ 4 → bytes ≡ mark ++ lms ++ ots ++ id ++ seed ++ next → (length bytes ≡ 64) × (take 4 (drop 0 bytes) ≡ mark) × (take 4 (drop 4 bytes) ≡ lms) × (take 4 (drop 8 bytes) ≡ ots) × (take 16 (drop 12 bytes) ≡ id) × (take 32 (drop 28 bytes) ≡ seed) × (take 4 (drop 60 bytes) ≡ next)
spelled_places mark lms ots id seed next bytes mark_size lms_size ots_size id_size seed_size next_size is =
    let all : bytes ≡ mark ++ (lms ++ (ots ++ (id ++ (seed ++ next)))) = is ∙ simp append_assoc in
    let behind_mark : drop 4 bytes ≡ lms ++ (ots ++ (id ++ (seed ++ next))) = ap (drop 4) all ∙ drop_at mark _ 4 mark_size in
    let behind_lms : drop 8 bytes ≡ ots ++ (id ++ (seed ++ next)) = sym (drop-drop 4 4 bytes) ∙ ap (drop 4) behind_mark ∙ drop_at lms _ 4 lms_size in
    let behind_ots : drop 12 bytes ≡ id ++ (seed ++ next) = sym (drop-drop 4 8 bytes) ∙ ap (drop 4) behind_lms ∙ drop_at ots _ 4 ots_size in
    let behind_id : drop 28 bytes ≡ seed ++ next = sym (drop-drop 16 12 bytes) ∙ ap (drop 16) behind_ots ∙ drop_at id _ 16 id_size in
    let behind_seed : drop 60 bytes ≡ next = sym (drop-drop 32 28 bytes) ∙ ap (drop 32) behind_id ∙ drop_at seed _ 32 seed_size in
    let size : length bytes ≡ 64 = ap length all
    ∙ omega (arith, length-append mark (lms ++ (ots ++ (id ++ (seed ++ next)))), length-append lms (ots ++ (id ++ (seed ++ next))), length-append ots (id ++ (seed ++ next)), length-append id (seed ++ next), length-append seed next) in (
      size,
      ap (take 4) all ∙ take_at mark _ 4 mark_size,
      ap (take 4) behind_mark ∙ take_at lms _ 4 lms_size,
      ap (take 4) behind_lms ∙ take_at ots _ 4 ots_size,
      ap (take 16) behind_ots ∙ take_at id _ 16 id_size,
      ap (take 32) behind_id ∙ take_at seed _ 32 seed_size,
      ap (take 4) behind_seed ∙ take_all 4 next (omega arith),
    )

pub key_file_holds : (key : PrivateKey) (next : ℕ) (bytes : List ℕ) → IsKept key next → bytes ≡ key_file_bytes key next → HoldsKey key next bytes
unfolding key_file_bytes
key_file_holds key next bytes kept is =
    let most : 2 ^ height_of key.lms ≤ 2 ^ 10 = pow_mono {i = height_of key.lms} {j = 10} (omega (arith, kept.made.types)) in
    let places = spelled_places (codes "SK01") (u32str key.lms) (u32str key.ots) key.id key.seed (u32str next) bytes refl refl refl kept.made.id kept.made.seed refl is in
    record {
      size = places.0;
      mark = number_at-u32str 0 bytes 0x534b3031 (omega arith) places.1;
      lms = number_at-u32str 4 bytes key.lms (omega (arith, kept.made.types)) places.2;
      ots = number_at-u32str 8 bytes key.ots (omega (arith, kept.made.types)) places.3;
      id = places.4;
      seed = places.5;
      next_leaf = number_at-u32str 60 bytes next (omega (arith, kept.in_tree)) places.6;
    }

-- a key with the same parts is the same
pub same_key : (key : PrivateKey) (lms ots : ℕ) (id seed : List ℕ) → lms ≡ key.lms → ots ≡ key.ots → id ≡ key.id → seed ≡ key.seed → let made : PrivateKey = record { lms = lms; ots = ots; id = id; seed = seed } in made ≡ key
same_key key lms ots id seed a b c d =
    let f : ℕ → ℕ → List ℕ → List ℕ → PrivateKey = λ l o i s. record { lms = l; ots = o; id = i; seed = s } in
    ap (λ l. f l ots id seed) a ∙ ap (λ o. f key.lms o id seed) b ∙ ap (λ i. f key.lms key.ots i seed) c ∙ ap (λ s. f key.lms key.ots key.id s) d
