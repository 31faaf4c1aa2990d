-- What the statements that look for a block or a record show.
use Rattle.std.proofs.Common.{◌≡◌, ◌<◌, ◌+◌, ℕ, suc, zero, pos, negsuc, List, [], ◌∷◌, map, codes, Bool, true, false, cond, None, Some, Option, inl, inr, refl, sym, ap, subst, ◌∙◌, arith, filter, nat_eq, slice_get, eq-eqb, length, not, ◌==◌}
use Rattle.std.proofs.lemmas.List.{length-map}
use Rattle.std.proofs.lemmas.Slice.Eq.{bytes_eq-Decides}
use Rattle.sqlite_trees.proofs.ListLemmas.{all-permutation}
use Rattle.std.proofs.lemmas.Bool.Decides.{nat_tests}
use Rattle.std.specs.Str.{bytes_eq}
use Rattle.std.specs.Ordering.{int_cmp}
use Rattle.std.specs.List.{list_any, Contains, AllByRecursion}
use Rattle.std.specs.List.Sorted.{IsPermutation}
use Rattle.std.specs.Ordering.{is_eq}
use Rattle.std.proofs.lemmas.Bool.{cases_Bool}
use Rattle.std.proofs.lemmas.List.Sorted.{IsPermutation-map, length_permutation}
use Rattle.std.proofs.lemmas.Map.Text.{is_eq-slice_cmp}
use Rattle.sha2.specs.Sha256.{sha256}
use Rattle.sqlite_sql.specs.Ops.{binary, is_true, from_truth}
use Rattle.sqlite_sql.specs.Query.{matches}
use Rattle.sqlite_value.proofs.OrderLemmas.{value_cmp-Blob, value_cmp-Int}
use Rattle.sqlite.specs.declared.types.Value.{Value}
use Rattle.sqlite.specs.declared.types.Value.TheVariants.{Null, Int, Blob}
use Rattle.sqlite.specs.Collation.TheVariants.{Binary}
use Rattle.sqlite.specs.Order.{Row, column}
use Rattle.sqlite.specs.Term.{lit, col, op2}
use Rattle.sqlite_sql.specs.declared.ops.BinaryOp.TheVariants.{Compare}
use Rattle.sqlite_sql.specs.declared.ops.CompareOp.TheVariants.{Eq}
use Rattle.sqlite.specs.Query.{Query, inner, end, IsAnswer, output, Output}
use Rattle.sqlite.specs.Program.{overlay}
use Rattle.sqlite.specs.Command.TheVariants.{Select}
use Rattle.sqlite_tied.specs.Compute.{everything}
use Rattle.sqlite.specs.Listing.{understood, reads_listing}
use Rattle.sqlite.specs.State.{State, HasCleanDisk, Survives, CommitsShowing, Shown, IsUnchanged}
use Rattle.sqlite.proofs.StateLemmas.{survives_weaker}
use Rattle.sqlite.proofs.Callers.{IsPlain, command_of, reads_as, never_commits, one_permutation}
use Rattle.su_store.specs.Kept.{Kept, lies_under, has_block}
use Rattle.su_store.specs.Lookups.{IsFirst, IsBlockAmong}
use Rattle.su_store.specs.Tables.{store_schema, record_row, block_row, rows_from, Stands}

abbrev pub block_text : List ℕ
block_text = codes "SELECT bytes FROM block WHERE digest = ?1"

abbrev pub record_text : List ℕ
record_text = codes "SELECT bytes FROM record WHERE number = ?1"

abbrev query_at : ℕ → ℕ → Query
query_at tree place = record {
  from = inner tree end;
  filter = op2 (Compare Eq Binary) (col 1 place) (col 0 0) ∷ [];
  group = None;
  project = col 1 2 ∷ [];
  distinct = false;
  collations = [];
  order = [];
  limit = lit (Int (negsuc 0));
  offset = lit (Int (pos 0));
}

block_is : (command_of (understood store_schema block_text) ≡ Select (record { lets = []; body = query_at 1 1 }) (codes "bytes" ∷ [])) × (reads_listing store_schema block_text ≡ false)
unfolding understood everything
block_is = (refl, refl)

record_is : (command_of (understood store_schema record_text) ≡ Select (record { lets = []; body = query_at 0 0 }) (codes "bytes" ∷ [])) × (reads_listing store_schema record_text ≡ false)
unfolding understood everything
record_is = (refl, refl)

pub block_plain : IsPlain (understood store_schema block_text)
unfolding understood everything
block_plain = (refl, refl)

pub record_plain : IsPlain (understood store_schema record_text)
unfolding understood everything
record_plain = (refl, refl)

truth_again : (b : Bool) → is_true (from_truth (Some b)) ≡ b
truth_again true = refl
truth_again false = refl

passes_blob : (d digest : List ℕ) → is_true (binary (Compare Eq Binary) (Blob d) (Blob digest)) ≡ bytes_eq d digest
unfolding binary
passes_blob d digest = truth_again _ ∙ ap is_eq (value_cmp-Blob d digest) ∙ is_eq-slice_cmp d digest

ints : (m n : ℕ) → is_eq (int_cmp (pos m) (pos n)) ≡ nat_eq m n
ints m n = grind (arith, nat_tests)

passes_int : (m n : ℕ) → is_true (binary (Compare Eq Binary) (Int (pos m)) (Int (pos n))) ≡ nat_eq m n
unfolding binary
passes_int m n = truth_again _ ∙ ap is_eq (value_cmp-Int (pos m) (pos n)) ∙ ints m n

-- a row that shows these bytes
abbrev pub shown : List ℕ → Row
shown bytes = Blob bytes ∷ []

-- what the query shows of these rows
abbrev shown_of : ℕ → ℕ → Value → List Row → List Row
shown_of tree place value rows = map (λ (o : Output). o.1) (map (output (query_at tree place)) (matches (λ _. rows) (query_at tree place).filter (query_at tree place).from ((value ∷ []) ∷ [])))

blocks_shown : (digest : List ℕ) (n : ℕ) (blocks : List (List ℕ)) → shown_of 1 1 (Blob digest) (rows_from block_row n blocks) ≡ map shown (filter (lies_under digest) blocks)
blocks_shown digest n [] = refl
blocks_shown digest n (x ∷ blocks) = elim (cases_Bool (bytes_eq (sha256 x) digest)) [
  | inl is ↦ let t = passes_blob (sha256 x) digest ∙ is in rw (t, is) (ap (λ l. shown x ∷ l) (blocks_shown digest (suc n) blocks))
  | inr isnt ↦ let t = passes_blob (sha256 x) digest ∙ isnt in rw (t, isnt) (blocks_shown digest (suc n) blocks)
]

picked : ℕ → ℕ → List (List ℕ) → List (List ℕ)
picked k number [] = []
picked k number (x ∷ xs) = cond (nat_eq k number) (x ∷ picked (suc k) number xs) (picked (suc k) number xs)

records_shown : (number k : ℕ) (records : List (List ℕ)) → shown_of 0 0 (Int (pos number)) (rows_from record_row k records) ≡ map shown (picked k number records)
unfolding picked
records_shown number k [] = refl
records_shown number k (x ∷ records) = elim (cases_Bool (nat_eq k number)) [
  | inl is ↦ let t = passes_int k number ∙ is in rw (t, is) (ap (λ l. shown x ∷ l) (records_shown number (suc k) records))
  | inr isnt ↦ let t = passes_int k number ∙ isnt in rw (t, isnt) (records_shown number (suc k) records)
]

abbrev pub listed : Option (List ℕ) → List (List ℕ)
listed None = []
listed (Some x) = x ∷ []

picked_none : (k number : ℕ) (xs : List (List ℕ)) → number < k → picked k number xs ≡ []
unfolding picked
picked_none k number [] low = refl
picked_none k number (x ∷ xs) low = let other : nat_eq k number ≡ false = grind (arith, nat_tests) in rw other (picked_none (suc k) number xs (omega arith))

picked_at : (k i : ℕ) (xs : List (List ℕ)) (number : ℕ) → number ≡ k + i → picked k number xs ≡ listed (slice_get xs i)
unfolding picked
picked_at k i [] number is = refl
picked_at k zero (x ∷ xs) number is = let same : nat_eq k number ≡ true = eq-eqb k number (omega (arith, is)) in rw same (ap (λ l. x ∷ l) (picked_none (suc k) number xs (omega (arith, is))))
picked_at k (suc i) (x ∷ xs) number is = let other : nat_eq k number ≡ false = grind (arith, nat_tests) in rw other (picked_at (suc k) i xs number (omega (arith, is)))

module _ (old new : State) (rows : List Row) (has : old.now.schema ≡ store_schema) (kept : Kept) (was : Stands kept old.now.trees) where
  pub finds_block : (digest : List ℕ) → Shown block_text (Blob digest ∷ []) old new rows → IsPermutation (map shown (filter (lies_under digest) kept.blocks)) rows
  finds_block digest h =
      let got = reads_as block_text (Blob digest ∷ []) old new store_schema has _ block_is.0 block_plain block_is.1 rows h in
      let a : IsAnswer (query_at 1 1) (overlay old.now.trees []) (Blob digest ∷ []) rows = got.answer Null in
      let all : map (λ (o : Output). o.1) a.kept ≡ map shown (filter (lies_under digest) kept.blocks) =
      ap (map (λ (o : Output). o.1)) (a.distinct ∙ ap (map (output (query_at 1 1))) a.grouped) ∙ ap (shown_of 1 1 (Blob digest)) was.blocks ∙ blocks_shown digest 1 kept.blocks in
      let same : IsPermutation (map (λ (o : Output). o.1) a.kept) (map (λ (o : Output). o.1) a.ordered) = IsPermutation-map (λ (o : Output). o.1) a.kept a.ordered a.same in
      subst (IsPermutation (map shown (filter (lies_under digest) kept.blocks))) (sym a.shown) (subst (λ l. IsPermutation l (map (λ (o : Output). o.1) a.ordered)) all same)

  pub finds_record : (number : ℕ) → Shown record_text (Int (pos number) ∷ []) old new rows → IsPermutation (map shown (listed (slice_get kept.records number))) rows
  finds_record number h =
      let got = reads_as record_text (Int (pos number) ∷ []) old new store_schema has _ record_is.0 record_plain record_is.1 rows h in
      let a : IsAnswer (query_at 0 0) (overlay old.now.trees []) (Int (pos number) ∷ []) rows = got.answer Null in
      let all : map (λ (o : Output). o.1) a.kept ≡ map shown (listed (slice_get kept.records number)) =
      ap (map (λ (o : Output). o.1)) (a.distinct ∙ ap (map (output (query_at 0 0))) a.grouped) ∙ ap (shown_of 0 0 (Int (pos number))) was.records ∙ records_shown number 0 kept.records ∙ ap (map shown) (picked_at 0 number kept.records number (omega arith)) in
      let same : IsPermutation (map (λ (o : Output). o.1) a.kept) (map (λ (o : Output). o.1) a.ordered) = IsPermutation-map (λ (o : Output). o.1) a.kept a.ordered a.same in
      subst (IsPermutation (map shown (listed (slice_get kept.records number)))) (sym a.shown) (subst (λ l. IsPermutation l (map (λ (o : Output). o.1) a.ordered)) all same)

-- a look-up changes nothing
pub unchanged : (sql : List ℕ) (params : Row) (old new : State) (rows : List Row) → old.now.schema ≡ store_schema → IsPlain (understood store_schema sql) → Shown sql params old new rows → IsUnchanged old new
unfolding Shown
unchanged sql params old new rows has plain h =
    let known = sym h.1.is ∙ ap (λ s. understood s sql) has in
    let bare = subst IsPlain (sym known) plain in
    let it = rw (bare.0) at h.2 in
    it.3

-- it commits nothing
pub commits_nothing : (sql : List ℕ) (params : Row) (old new : State) → (HasCleanDisk old → IsPlain (understood old.now.schema sql)) → Survives old new (CommitsShowing sql params old) → Survives old new (λ _. ⊥)
commits_nothing sql params old new plain s = survives_weaker old new _ _ (λ clean db. never_commits sql params old db (plain (omega (arith, clean, s.clean)))) s

list_any-none : (p : List ℕ → Bool) (xs : List (List ℕ)) → filter p xs ≡ [] → list_any p xs ≡ false
list_any-none p [] none = refl
list_any-none p (x ∷ xs) none = elim (cases_Bool (p x)) [
  | inl is ↦ absurd (let e = rw is at none in cc)
  | inr isnt ↦ rw isnt (list_any-none p xs (rw isnt at none))
]

list_any-some : (p : List ℕ → Bool) (xs : List (List ℕ)) → 0 < length (filter p xs) → list_any p xs ≡ true
list_any-some p [] some = absurd (omega arith)
list_any-some p (x ∷ xs) some = elim (cases_Bool (p x)) [
  | inl is ↦ rw is
  | inr isnt ↦ rw isnt (list_any-some p xs (rw isnt at some))
]

pub block_plainly : (s : State) → s.now.schema ≡ store_schema → IsPlain (understood s.now.schema block_text)
block_plainly s has = subst (λ k. IsPlain (understood k block_text)) (sym has) block_plain

pub record_plainly : (s : State) → s.now.schema ≡ store_schema → IsPlain (understood s.now.schema record_text)
record_plainly s has = subst (λ k. IsPlain (understood k record_text)) (sym has) record_plain

empty_rows : (xs : List (List ℕ)) → IsPermutation (map shown xs) [] → xs ≡ []
empty_rows [] h = refl
empty_rows (x ∷ xs) h = absurd (omega (arith, length_permutation _ _ h))

-- whether there is a row tells whether a block has the digest
pub tells : (digest : List ℕ) (blocks : List (List ℕ)) (rows : List Row) → IsPermutation (map shown (filter (lies_under digest) blocks)) rows → not (length rows == 0) ≡ has_block digest blocks
tells digest blocks [] h = sym (list_any-none (lies_under digest) blocks (empty_rows (filter (lies_under digest) blocks) h))
tells digest blocks (r ∷ rows) h =
    let len : length (map shown (filter (lies_under digest) blocks)) ≡ length (filter (lies_under digest) blocks) = length-map _ shown in
    let some : 0 < length (filter (lies_under digest) blocks) = omega (arith, length_permutation _ _ h) in
    let more : (length (r ∷ rows) == 0) ≡ false = grind (arith, nat_tests) in
    rw more (sym (list_any-some (lies_under digest) blocks some))

pub record_found : (at : Option (List ℕ)) (rows : List Row) (found : Option (List ℕ)) → IsPermutation (map shown (listed at)) rows → IsFirst found rows → found ≡ at
record_found None rows None h first = refl
record_found None rows (Some b) h first = absurd (omega (arith, length_permutation _ _ h, ap length first.2))
record_found (Some x) rows None h first = absurd (omega (arith, length_permutation _ _ h, ap length first))
record_found (Some x) rows (Some b) h first =
    let one : rows ≡ shown x ∷ [] = one_permutation (shown x) rows h in
    let row : first.0 ∷ first.1 ≡ shown x ∷ [] = sym first.2 ∙ one in
    let same : first.0 ≡ shown x = cc in
    let value : Blob b ≡ Blob x = sym first.3 ∙ ap (λ r. column r 0) same in
    cc

-- a row that shows one of the blocks, which has the digest
abbrev Shows : List ℕ → List (List ℕ) → Row → Type 0
Shows digest all row = (b : List ℕ) × (row ≡ shown b) × Contains all b × (sha256 b ≡ digest)

later : (x b : List ℕ) (xs : List (List ℕ)) → Contains xs b → Contains (x ∷ xs) b
later x b xs h = (suc h.0, omega (arith, h.1), h.2)

all_show : (digest : List ℕ) (all xs : List (List ℕ)) → ((b : List ℕ) → Contains xs b → Contains all b) → AllByRecursion (Shows digest all) (map shown (filter (lies_under digest) xs))
all_show digest all [] within = tt
all_show digest all (x ∷ xs) within = elim (cases_Bool (bytes_eq (sha256 x) digest)) [
  | inl is ↦ rw is ((x, refl, within x (0, omega arith, refl), (bytes_eq-Decides (sha256 x) digest).0 is), all_show digest all xs (λ b h. within b (later x b xs h)))
  | inr isnt ↦ rw isnt (all_show digest all xs (λ b h. within b (later x b xs h)))
]

pub block_found : (digest : List ℕ) (blocks : List (List ℕ)) (rows : List Row) (found : Option (List ℕ)) → IsPermutation (map shown (filter (lies_under digest) blocks)) rows → IsFirst found rows
    → IsBlockAmong blocks digest found
block_found digest blocks rows None h first = list_any-none (lies_under digest) blocks (empty_rows (filter (lies_under digest) blocks) (subst (IsPermutation (map shown (filter (lies_under digest) blocks))) first h))
block_found digest blocks rows (Some b) h first =
    let all : AllByRecursion (Shows digest blocks) rows = all-permutation (Shows digest blocks) _ rows h (all_show digest blocks blocks (λ c k. k)) in
    let one : Shows digest blocks first.0 = (subst (AllByRecursion (Shows digest blocks)) first.2 all).0 in
    let value : Blob b ≡ Blob one.0 = sym first.3 ∙ ap (λ r. column r 0) one.1 in
    let same : one.0 ≡ b = cc in
    (subst (Contains blocks) same one.2, subst (λ x. sha256 x ≡ digest) same one.3)
