-- The items that came with records stay beside them as blocks come.
use Rattle.std.proofs.Common.{◌≡◌, ℕ, Bool, true, false, List, [], ◌∷◌, ◌++◌, ◌||◌, if◌then◌else◌, map, refl, sym, ap, ◌∙◌, subst}
use Rattle.std.specs.List.{AllByRecursion}
use Rattle.std.proofs.Math.Bool.{or-true, true-or}
use Rattle.std.proofs.lemmas.List.Folds.{list_any-append}
use Rattle.std.proofs.lemmas.List.Sums.{fold-append}
use Rattle.std.proofs.lemmas.Slice.Eq.{bytes_eq-Decides}
use Rattle.std.specs.Global.{Vec}
use Rattle.sha2.specs.Sha256.{sha256}
use Rattle.su_keeper.specs.Kept.{KeptRecord}
use Rattle.su_vault.specs.Records.{commits_of, found_alone, kept_with, with_item}
use Rattle.su_store.specs.Kept.{has_block, lies_under, with_block, with_blocks}
use Rattle.su_places.specs.Places.{AreBeside}

all_mono : {X : Type 0} (P Q : X → Type 0) → ((x : X) → P x → Q x) → (xs : List X) → AllByRecursion P xs → AllByRecursion Q xs
all_mono P Q on [] all = all
all_mono P Q on (x ∷ xs) all = (on x all.0, all_mono P Q on xs all.1)

all_snoc : {X : Type 0} (P : X → Type 0) (xs : List X) (x : X) → AllByRecursion P xs → P x → AllByRecursion P (xs ++ x ∷ [])
all_snoc P [] x all one = (one, tt)
all_snoc P (y ∷ ys) x all one = (all.0, all_snoc P ys x all.1 one)

stays_in : (digest : List ℕ) (blocks : List (List ℕ)) (block : List ℕ) (b : Bool) → has_block digest blocks ≡ true → has_block digest (if b then blocks else blocks ++ block ∷ []) ≡ true
stays_in digest blocks block true had = had
stays_in digest blocks block false had = list_any-append (lies_under digest) blocks (block ∷ []) ∙ ap (λ b. b || has_block digest (block ∷ [])) had ∙ true-or (has_block digest (block ∷ []))

-- a block that is held is held with one more
pub block_stays : (digest : List ℕ) (blocks : List (List ℕ)) (block : List ℕ) → has_block digest blocks ≡ true → has_block digest (with_block blocks block) ≡ true
unfolding with_block
block_stays digest blocks block had = stays_in digest blocks block (has_block (sha256 block) blocks) had

own_block : (block : List ℕ) → has_block (sha256 block) (block ∷ []) ≡ true
own_block block = ap (λ b. b || false) ((bytes_eq-Decides (sha256 block) (sha256 block)).1 refl)

there_in : (blocks : List (List ℕ)) (block : List ℕ) (b : Bool) → has_block (sha256 block) blocks ≡ b → has_block (sha256 block) (if b then blocks else blocks ++ block ∷ []) ≡ true
there_in blocks block true is = is
there_in blocks block false is = list_any-append (lies_under (sha256 block)) blocks (block ∷ []) ∙ ap (λ b. has_block (sha256 block) blocks || b) (own_block block) ∙ or-true (has_block (sha256 block) blocks)

-- and one that came lies under its digest
pub block_there : (blocks : List (List ℕ)) (block : List ℕ) → has_block (sha256 block) (with_block blocks block) ≡ true
unfolding with_block
block_there blocks block = there_in blocks block (has_block (sha256 block) blocks) refl

pub blocks_stay : (digest : List ℕ) (more blocks : List (List ℕ)) → has_block digest blocks ≡ true → has_block digest (with_blocks blocks more) ≡ true
blocks_stay digest [] blocks had = had
blocks_stay digest (block ∷ more) blocks had = blocks_stay digest more (with_block blocks block) (block_stays digest blocks block had)

pub blocks_there : (more blocks : List (List ℕ)) → AllByRecursion (λ item. has_block (sha256 item) (with_blocks blocks more) ≡ true) more
blocks_there [] blocks = tt
blocks_there (block ∷ more) blocks =
    (blocks_stay (sha256 block) more (with_block blocks block) (block_there blocks block), blocks_there more (with_block blocks block))

pub beside_block : (records : List KeptRecord) (blocks : List (List ℕ)) (block : List ℕ) → AreBeside records blocks → AreBeside records (with_block blocks block)
beside_block records blocks block beside =
    all_mono _ _ (λ r items. all_mono _ _ (λ item had. block_stays (sha256 item) blocks block had) r.items items) records beside

pub beside_blocks : (records : List KeptRecord) (more blocks : List (List ℕ)) → AreBeside records blocks → AreBeside records (with_blocks blocks more)
beside_blocks records more blocks beside =
    all_mono _ _ (λ r items. all_mono _ _ (λ item had. blocks_stay (sha256 item) more blocks had) r.items items) records beside

-- a record comes with its items
pub beside_more : (records : List KeptRecord) (blocks : List (List ℕ)) (commit : List ℕ) (items : List (Vec ℕ)) → AreBeside records blocks → AreBeside (records ++ kept_with commit items ∷ []) (with_blocks blocks (map (λ item. item.items) items))
beside_more records blocks commit items beside =
    let more = map (λ (item : Vec ℕ). item.items) items in
    all_snoc _ records (kept_with commit items) (beside_blocks records more blocks beside) (blocks_there more blocks)

pub beside_found : (records : List KeptRecord) (blocks : List (List ℕ)) (commit : List ℕ) → AreBeside records blocks → AreBeside (records ++ found_alone commit ∷ []) blocks
beside_found records blocks commit beside = all_snoc _ records (found_alone commit) beside tt

-- an item that came alone lies beside all records
pub beside_with : (item : List ℕ) (records : List KeptRecord) (blocks : List (List ℕ)) → AreBeside records blocks → AreBeside (with_item item records) (with_block blocks item)
beside_with item [] blocks beside = tt
beside_with item (r ∷ records) blocks beside =
    ((block_there blocks item, all_mono _ _ (λ it had. block_stays (sha256 it) blocks item had) r.items beside.0), beside_with item records blocks beside.1)

pub commits_more : (records : List KeptRecord) (r : KeptRecord) → commits_of (records ++ r ∷ []) ≡ commits_of records ++ r.commit ∷ []
commits_more [] r = refl
commits_more (x ∷ records) r = ap (λ l. x.commit ∷ l) (commits_more records r)

pub commits_with : (item : List ℕ) (records : List KeptRecord) → commits_of (with_item item records) ≡ commits_of records
commits_with item [] = refl
commits_with item (r ∷ records) = ap (λ l. r.commit ∷ l) (commits_with item records)
