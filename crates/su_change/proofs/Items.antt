-- Items of changes: one spelling each, which begins no other, of at most 70,000 bytes.
use Rattle.std.proofs.Common.{◌≡◌, ◌∙◌, ℕ, ◌+◌, ◌<◌, ◌≤◌, ◌^◌, Bool, true, false, cond, nat_eq, List, [], ◌∷◌, ◌++◌, length, refl, sym, ap, subst, arith, ◌⊎◌, inl, inr, length-append}
use Rattle.std.proofs.lemmas.Bool.{eqb-true}
use Rattle.std.specs.Prelude.{Result, Ok, Err}
use Rattle.su_bytes.specs.declared.refusals.Refusal.{Refusal}
use Rattle.su_bytes.specs.declared.refusals.Refusal.TheVariants.{Malformed, NoMemory}
use Rattle.su_bytes.specs.declared.rosters.TheConstants.{KEY_LENGTH}
use Rattle.su_op.specs.declared.operations.Op.{Op}
use Rattle.su_op.specs.declared.operations.Change.{Change}
use Rattle.su_op.specs.declared.operations.Change.TheVariants.{Do, Undo, Rekey}
use Rattle.su_format.specs.Format.{Format, IsLawful, IsFormatOf, making, ◌>>=◌}
use Rattle.su_format.specs.Part.{u64_bytes}
use Rattle.su_format.specs.Reading.{Reading, Took, Refuses, Takes, Decodes}
use Rattle.su_format.proofs.Public.{Makes, known_as, last_of, in_order, making_lawful, behind_mark, format_of, found_by, only_by, u64_of, bytes_of}
use Rattle.su_change.specs.Kinds.{no_kind, fields_of}
use Rattle.su_change.specs.Operation.{op_bytes, op_kinds}
use Rattle.su_change.specs.Batch.{batch_bytes, batch_fields}
use Rattle.su_change.specs.Rekey.{IsKey, rekey_fields}
use Rattle.su_change.specs.Item.{HasSpelling, HasItem, IsTooLong, IsChange, tagged_bytes, first_byte, item_bytes, longest_item, undo_fields, alone_fields, alone_kinds, kinds, tagged_format, within, marked_format, item_format}
use Rattle.su_change.proofs.Sizes.{op_few}
use Rattle.su_change.proofs.KindLemmas.{IsKind, Tells, AllTell, HasKind, HasNoKind, told, of_kind, one_makes, no_kind_fails, not_the_first}
use Rattle.su_change.proofs.Operations.{Fits, by_number, by_op}
use Rattle.su_change.proofs.Batches.{IsBatch, batch_of}

-- a change that is spelled, in however many bytes
abbrev pub IsSpelled : Change → Type 0
IsSpelled c = IsChange c × HasSpelling c

-- The fields make the changes of the kind with the number, each of one of these, which has one
-- spelling.
abbrev IsChangeKind : {A : Type 0} → ℕ → Format Change → (A → Change) → (A → Type 0) → (A → List ℕ) → Type 0
IsChangeKind n f make Is spelling = IsKind IsSpelled tagged_bytes n f make Is spelling

undo_kind : IsChangeKind 0 undo_fields Undo (λ n. n < 2 ^ 64) u64_bytes
undo_kind = record { makes = last_of u64_of Undo; is = λ n is. ((is, tt), refl) }

rekey_kind : IsChangeKind 9 rekey_fields Rekey IsKey (λ k. k)
unfolding rekey_fields
rekey_kind = record { makes = last_of (bytes_of KEY_LENGTH) Rekey; is = λ k is. ((is, tt), refl) }

-- the kinds of changes behind those that are one operation
abbrev more_kinds : List (ℕ × Format Change)
more_kinds = (9, rekey_fields) ∷ (10, batch_fields) ∷ []

-- ---- several operations

batch_is : (ops : List Op) → IsBatch ops → IsSpelled (Do ops) × (tagged_bytes (Do ops) ≡ 10 ∷ batch_bytes ops)
batch_is [] is = absurd (let few = is.count.0 in omega (arith, few))
batch_is (op ∷ []) is = absurd (let few = is.count.0 in omega (arith, few))
batch_is (op ∷ next ∷ ops) is = ((is.are, record { some = omega arith; few = is.count.1; each = is.each }), refl)

batch_kind : IsChangeKind 10 batch_fields Do IsBatch batch_bytes
unfolding batch_fields
batch_kind = record { makes = last_of batch_of Do; is = batch_is }

-- ---- one operation

-- what the number of its kind tells of an operation, it tells of the change that is this one
alone_told : (n : ℕ) (f : Format Op) → Tells Fits op_bytes n f → Tells IsSpelled tagged_bytes n (alone_fields f)
unfolding ◌>>=◌ making
alone_told n f tells = record {
  lawful = in_order f (λ op. making (Do (op ∷ []))) tells.lawful (λ op. making_lawful (Do (op ∷ [])));
  spelled = λ bytes c rest x.
      let s = tells.spelled bytes x.0 x.1 x.2 in
      subst (λ d. IsSpelled d × (n ∷ bytes ≡ tagged_bytes d ++ rest)) (sym x.3.0)
      (((s.0.0, tt), s.0.1), s.1 ∙ ap (λ l. op_bytes x.0 ++ l) (sym x.3.1));
}

all_alone : (rows : List (ℕ × Format Op)) (others : List (ℕ × Format Change)) → AllTell Fits op_bytes rows → AllTell IsSpelled tagged_bytes others → AllTell IsSpelled tagged_bytes (alone_kinds rows ++ others)
all_alone [] others all more = more
all_alone (kind ∷ rows) others all more = (alone_told kind.0 kind.1 all.0, all_alone rows others all.1 more)

alone_begins : (rows : List (ℕ × Format Op)) (others : List (ℕ × Format Change)) (n : ℕ) (bytes : List ℕ) (op : Op) (rest : List ℕ) → (fields_of rows n).Begins bytes op rest → (fields_of (alone_kinds rows ++ others) n).Begins bytes (Do (op ∷ [])) rest
unfolding ◌>>=◌ making no_kind
alone_begins [] others n bytes op rest b = absurd b
alone_begins (kind ∷ rows) others n bytes op rest b = go (nat_eq n kind.0) b (alone_begins rows others n bytes op rest)
  where
    go : (same : Bool) → (cond same kind.1 (fields_of rows n)).Begins bytes op rest → ((fields_of rows n).Begins bytes op rest → (fields_of (alone_kinds rows ++ others) n).Begins bytes (Do (op ∷ [])) rest) → (cond same (alone_fields kind.1) (fields_of (alone_kinds rows ++ others) n)).Begins bytes (Do (op ∷ [])) rest
    go true here behind = (op, rest, here, (refl, refl))
    go false there behind = behind there

-- what comes of the fields of an operation comes of those of the change, where none of the other
-- kinds has the number
pub alone_takes : (rows : List (ℕ × Format Op)) (others : List (ℕ × Format Change)) (n : ℕ) → HasNoKind others n → (old : Reading) (r : Result Change Refusal) (new : Reading) → Takes (alone_fields (fields_of rows n)) old r new → Takes (fields_of (alone_kinds rows ++ others) n) old r new
unfolding ◌>>=◌ making no_kind
alone_takes [] others n none old (Ok c) new took = absurd took.spelled.2
alone_takes [] others n none old (Err e) new (inl is) = inl is
alone_takes [] others n none old (Err e) new (inr (place, is, at)) = inr (place, is, record { behind = at.behind; fails = go at.fails; place_is = at.place_is })
  where
    go : (at.behind ≡ n ∷ old.left) ⊎ ((op : Op) × (between : List ℕ) × ⊥ × ⊥) → (fields_of others n).Fails old.left at.behind
    go (inl same) = subst ((fields_of others n).Fails old.left) (sym same) (no_kind_fails others n none old.left)
    go (inr more) = absurd more.2
alone_takes (kind ∷ rows) others n none old r new takes = go (nat_eq n kind.0) takes (alone_takes rows others n none old r new)
  where
    go : (same : Bool) → Takes (alone_fields (cond same kind.1 (fields_of rows n))) old r new → (Takes (alone_fields (fields_of rows n)) old r new → Takes (fields_of (alone_kinds rows ++ others) n) old r new) → Takes (cond same (alone_fields kind.1) (fields_of (alone_kinds rows ++ others) n)) old r new
    go true here behind = here
    go false there behind = behind there

-- an operation's kind isn't that of an undo
not_undone : {op : Op} (k : HasKind op_kinds op_bytes op) → k.number ≡ 0 → ⊥
unfolding no_kind
not_undone {op} k is = subst (λ n. (fields_of op_kinds n).Begins (k.fields ++ []) op []) is (k.begins [])

alone : (op : Op) → Fits op → HasKind kinds tagged_bytes (Do (op ∷ []))
alone op fits =
    let k = by_op op fits in
    record {
      number = k.number;
      fields = k.fields;
      small = k.small;
      spelled = k.spelled;
      begins = λ rest. go k.number (not_undone k) (k.fields ++ rest) rest (k.begins rest);
    }
  where
    go : (n : ℕ) → (n ≡ 0 → ⊥) → (bytes rest : List ℕ) → (fields_of op_kinds n).Begins bytes op rest → (fields_of kinds n).Begins bytes (Do (op ∷ [])) rest
    go n none bytes rest b = first (nat_eq n 0) refl (alone_begins op_kinds more_kinds n bytes op rest b)
      where
        first : (same : Bool) → nat_eq n 0 ≡ same → (fields_of (alone_kinds op_kinds ++ more_kinds) n).Begins bytes (Do (op ∷ [])) rest → (cond same undo_fields (fields_of (alone_kinds op_kinds ++ more_kinds) n)).Begins bytes (Do (op ∷ [])) rest
        first true is there = absurd (none (eqb-true _ _ is))
        first false is there = there

-- ---- all changes

each_tells : AllTell IsSpelled tagged_bytes kinds
each_tells = (told undo_kind, all_alone op_kinds more_kinds by_number (told rekey_kind, (told batch_kind, tt)))

by_change : (c : Change) → IsSpelled c → HasKind kinds tagged_bytes c
by_change (Undo n) is = of_kind (omega arith) undo_kind n is.0
by_change (Do []) is = absurd is.1
by_change (Do (op ∷ [])) is = alone op (is.0.0, is.1)
by_change (Do (op ∷ next ∷ ops)) is =
    of_kind (omega arith) batch_kind (op ∷ next ∷ ops) (record { count = (omega arith, is.1.few); are = is.0; each = is.1.each })
by_change (Rekey k) is = of_kind (omega arith) rekey_kind k is.0

tagged : Makes tagged_format (λ c. c) IsSpelled tagged_bytes
unfolding tagged_format
tagged = one_makes each_tells by_change

-- ---- what is read of the numbers of other kinds than those of operations

abbrev pub IsOther : ℕ → Type 0
IsOther n = (n ≡ 0 → ⊥) × HasNoKind more_kinds n

pub takes_alone : (n : ℕ) → IsOther n → (old : Reading) (r : Result Change Refusal) (new : Reading) → Takes (alone_fields (fields_of op_kinds n)) old r new → Takes (fields_of kinds n) old r new
takes_alone n other old r new takes =
    not_the_first (0, undo_fields) (alone_kinds op_kinds ++ more_kinds) n old r new other.0
    (alone_takes op_kinds more_kinds n other.1 old r new takes)

-- ---- values of so many bytes at most

module _ {A : Type 0} {f : Format A} {Is : A → Type 0} {spelling : A → List ℕ} (most : ℕ) (of : Makes f (λ a. a) Is spelling) where
  -- the value is longer
  Longer : List ℕ → Type 0
  Longer bytes = (a : A) × (behind : List ℕ) × f.Begins bytes a behind × (most + length behind < length bytes)

  not_both : (bytes : List ℕ) (a : A) (rest : List ℕ) → f.Begins bytes a rest → length bytes ≤ most + length rest → Longer bytes → ⊥
  unfolding Longer
  not_both bytes a rest b short long =
      let same = ap length (of.lawful.told bytes a long.0 rest long.1 b long.2).1 in
      let more = long.3 in
      omega (arith, same, short, more)

  within_lawful : IsLawful (within most f)
  unfolding within Longer
  within_lawful =
      let apart : (bytes : List ℕ) (a : A) (rest behind : List ℕ) → (within most f).Begins bytes a rest → (within most f).Fails bytes behind → ⊥ = λ bytes a rest behind x. elim [
        | inl y ↦ of.lawful.apart bytes a rest behind x.0 y
        | inr y ↦ not_both bytes a rest x.0 x.1 y.1
      ] in
      let place : (bytes rest behind : List ℕ) → (within most f).Fails bytes rest → (within most f).Fails bytes behind → rest ≡ behind = λ bytes rest behind. elim [
        | inl x ↦ elim [
          | inl y ↦ of.lawful.one_place bytes rest behind x y
          | inr y ↦ absurd (of.lawful.apart bytes y.1.0 y.1.1 rest y.1.2 x)
        ]
        | inr x ↦ elim [
          | inl y ↦ absurd (of.lawful.apart bytes x.1.0 x.1.1 behind x.1.2 y)
          | inr y ↦ x.0 ∙ sym y.0
        ]
      ] in
      record {
        told = λ bytes a b rest behind x y. of.lawful.told bytes a b rest behind x.0 y.0;
        apart = apart;
        one_place = place;
      }

  within_makes : Makes (within most f) (λ a. a) (λ a. Is a × (length (spelling a) ≤ most)) spelling
  unfolding within
  within_makes = record {
    lawful = within_lawful;
    spelled = λ bytes a rest x.
        let s = of.spelled bytes a rest x.0 in
        let long = ap length s.3 ∙ length-append (spelling s.0) rest in
        let short = x.1 in
        (s.0, s.1, (s.2, omega (arith, long, short)), s.3);
    begins = λ bytes a rest is e.
        let long = ap length e ∙ length-append (spelling a) rest in
        let short = is.1 in
        (of.begins bytes a rest is.0 e, omega (arith, long, short));
  }

-- ---- items

short_enough : (c : Change) → IsChange c → HasItem c → length (item_bytes c) ≤ longest_item
unfolding item_bytes
short_enough (Undo n) is has = omega arith
short_enough (Do []) is has = absurd has
short_enough (Do (op ∷ [])) is has = let few = op_few op is.0 has in omega (arith, few)
short_enough (Do (op ∷ next ∷ ops)) is has = has.1
short_enough (Rekey k) is has = omega (arith, is)

-- what has an item has a spelling
pub has_spelling : (c : Change) → HasItem c → HasSpelling c
has_spelling (Undo n) has = has
has_spelling (Do []) has = has
has_spelling (Do (op ∷ [])) has = has
has_spelling (Do (op ∷ next ∷ ops)) has = has.0
has_spelling (Rekey k) has = has

-- what has a spelling that is too long has no item
pub too_long_for_one : (c : Change) → IsTooLong c → HasItem c → ⊥
too_long_for_one (Undo n) long has = long
too_long_for_one (Do []) long has = long
too_long_for_one (Do (op ∷ [])) long has = long
too_long_for_one (Do (op ∷ next ∷ ops)) long has = let few = has.1 in let more = long.1 in omega (arith, few, more)
too_long_for_one (Rekey k) long has = long

has_item : (c : Change) → HasSpelling c → length (item_bytes c) ≤ longest_item → HasItem c
has_item (Undo n) has few = has
has_item (Do []) has few = has
has_item (Do (op ∷ [])) has few = has
has_item (Do (op ∷ next ∷ ops)) has few = (has, few)
has_item (Rekey k) has few = has

marked : Makes marked_format (λ c. c) IsSpelled item_bytes
unfolding marked_format item_bytes
marked = behind_mark first_byte tagged

item : Makes item_format (λ c. c) (λ c. IsChange c × HasItem c) item_bytes
unfolding item_format
item =
    known_as (within_makes longest_item marked) (λ c is. (is.0.0, has_item c is.0.1 is.1))
    (λ c is. ((is.0, has_spelling c is.1), short_enough c is.0 is.1))

pub item_lawful : IsLawful item_format
item_lawful = item.lawful

pub item_of : IsFormatOf item_format (λ c. IsChange c × HasItem c) item_bytes
item_of = format_of item

-- an item has at most 70,000 bytes
pub item_size : (c : Change) (bytes : List ℕ) → bytes ≡ item_bytes c → IsChange c → HasItem c → (1 ≤ length bytes) × (length bytes ≤ 70000)
unfolding item_bytes
item_size c bytes spelled is has =
    let few = short_enough c is has in
    let long = ap length spelled in
    (omega (arith, long), omega (arith, few, long))

-- ---- what is read as an item

module _ (old now : Reading) (c : Change) (took : Took marked_format old c now) where
  -- the place never falls
  pub place_rises : old.place ≤ now.place
  place_rises =
      let s = (marked.spelled old.left c now.left took.spelled).3 in
      let long = ap length s ∙ length-append _ now.left in
      let place = took.place in
      omega (arith, long, place)

  -- the item isn't too long
  pub taken_within : now.place ≤ old.place + longest_item → Took item_format old c now
  unfolding item_format within
  taken_within short =
      let place = took.place in
      record { spelled = (took.spelled, omega (arith, place, short)); place = place }

  -- it is
  pub too_long : (e : Refusal) → e ≡ Malformed old.place → old.place + longest_item < now.place → Refuses item_format old e
  unfolding item_format within
  too_long e is long =
      let place = took.place in
      let more : longest_item + length now.left < length old.left = omega (arith, place, long) in
      inr (old.place, is, record { behind = old.left; fails = inr (refl, (c, now.left, took.spelled, more)); place_is = refl })

-- its parts aren't there
pub parts_refused : (old : Reading) (e : Refusal) → Refuses marked_format old e → Refuses item_format old e
unfolding item_format within
parts_refused old e (inl none) = inl none
parts_refused old e (inr (place, is, at)) =
    inr (place, is, record { behind = at.behind; fails = inl at.fails; place_is = at.place_is })

-- ---- what is decoded

pub found : (bytes : List ℕ) (c : Change) → Decodes item_format bytes (Ok c) → IsChange c × HasItem c × (bytes ≡ item_bytes c)
found bytes c read = let is = found_by item bytes c read in (is.0.0, is.0.1, is.1)

pub only : (bytes : List ℕ) (r : Result Change Refusal) → Decodes item_format bytes r → (c : Change) → IsChange c → HasItem c → bytes ≡ item_bytes c → (r ≡ Ok c) ⊎ (r ≡ Err NoMemory)
only bytes r read c is has spelled = only_by item bytes r read c (is, has) spelled
