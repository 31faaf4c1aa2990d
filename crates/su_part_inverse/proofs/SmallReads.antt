-- What comes of reading values that are spelled one part after another.
use Rattle.std.proofs.Common.{◌≡◌, ℕ, ◌+◌, ◌<◌, ◌^◌, true, List, [], ◌∷◌, ◌++◌, length, inl, inr, refl, sym, ◌∙◌, ap, append_assoc, append-nil, length-append, arith}
use Rattle.std.specs.Prelude.{Result, Ok, Err, IfOk, IfErr, IsErrAnd}
use Rattle.std.specs.List.{AllByRecursion, flat_map}
use Rattle.su_bytes.specs.Principal.{is_user}
use Rattle.su_bytes.specs.FileId.{is_inum, is_file_id, file_id_bytes}
use Rattle.su_bytes.specs.Place.{Place, GroupFile}
use Rattle.su_bytes.specs.declared.file_ids.FileId.{FileId}
use Rattle.su_bytes.specs.declared.refusals.Refusal.{Refusal}
use Rattle.su_bytes.specs.declared.refusals.Refusal.TheVariants.{NoMemory}
use Rattle.su_op.specs.declared.areas.Part.TheVariants.{Name as NamePart}
use Rattle.su_op.specs.declared.areas.Area.{Area}
use Rattle.su_op.specs.declared.areas.Area.TheVariants.{Inode as InodeArea, Pointer as PointerArea}
use Rattle.su_format.specs.Format.{Format}
use Rattle.su_format.specs.Part.{u8_bytes, u32_bytes}
use Rattle.su_format.specs.Reading.{Reading, Takes}
use Rattle.su_format.proofs.Public.{Makes, handed_on_to}
use Rattle.su_kept_areas.specs.Spelling.{IsArea, BeginsWith, area_bytes, place_bytes}
use Rattle.su_inverse.specs.declared.contents.KeptSize.{KeptSize}
use Rattle.su_inverse.specs.declared.resets.Reset.{Reset}
use Rattle.su_inverse.specs.declared.resets.Reset.TheVariants.{Nothing as NothingReset, Links as LinksReset}
use Rattle.su_part_inverse.specs.Kept.{return_area}
use Rattle.su_part_inverse.specs.Small.{AreMany, BeginWith, IsPlace, IsReset, IsReturn, IsSize, Reads, led_bytes, reset_bytes, return_bytes, size_bytes}
use Rattle.su_part_inverse.specs.declared.returns.Return.{Return}
use Rattle.su_part_inverse.specs.declared.returns.Return.TheVariants.{Name as NameReturn, Pointer as PointerReturn}

-- ---- one part

module _ {A : Type 0} {Is : A → Type 0} {spelling : A → List ℕ} {f : Format A} (of : Makes f (λ a. a) Is spelling) where
  pub reads_part : (old new : Reading) (r : Result A Refusal) → Takes f old r new → Reads Is spelling old.left r new.left
  reads_part old new (Ok b) took = record {
    value = λ a rest at. of.lawful.told old.left b a new.left rest took.spelled (of.begins old.left a rest at.is at.spelled);
    refused = λ a rest at. tt;
  }
  reads_part old new (Err e) (inl none) = record { value = λ a rest at. tt; refused = λ a rest at. none }
  reads_part old new (Err e) (inr (place, is, x)) = record {
    value = λ a rest at. tt;
    refused = λ a rest at. absurd (of.lawful.apart old.left a rest x.behind (of.begins old.left a rest at.is at.spelled) x.fails);
  }

-- an area
pub reads_area : (bytes left : List ℕ) (r : Result Area Refusal) → ((a : Area) (rest : List ℕ) → BeginsWith bytes a rest → IfOk r (λ area. (area ≡ a) × (left ≡ rest)))
    → ((a : Area) (rest : List ℕ) → BeginsWith bytes a rest → IfErr r (λ e. e ≡ NoMemory)) → Reads IsArea area_bytes bytes r left
reads_area bytes left r value refused = record {
  value = λ a rest at. value a rest (record { is = at.is; spelled = at.spelled });
  refused = λ a rest at. refused a rest (record { is = at.is; spelled = at.spelled });
}

-- ---- a first part, and what comes behind it

-- the spelling of a value begins with that of a part of it
pub record Begun {A B : Type 0} (Is : A → Type 0) (spelling : A → List ℕ) (IsFirst : B → Type 0) (of_first : B → List ℕ) (first : A → B) (more : A → List ℕ) : Type 0 where
  pub is : (a : A) → Is a → IsFirst (first a)
  pub spelled : (a : A) → spelling a ≡ of_first (first a) ++ more a

-- where that part is b, a last one makes the value
pub record Ends {A B C : Type 0} (Is : A → Type 0) (first : A → B) (more : A → List ℕ) (b : B) (IsLast : C → Type 0) (of_last : C → List ℕ) (make : C → A) : Type 0 where
  pub on : (a : A) → Is a → first a ≡ b → (c : C) × IsLast c × (more a ≡ of_last c) × (make c ≡ a)

module _ {A B : Type 0} {Is : A → Type 0} {spelling : A → List ℕ} {IsFirst : B → Type 0} {of_first : B → List ℕ} {first : A → B} {more : A → List ℕ} (begun : Begun Is spelling IsFirst of_first first more)
    (bytes mid : List ℕ) where
  first_at : (a : A) (rest : List ℕ) → BeginWith Is spelling bytes a rest → BeginWith IsFirst of_first bytes (first a) (more a ++ rest)
  first_at a rest at = record {
    is = begun.is a at.is;
    spelled = at.spelled ∙ ap (λ l. l ++ rest) (begun.spelled a) ∙ append_assoc (of_first (first a)) (more a) rest;
  }

  -- the first part is refused
  pub first_err : (e : Refusal) → Reads IsFirst of_first bytes (Err e) mid → (left : List ℕ) → Reads Is spelling bytes (Err e) left
  first_err e was left = record { value = λ a rest at. tt; refused = λ a rest at. was.refused (first a) (more a ++ rest) (first_at a rest at) }

  pub first_refused : (e : Refusal) → Reads IsFirst of_first bytes (Err e) mid → (r : Result A Refusal) (left : List ℕ) → IsErrAnd r (λ x. x ≡ e) → Reads Is spelling bytes r left
  first_refused e was r left is = handed_on_to (λ x. Reads Is spelling bytes x left) r e is (first_err e was left)

  module _ (b : B) (was : Reads IsFirst of_first bytes (Ok b) mid) where
    first_is : (a : A) (rest : List ℕ) → BeginWith Is spelling bytes a rest → (b ≡ first a) × (mid ≡ more a ++ rest)
    first_is a rest at = was.value (first a) (more a ++ rest) (first_at a rest at)

    -- none of the values has that first part
    pub none_so : ((a : A) → first a ≡ b → ⊥) → (r : Result A Refusal) (left : List ℕ) → Reads Is spelling bytes r left
    none_so never r left = record {
      value = λ a rest at. absurd (never a (sym (first_is a rest at).0));
      refused = λ a rest at. absurd (never a (sym (first_is a rest at).0));
    }

    module _ {C : Type 0} {IsLast : C → Type 0} {of_last : C → List ℕ} {make : C → A} (ends : Ends Is first more b IsLast of_last make) where
      -- the last part is refused
      pub last_err : (e : Refusal) (at_last : List ℕ) → Reads IsLast of_last mid (Err e) at_last → (left : List ℕ) → Reads Is spelling bytes (Err e) left
      last_err e at_last then_ left = record { value = λ a rest at. tt; refused = lacks }
        where
          lacks : (a : A) (rest : List ℕ) → BeginWith Is spelling bytes a rest → e ≡ NoMemory
          lacks a rest at =
              let f = first_is a rest at in
              let l = ends.on a at.is (sym f.0) in
              then_.refused l.0 rest (record { is = l.1; spelled = f.1 ∙ ap (λ x. x ++ rest) l.2 })

      pub last_refused : (e : Refusal) (at_last : List ℕ) → Reads IsLast of_last mid (Err e) at_last → (r : Result A Refusal) (left : List ℕ) → IsErrAnd r (λ x. x ≡ e) → Reads Is spelling bytes r left
      last_refused e at_last then_ r left is = handed_on_to (λ x. Reads Is spelling bytes x left) r e is (last_err e at_last then_ left)

      -- it is read
      pub last_read : (c : C) (left : List ℕ) → Reads IsLast of_last mid (Ok c) left → Reads Is spelling bytes (Ok (make c)) left
      last_read c left then_ = record { value = gives; refused = λ a rest at. tt }
        where
          gives : (a : A) (rest : List ℕ) → BeginWith Is spelling bytes a rest → (make c ≡ a) × (left ≡ rest)
          gives a rest at =
              let f = first_is a rest at in
              let l = ends.on a at.is (sym f.0) in
              let t = then_.value l.0 rest (record { is = l.1; spelled = f.1 ∙ ap (λ x. x ++ rest) l.2 }) in
              (ap make t.0 ∙ l.3, t.1)

-- ---- places, names, pointers, sizes

pub place_begun : Begun IsPlace place_bytes (λ u. is_user u ≡ true) u8_bytes (λ p. p.0) (λ p. u32_bytes p.1)
place_begun = record { is = λ p is. is.0; spelled = λ p. refl }

pub place_ends : (u : ℕ) → Ends IsPlace (λ p. p.0) (λ p. u32_bytes p.1) u (λ i. is_inum i ≡ true) u32_bytes (λ i. (u, i))
place_ends u = record { on = λ p is same. (p.1, is.1, refl, ap (λ v. (v, p.1)) (sym same)) }

pub return_begun : Begun IsReturn return_bytes IsArea area_bytes return_area led_bytes
return_begun = record { is = λ r is. is.0; spelled = λ r. refl }

pub name_ends : (p : Place) (x : List ℕ) → Ends IsReturn return_area led_bytes (InodeArea p (NamePart x)) (λ f. is_file_id f ≡ true) file_id_bytes (λ f. NameReturn p x f)
name_ends p x = record { on = go }
  where
    go : (a : Return) → IsReturn a → return_area a ≡ InodeArea p (NamePart x) → (f : FileId) × (is_file_id f ≡ true) × (led_bytes a ≡ file_id_bytes f) × (NameReturn p x f ≡ a)
    go (NameReturn q y f) is same = (f, is.1, refl, cc)
    go (PointerReturn g q) is same = absurd cc

pub pointer_ends : (g : GroupFile) → Ends IsReturn return_area led_bytes (PointerArea g) IsPlace place_bytes (λ p. PointerReturn g p)
pointer_ends g = record { on = go }
  where
    go : (a : Return) → IsReturn a → return_area a ≡ PointerArea g → (p : Place) × IsPlace p × (led_bytes a ≡ place_bytes p) × (PointerReturn g p ≡ a)
    go (NameReturn q y f) is same = absurd cc
    go (PointerReturn h p) is same = (p, is.1, refl, cc)

pub size_begun : Begun IsSize size_bytes IsPlace place_bytes (λ k. k.place) (λ k. u32_bytes k.size)
size_begun = record { is = λ k is. is.0; spelled = λ k. refl }

pub size_ends : (p : Place) → Ends IsSize (λ k. k.place) (λ k. u32_bytes k.size) p (λ n. n < 2 ^ 32) u32_bytes (λ n. record { place = p; size = n })
size_ends p = record { on = go }
  where
    go : (a : KeptSize) → IsSize a → a.place ≡ p → (n : ℕ) × (n < 2 ^ 32) × (u32_bytes a.size ≡ u32_bytes n) × (record { place = p; size = n } ≡ a)
    go a is same = (a.size, is.1, refl, ap (λ q. record { place = q; size = a.size }) (sym same))

-- ---- what is reset

-- which of the two
abbrev pub reset_kind : Reset → ℕ
reset_kind (NothingReset a) = 0
reset_kind (LinksReset p n) = 1

abbrev pub links_bytes : Place × ℕ → List ℕ
links_bytes l = place_bytes l.0 ++ u8_bytes l.1

abbrev pub IsLinks : Place × ℕ → Type 0
IsLinks l = IsPlace l.0 × (l.1 < 256)

-- what it has besides
abbrev pub reset_more : Reset → List ℕ
reset_more (NothingReset a) = area_bytes a
reset_more (LinksReset p n) = links_bytes (p, n)

pub reset_begun : Begun IsReset reset_bytes (λ n. n < 256) u8_bytes reset_kind reset_more
reset_begun = record { is = go; spelled = spell }
  where
    go : (a : Reset) → IsReset a → reset_kind a < 256
    go (NothingReset a) is = omega arith
    go (LinksReset p n) is = omega arith

    spell : (a : Reset) → reset_bytes a ≡ u8_bytes (reset_kind a) ++ reset_more a
    spell (NothingReset a) = refl
    spell (LinksReset p n) = refl

pub nothing_ends : Ends IsReset reset_kind reset_more 0 IsArea area_bytes NothingReset
nothing_ends = record { on = go }
  where
    go : (a : Reset) → IsReset a → reset_kind a ≡ 0 → (c : Area) × IsArea c × (reset_more a ≡ area_bytes c) × (NothingReset c ≡ a)
    go (NothingReset a) is same = (a, is, refl, refl)
    go (LinksReset p n) is same = absurd (omega arith)

pub links_end : Ends IsReset reset_kind reset_more 1 IsLinks links_bytes (λ l. LinksReset l.0 l.1)
links_end = record { on = go }
  where
    go : (a : Reset) → IsReset a → reset_kind a ≡ 1 → (l : Place × ℕ) × IsLinks l × (reset_more a ≡ links_bytes l) × (LinksReset l.0 l.1 ≡ a)
    go (NothingReset a) is same = absurd (omega arith)
    go (LinksReset p n) is same = ((p, n), is, refl, refl)

pub no_reset : (n : ℕ) → (n ≡ 0 → ⊥) → (n ≡ 1 → ⊥) → (a : Reset) → reset_kind a ≡ n → ⊥
no_reset n zero one (NothingReset a) same = zero (sym same)
no_reset n zero one (LinksReset p m) same = one (sym same)

pub links_begun : Begun IsLinks links_bytes IsPlace place_bytes (λ l. l.0) (λ l. u8_bytes l.1)
links_begun = record { is = λ l is. is.0; spelled = λ l. refl }

pub links_last : (p : Place) → Ends IsLinks (λ l. l.0) (λ l. u8_bytes l.1) p (λ n. n < 256) u8_bytes (λ n. (p, n))
links_last p = record { on = λ l is same. (l.1, is.1, refl, ap (λ q. (q, l.1)) (sym same)) }

-- ---- many values, one after another

-- of the values that are spelled in the bytes these were taken, and others are left
pub record AreTaken {A : Type 0} (Is : A → Type 0) (spelling : A → List ℕ) (count : ℕ) (bytes : List ℕ) (taken : List A) (left : List ℕ) : Type 0 where
  pub on : (ks : List A) (rest : List ℕ) → BeginWith (AreMany Is count) (flat_map spelling) bytes ks rest → (v : List A) × AllByRecursion Is v × (ks ≡ taken ++ v) × (left ≡ flat_map spelling v ++ rest)

module _ {A : Type 0} (Is : A → Type 0) (spelling : A → List ℕ) (count : ℕ) where
  -- fewer than all were taken, so one is left
  one_left : (taken : List A) (left : List ℕ) → length taken < count → (ks : List A) (rest : List ℕ) → length ks ≡ count
      → (v : List A) → AllByRecursion Is v → ks ≡ taken ++ v → left ≡ flat_map spelling v ++ rest
      → (k : A) × (u : List A) × BeginWith Is spelling left k (flat_map spelling u ++ rest) × AllByRecursion Is u × (ks ≡ taken ++ (k ∷ u))
  one_left taken left few ks rest many [] are all is =
      let long : length ks ≡ length taken + 0 = ap length all ∙ length-append taken [] in
      absurd (omega arith)
  one_left taken left few ks rest many (k ∷ u) are all is =
      (k, u, record { is = are.0; spelled = is ∙ append_assoc (spelling k) (flat_map spelling u) rest }, are.1, all)

  all_left : (taken : List A) (left : List ℕ) → length taken ≡ count → (ks : List A) (rest : List ℕ) → length ks ≡ count
      → (v : List A) → ks ≡ taken ++ v → left ≡ flat_map spelling v ++ rest → (taken ≡ ks) × (left ≡ rest)
  all_left taken left full ks rest many [] all is = (sym (all ∙ append-nil taken), is)
  all_left taken left full ks rest many (k ∷ u) all is =
      let long : length ks ≡ length taken + length (k ∷ u) = ap length all ∙ length-append taken (k ∷ u) in
      absurd (omega arith)

module _ {A : Type 0} {Is : A → Type 0} {spelling : A → List ℕ} {count : ℕ} {bytes : List ℕ} where
  pub none_taken : AreTaken Is spelling count bytes [] bytes
  none_taken = record { on = λ ks rest at. (ks, at.is.are, refl, at.spelled) }

  pub one_refused : (taken : List A) (left mid : List ℕ) (e : Refusal) → AreTaken Is spelling count bytes taken left → length taken < count → Reads Is spelling left (Err e) mid
      → (ks : List A) (rest : List ℕ) → BeginWith (AreMany Is count) (flat_map spelling) bytes ks rest → e ≡ NoMemory
  one_refused taken left mid e so few was ks rest at =
      let s = so.on ks rest at in
      let o = one_left Is spelling count taken left few ks rest at.is.number s.0 s.1 s.2 s.3 in
      was.refused o.0 (flat_map spelling o.1 ++ rest) o.2

  pub one_taken : (taken : List A) (left mid : List ℕ) (k : A) → AreTaken Is spelling count bytes taken left → length taken < count → Reads Is spelling left (Ok k) mid → AreTaken Is spelling count bytes (taken ++ k ∷ []) mid
  one_taken taken left mid k so few was = record {
    on = λ ks rest at.
        let s = so.on ks rest at in
        let o = one_left Is spelling count taken left few ks rest at.is.number s.0 s.1 s.2 s.3 in
        let t = was.value o.0 (flat_map spelling o.1 ++ rest) o.2 in
        (o.1, o.3, o.4 ∙ ap (λ x. taken ++ (x ∷ o.1)) (sym t.0) ∙ sym (append_assoc taken (k ∷ []) o.1), t.1);
  }

  pub all_taken : (taken : List A) (left : List ℕ) → AreTaken Is spelling count bytes taken left → length taken ≡ count
      → (ks : List A) (rest : List ℕ) → BeginWith (AreMany Is count) (flat_map spelling) bytes ks rest → (taken ≡ ks) × (left ≡ rest)
  all_taken taken left so full ks rest at =
      let s = so.on ks rest at in
      all_left Is spelling count taken left full ks rest at.is.number s.0 s.2 s.3
