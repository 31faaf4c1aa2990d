-- What is read of a page is what was spelled.
use Rattle.std.proofs.Common.{◌≡◌, ℕ, suc, ◌<◌, ◌^◌, ◌*◌, inl, inr, cond, length-append, List, [], ◌∷◌, ◌++◌, length, Option, Some, None, refl, ap, ◌∙◌, arith, append_assoc, lit<}
use Rattle.std.specs.Prelude.{IfSome, Result, Ok, Err}
use Rattle.std.specs.List.{flat_map, AllByRecursion}
use Rattle.std.specs.Str.{bytes_eq}
use Rattle.su_bytes.specs.declared.refusals.Refusal.{Refusal}
use Rattle.su_bytes.specs.declared.refusals.Refusal.TheVariants.{Malformed}
use Rattle.su_format.specs.Format.{Format, part, IsLawful}
use Rattle.su_format.specs.Part.{u8_bytes, u32_bytes, u64_bytes, u8_part, u32_part, u64_part, bytes_part, digest_part}
use Rattle.su_format.specs.Reading.{Reading, Took, Takes}
use Rattle.su_format.proofs.Public.{u8_lawful, u32_lawful, u64_lawful, digest_lawful}
use Rattle.su_scratch.specs.declared.notes.Place.{Place}
use Rattle.su_scratch.specs.declared.notes.Note.{Note}
use Rattle.su_scratch.specs.Page.{note_bytes, older_bytes, later, IsNote}
use Rattle.su_scratch.specs.Page.{page_bytes, IsPage}
use Rattle.su_scratch.specs.declared.pages.TheConstants.{PAGE_LENGTH}

-- what begins the bytes isn't refused
refused_not : {A : Type 0} (f : Format A) → IsLawful f → (old new : Reading) (e : Refusal) → Takes f old (Err e) new → e ≡ Malformed old.place → (a : A) (rest : List ℕ) → f.Begins old.left a rest → ⊥
refused_not f lawful old new e (inl none) is a rest begins = cc
refused_not f lawful old new e (inr (place, _, at)) is a rest begins = lawful.apart old.left a rest at.behind begins at.fails

pub no_u8 : (old new : Reading) (e : Refusal) → Takes u8_part old (Err e) new → e ≡ Malformed old.place → (k : ℕ) (rest : List ℕ) → k < 256 → old.left ≡ u8_bytes k ++ rest → ⊥
unfolding u8_part part
no_u8 old new e takes is k rest fits spelled = refused_not u8_part u8_lawful old new e takes is k rest (fits, spelled)

pub no_u64 : (old new : Reading) (e : Refusal) → Takes u64_part old (Err e) new → e ≡ Malformed old.place → (k : ℕ) (rest : List ℕ) → k < 2 ^ 64 → old.left ≡ u64_bytes k ++ rest → ⊥
unfolding u64_part part
no_u64 old new e takes is k rest fits spelled = refused_not u64_part u64_lawful old new e takes is k rest (fits, spelled)

pub no_u32 : (old new : Reading) (e : Refusal) → Takes u32_part old (Err e) new → e ≡ Malformed old.place → (k : ℕ) (rest : List ℕ) → k < 2 ^ 32 → old.left ≡ u32_bytes k ++ rest → ⊥
unfolding u32_part part
no_u32 old new e takes is k rest fits spelled = refused_not u32_part u32_lawful old new e takes is k rest (fits, spelled)

pub no_digest : (old new : Reading) (e : Refusal) → Takes digest_part old (Err e) new → e ≡ Malformed old.place → (d rest : List ℕ) → length d ≡ 32 → old.left ≡ d ++ rest → ⊥
unfolding digest_part bytes_part part
no_digest old new e takes is d rest long spelled = refused_not digest_part digest_lawful old new e takes is d rest (long, spelled)

u8_told_as : (old new : Reading) (k m : ℕ) (rest : List ℕ) → Took u8_part old k new → m < 256 → old.left ≡ u8_bytes m ++ rest → (k ≡ m) × (new.left ≡ rest)
unfolding u8_part part
u8_told_as old new k m rest took fits spelled = u8_lawful.told old.left k m new.left rest took.spelled (fits, spelled)

u64_told_as : (old new : Reading) (k m : ℕ) (rest : List ℕ) → Took u64_part old k new → m < 2 ^ 64 → old.left ≡ u64_bytes m ++ rest → (k ≡ m) × (new.left ≡ rest)
unfolding u64_part part
u64_told_as old new k m rest took fits spelled = u64_lawful.told old.left k m new.left rest took.spelled (fits, spelled)

u32_told_as : (old new : Reading) (k m : ℕ) (rest : List ℕ) → Took u32_part old k new → m < 2 ^ 32 → old.left ≡ u32_bytes m ++ rest → (k ≡ m) × (new.left ≡ rest)
unfolding u32_part part
u32_told_as old new k m rest took fits spelled = u32_lawful.told old.left k m new.left rest took.spelled (fits, spelled)

digest_told_as : (old new : Reading) (d m rest : List ℕ) → Took digest_part old d new → length m ≡ 32 → old.left ≡ m ++ rest → (d ≡ m) × (new.left ≡ rest)
unfolding digest_part bytes_part part
digest_told_as old new d m rest took long spelled = digest_lawful.told old.left d m new.left rest took.spelled (long, spelled)

-- ---- a note, part by part

pub note_parts : (n : Note) (left rest : List ℕ) → left ≡ note_bytes n ++ rest → left ≡ n.digest ++ (u64_bytes n.place.first ++ (u32_bytes n.place.count ++ rest))
note_parts n left rest e = e ∙ append_assoc (n.digest ++ u64_bytes n.place.first) (u32_bytes n.place.count) rest ∙ append_assoc n.digest (u64_bytes n.place.first) (u32_bytes n.place.count ++ rest)

pub digest_told : (old new : Reading) (d : List ℕ) → Took digest_part old d new → (n : Note) (rest : List ℕ) → IsNote n → old.left ≡ note_bytes n ++ rest → (d ≡ n.digest) × (new.left ≡ u64_bytes n.place.first ++ (u32_bytes n.place.count ++ rest))
digest_told old new d took n rest is e = digest_told_as old new d n.digest (u64_bytes n.place.first ++ (u32_bytes n.place.count ++ rest)) took is.digest (note_parts n old.left rest e)

pub first_told : (old m1 new : Reading) (d : List ℕ) (first : ℕ) → Took digest_part old d m1 → Took u64_part m1 first new → (n : Note) (rest : List ℕ) → IsNote n → old.left ≡ note_bytes n ++ rest → (first ≡ n.place.first) × (new.left ≡ u32_bytes n.place.count ++ rest)
first_told old m1 new d first t1 t2 n rest is e = u64_told_as m1 new first n.place.first (u32_bytes n.place.count ++ rest) t2 is.first (digest_told old m1 d t1 n rest is e).1

pub note_told : (old m1 m2 new : Reading) (d : List ℕ) (first count : ℕ) → Took digest_part old d m1 → Took u64_part m1 first m2 → Took u32_part m2 count new → (n : Note) (rest : List ℕ) → IsNote n → old.left ≡ note_bytes n ++ rest → (record { digest = d; place = record { first = first; count = count } } ≡ n) × (new.left ≡ rest)
note_told old m1 m2 new d first count t1 t2 t3 n rest is e =
    let r1 = digest_told old m1 d t1 n rest is e in
    let r2 = first_told old m1 m2 d first t1 t2 n rest is e in
    let r3 = u32_told_as m2 new count n.place.count rest t3 is.count r2.1 in
    (λ i. record { digest = r1.0 i; place = record { first = r2.0 i; count = r3.0 i } }, r3.1)

-- ---- where the page before it lies

pub record OlderTold (flag place : ℕ) (older : Option ℕ) (left rest : List ℕ) : Type 0 where
  pub none : flag ≡ 0 → None ≡ older
  pub some : flag ≡ 1 → Some place ≡ older
  pub one : (flag ≡ 0 → ⊥) → (flag ≡ 1 → ⊥) → ⊥
  pub left_is : left ≡ rest

pub flag_parts : (f p : ℕ) (left rest : List ℕ) → left ≡ (u8_bytes f ++ u64_bytes p) ++ rest → left ≡ u8_bytes f ++ (u64_bytes p ++ rest)
flag_parts f p left rest e = e ∙ append_assoc (u8_bytes f) (u64_bytes p) rest

spelled : (old middle new : Reading) (flag place f p : ℕ) (rest : List ℕ) → Took u8_part old flag middle → Took u64_part middle place new → f < 256 → p < 2 ^ 64 → old.left ≡ (u8_bytes f ++ u64_bytes p) ++ rest → (flag ≡ f) × (place ≡ p) × (new.left ≡ rest)
spelled old middle new flag place f p rest t1 t2 fits place_fits e =
    let r1 = u8_told_as old middle flag f (u64_bytes p ++ rest) t1 fits (flag_parts f p old.left rest e) in
    let r2 = u64_told_as middle new place p rest t2 place_fits r1.1 in
    (r1.0, r2.0, r2.1)

pub older_told : (old middle new : Reading) (flag place : ℕ) → Took u8_part old flag middle → Took u64_part middle place new → (older : Option ℕ) (rest : List ℕ) → IfSome older (λ p. p < 2 ^ 64) → old.left ≡ older_bytes older ++ rest → OlderTold flag place older new.left rest
older_told old middle new flag place t1 t2 None rest fits e =
    let r = spelled old middle new flag place 0 0 rest t1 t2 (lit< tt) (lit< tt) e in
    record { none = λ _. refl; some = λ is. absurd (omega (arith, is, r.0)); one = λ a b. a r.0; left_is = r.2 }
older_told old middle new flag place t1 t2 (Some p) rest fits e =
    let r = spelled old middle new flag place 1 p rest t1 t2 (lit< tt) fits e in
    record { none = λ is. absurd (omega (arith, is, r.0)); some = λ _. ap Some r.1; one = λ a b. b r.0; left_is = r.2 }

-- the bytes of a page that are refused at the first parts begin no page
pub no_flag : (old new : Reading) (e : Refusal) → Takes u8_part old (Err e) new → e ≡ Malformed old.place → (older : Option ℕ) (rest : List ℕ) → old.left ≡ older_bytes older ++ rest → ⊥
no_flag old new e takes is None rest s = no_u8 old new e takes is 0 (u64_bytes 0 ++ rest) (lit< tt) (flag_parts 0 0 old.left rest s)
no_flag old new e takes is (Some p) rest s = no_u8 old new e takes is 1 (u64_bytes p ++ rest) (lit< tt) (flag_parts 1 p old.left rest s)

pub no_place : (old middle new : Reading) (flag : ℕ) (e : Refusal) → Took u8_part old flag middle → Takes u64_part middle (Err e) new → e ≡ Malformed middle.place → (older : Option ℕ) (rest : List ℕ) → IfSome older (λ p. p < 2 ^ 64) → old.left ≡ older_bytes older ++ rest → ⊥
no_place old middle new flag e t1 takes is None rest fits s = no_u64 middle new e takes is 0 rest (lit< tt) (u8_told_as old middle flag 0 (u64_bytes 0 ++ rest) t1 (lit< tt) (flag_parts 0 0 old.left rest s)).1
no_place old middle new flag e t1 takes is (Some p) rest fits s = no_u64 middle new e takes is p rest fits (u8_told_as old middle flag 1 (u64_bytes p ++ rest) t1 (lit< tt) (flag_parts 1 p old.left rest s)).1

-- ---- the notes

-- so many notes are left, and tell with what was found what all of them do
pub record AreLeft (d : List ℕ) (left : List ℕ) (found : Option Place) (count : ℕ) (all : Option Place) : Type 0 where
  pub rest : List Note
  pub each : AllByRecursion IsNote rest
  pub many : length rest ≡ count
  pub left_is : left ≡ flat_map note_bytes rest
  pub tells : later d found rest ≡ all

record IsNext (d : List ℕ) (found : Option Place) (n : Note) (behind : List ℕ) (count : ℕ) (all : Option Place) : Type 0 where
  rest : List Note
  each : AllByRecursion IsNote rest
  many : length rest ≡ count
  left_is : behind ≡ flat_map note_bytes rest
  tells : later d found (n ∷ rest) ≡ all

next_of : (d left : List ℕ) (found : Option Place) (count : ℕ) (all : Option Place) (n : Note) (behind : List ℕ) (rest : List Note) → AllByRecursion IsNote rest → length rest ≡ suc count → left ≡ flat_map note_bytes rest → later d found rest ≡ all → ((m : Note) (more : List ℕ) → IsNote m → left ≡ note_bytes m ++ more → (n ≡ m) × (behind ≡ more)) → IsNext d found n behind count all
next_of d left found count all n behind [] each many left_is tells next = let no : ⊥ = omega arith in absurd no
next_of d left found count all n behind (m ∷ rest) each many left_is tells next =
    let r = next m (flat_map note_bytes rest) each.0 left_is in
    record {
      rest = rest;
      each = each.1;
      many = omega arith;
      left_is = r.1;
      tells = ap (λ x. later d found (x ∷ rest)) r.0 ∙ tells;
    }

pub left_next : (d left : List ℕ) (found told : Option Place) (now count : ℕ) (all : Option Place) (n : Note) (behind : List ℕ) → AreLeft d left found now all → now ≡ suc count → ((m : Note) (more : List ℕ) → IsNote m → left ≡ note_bytes m ++ more → (n ≡ m) × (behind ≡ more)) → told ≡ cond (bytes_eq d n.digest) (Some n.place) found → AreLeft d behind told count all
left_next d left found told now count all n behind l more next is =
    let x = next_of d left found count all n behind l.rest l.each (l.many ∙ more) l.left_is l.tells next in
    record { rest = x.rest; each = x.each; many = x.many; left_is = x.left_is; tells = ap (λ o. later d o x.rest) is ∙ x.tells }

head_there : (d left : List ℕ) (count : ℕ) (rest : List Note) → AllByRecursion IsNote rest → length rest ≡ suc count → left ≡ flat_map note_bytes rest → ((m : Note) (more : List ℕ) → IsNote m → left ≡ note_bytes m ++ more → ⊥) → ⊥
head_there d left count [] each many left_is none = omega arith
head_there d left count (m ∷ rest) each many left_is none = none m (flat_map note_bytes rest) each.0 left_is

-- where a note is left one is there
pub left_there : (d left : List ℕ) (found : Option Place) (now count : ℕ) (all : Option Place) → AreLeft d left found now all → now ≡ suc count → ((m : Note) (more : List ℕ) → IsNote m → left ≡ note_bytes m ++ more → ⊥) → ⊥
left_there d left found now count all l more none = head_there d left count l.rest l.each (l.many ∙ more) l.left_is none

told_by_none : (d : List ℕ) (found : Option Place) (rest : List Note) (all : Option Place) → length rest ≡ 0 → later d found rest ≡ all → found ≡ all
told_by_none d found [] all none tells = tells
told_by_none d found (n ∷ rest) all none tells = let no : ⊥ = omega arith in absurd no

pub left_none : (d left : List ℕ) (found : Option Place) (count : ℕ) (all : Option Place) → AreLeft d left found count all → count ≡ 0 → found ≡ all
left_none d left found count all l none = told_by_none d found l.rest all (l.many ∙ none) l.tells

pub ok_is : {A E : Type 0} (x y : A) → ◌≡◌ {A = Result A E} (Ok x) (Ok y) → x ≡ y
ok_is x y e = cc

pub err_is_not : {A E : Type 0} (e : E) (y : A) → ◌≡◌ {A = Result A E} (Err e) (Ok y) → ⊥
err_is_not e y is = cc

-- ---- how long a page is

length-note : (n : Note) → IsNote n → length (note_bytes n) ≡ 44
length-note n is =
    let all = length-append (n.digest ++ u64_bytes n.place.first) (u32_bytes n.place.count) in
    let front = length-append n.digest (u64_bytes n.place.first) in
    let eight : length (u64_bytes n.place.first) ≡ 8 = refl in
    let four : length (u32_bytes n.place.count) ≡ 4 = refl in
    omega (arith, all, front, eight, four, is.digest)

length-notes : (ns : List Note) → AllByRecursion IsNote ns → length (flat_map note_bytes ns) ≡ 44 * length ns
length-notes [] each = refl
length-notes (n ∷ ns) each =
    let all = length-append (note_bytes n) (flat_map note_bytes ns) in
    let one = length-note n each.0 in
    let more = length-notes ns each.1 in
    omega (arith, all, one, more)

length-older : (older : Option ℕ) → length (older_bytes older) ≡ 9
length-older None = refl
length-older (Some place) = refl

pub length-page : (older : Option ℕ) (ns : List Note) → IsPage older ns → length (page_bytes older ns) ≡ PAGE_LENGTH
length-page older ns is =
    let all = length-append (older_bytes older) (flat_map note_bytes ns) in
    let nine = length-older older in
    let notes = length-notes ns is.each in
    omega (arith, all, nine, notes, is.full)
