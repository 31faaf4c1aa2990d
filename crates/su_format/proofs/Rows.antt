-- Parts in a row make a format: what its values are made of, and how these are spelled.
use Rattle.std.proofs.Common.{◌≡◌, ℕ, ◌<◌, ◌^◌, ◌⊎◌, true, List, [], ◌++◌, length, refl, sym, ◌∙◌, ap, subst, append_assoc, append-nil}
use Rattle.std.specs.Prelude.{Result, Ok, Err}
use Rattle.std.specs.List.{flat_map}
use Rattle.su_bytes.specs.Principal.{is_user}
use Rattle.su_bytes.specs.FileId.{is_inum, is_file_id, file_id_bytes}
use Rattle.su_bytes.specs.Name.{is_name}
use Rattle.su_bytes.specs.declared.refusals.Refusal.{Refusal}
use Rattle.su_bytes.specs.declared.refusals.Refusal.TheVariants.{NoMemory}
use Rattle.su_format.specs.Format.{Format, part, making, ◌>>=◌, repeated, IsLawful, EachFrom, IsFormatOf}
use Rattle.su_format.specs.Part.{u8_bytes, u32_bytes, u64_bytes, name_bytes, kind_bytes, AnyKind, u8_part, u32_part, u64_part, bytes_part, digest_part, mark_part, user_part, inum_part, file_id_part, name_part, kind_part}
use Rattle.su_format.specs.Reading.{Decodes}
use Rattle.su_format.proofs.Formats.{in_order, making_lawful}
use Rattle.su_format.proofs.Parts.{u8_lawful, u32_lawful, u64_lawful, bytes_lawful, mark_lawful, user_lawful, inum_lawful, file_id_lawful, name_lawful, kind_lawful}
use Rattle.su_format.proofs.Repeats.{part_of, repeated_of, repeated_lawful}
use Rattle.su_format.proofs.Wholes.{read_as_spelled}

-- The format makes each of its values of one of these, which has one spelling, which begins no
-- other's.
pub record Makes {A B : Type 0} (f : Format B) (make : A → B) (Is : A → Type 0) (spelling : A → List ℕ) : Type 0 where
  pub lawful : IsLawful f
  pub spelled : (bytes : List ℕ) (b : B) (rest : List ℕ)
      → f.Begins bytes b rest → (a : A) × (b ≡ make a) × Is a × (bytes ≡ spelling a ++ rest)
  pub begins : (bytes : List ℕ) (a : A) (rest : List ℕ)
      → Is a → bytes ≡ spelling a ++ rest → f.Begins bytes (make a) rest

-- the format of these values makes each of itself
pub of_format : {A : Type 0} {f : Format A} {Is : A → Type 0} {spelling : A → List ℕ} → IsLawful f → IsFormatOf f Is spelling → Makes f (λ a. a) Is spelling
of_format lawful of = record {
  lawful = lawful;
  spelled = λ bytes a rest b. let s = of.spelled bytes a rest b in (a, refl, s.0, s.1);
  begins = of.begins;
}

pub format_of : {A : Type 0} {f : Format A} {Is : A → Type 0} {spelling : A → List ℕ} → Makes f (λ a. a) Is spelling → IsFormatOf f Is spelling
format_of {Is} {spelling} of = record {
  spelled = λ bytes a rest b.
      let s = of.spelled bytes a rest b in
      subst (λ x. Is x × (bytes ≡ spelling x ++ rest)) (sym s.1) (s.2, s.3);
  begins = of.begins;
}

-- ---- what the values are made of, said otherwise

module _ {A C B : Type 0} {f : Format B} {make : A → B} {Is : A → Type 0} {spelling : A → List ℕ} {make' : C → B} {Is' : C → Type 0} {spelling' : C → List ℕ} where
  -- of another type, as a record in place of the pairs of its fields
  pub said_as : Makes f make Is spelling → (there : A → C) (back : C → A)
      → ((a : A) → Is a → Is' (there a) × (make' (there a) ≡ make a) × (spelling' (there a) ≡ spelling a))
      → ((c : C) → Is' c → Is (back c) × (make (back c) ≡ make' c) × (spelling (back c) ≡ spelling' c))
      → Makes f make' Is' spelling'
  said_as of there back forth again = record {
    lawful = of.lawful;
    spelled = λ bytes b rest x.
        let s = of.spelled bytes b rest x in
        let t = forth s.0 s.2 in
        (there s.0, s.1 ∙ sym t.1, t.0, s.3 ∙ ap (λ l. l ++ rest) (sym t.2));
    begins = λ bytes c rest is e.
        let t = again c is in
        subst (λ b. f.Begins bytes b rest) t.1 (of.begins bytes (back c) rest t.0 (e ∙ ap (λ l. l ++ rest) (sym t.2)));
  }

-- by another fact, which holds of the same
pub known_as : {A B : Type 0} {f : Format B} {make : A → B} {Is Is' : A → Type 0} {spelling : A → List ℕ} → Makes f make Is spelling → ((a : A) → Is a → Is' a) → ((a : A) → Is' a → Is a) → Makes f make Is' spelling
known_as of forth again = said_as of (λ a. a) (λ a. a) (λ a is. (forth a is, refl, refl)) (λ a is. (again a is, refl, refl))

-- ---- parts in a row

-- a last part, and the value that is made of it
pub last_of : {A B : Type 0} {f : Format A} {Is : A → Type 0} {spelling : A → List ℕ} → Makes f (λ a. a) Is spelling → (make : A → B) → Makes (f >>= (λ a. making (make a))) make Is spelling
unfolding ◌>>=◌ making
last_of {f} {Is} {spelling} of make = record {
  lawful = in_order f (λ a. making (make a)) of.lawful (λ a. making_lawful (make a));
  spelled = λ bytes b rest x.
      let s = of.spelled bytes x.0 x.1 x.2 in
      (s.0, x.3.0 ∙ ap make s.1, s.2, s.3 ∙ ap (λ l. spelling s.0 ++ l) (sym x.3.1));
  begins = λ bytes a rest is e. (a, rest, of.begins bytes a rest is e, (refl, refl));
}

-- a part, and a format behind it that may depend on its value
pub in_order_of : {A B C : Type 0} {f : Format A} {g : A → Format B} {IsA : A → Type 0} {of_a : A → List ℕ} {make : A → C → B} {IsC : A → C → Type 0} {of_c : A → C → List ℕ}
    → Makes f (λ a. a) IsA of_a → ((a : A) → Makes (g a) (make a) (IsC a) (of_c a))
    → Makes {A = A × C} (f >>= g) (λ p. make p.0 p.1) (λ p. IsA p.0 × IsC p.0 p.1) (λ p. of_a p.0 ++ of_c p.0 p.1)
unfolding ◌>>=◌
in_order_of {f} {g} {of_a} {of_c} first next = record {
  lawful = in_order f g first.lawful (λ a. (next a).lawful);
  spelled = λ bytes b rest x.
      let s = first.spelled bytes x.0 x.1 x.2 in
      let t = (next s.0).spelled x.1 b rest (subst (λ a. (g a).Begins x.1 b rest) s.1 x.3) in
      ((s.0, t.0), t.1, (s.2, t.2), s.3 ∙ ap (λ l. of_a s.0 ++ l) t.3 ∙ sym (append_assoc (of_a s.0) (of_c s.0 t.0) rest));
  begins = λ bytes p rest is e.
      let behind = of_c p.0 p.1 ++ rest in
      (p.0, behind, first.begins bytes p.0 behind is.0 (e ∙ append_assoc (of_a p.0) (of_c p.0 p.1) rest), (next p.0).begins behind p.1 rest is.1 refl);
}

-- a part that is told by what comes behind it, as the number of bytes is by these
pub told_by : {A B C : Type 0} {f : Format A} {g : A → Format B} {IsA : A → Type 0} {of_a : A → List ℕ} {make : C → B} {IsC : A → C → Type 0} {of_c : C → List ℕ} (tell : C → A)
    → Makes f (λ a. a) IsA of_a → ((a : A) → Makes (g a) make (IsC a) of_c) → ((a : A) (c : C) → IsC a c → tell c ≡ a)
    → Makes (f >>= g) make (λ c. IsA (tell c) × IsC (tell c) c) (λ c. of_a (tell c) ++ of_c c)
told_by {IsA} {of_a} {IsC} {of_c} tell first next tells =
    said_as (in_order_of first next) (λ p. p.1) (λ c. (tell c, c))
    (λ p is. let e = tells p.0 p.1 is.1 in (subst (λ a. IsA a × IsC a p.1) (sym e) is, refl, ap (λ a. of_a a ++ of_c p.1) e))
    (λ c is. (is, refl, refl))

-- a format behind fixed first bytes
pub behind_mark : {A B : Type 0} {g : Format B} {make : A → B} {Is : A → Type 0} {spelling : A → List ℕ} (mark : List ℕ) → Makes g make Is spelling → Makes (mark_part mark >>= (λ _. g)) make Is (λ a. mark ++ spelling a)
unfolding ◌>>=◌ part mark_part
behind_mark {g} {spelling} mark of = record {
  lawful = in_order (mark_part mark) (λ _. g) (mark_lawful mark) (λ _. of.lawful);
  spelled = λ bytes b rest x.
      let s = of.spelled x.1 b rest x.3 in
      (s.0, s.1, s.2, x.2.1 ∙ ap (λ l. l ++ x.1) x.2.0 ∙ ap (λ l. mark ++ l) s.3 ∙ sym (append_assoc mark (spelling s.0) rest));
  begins = λ bytes a rest is e.
      (mark, spelling a ++ rest, (refl, e ∙ append_assoc mark (spelling a) rest), of.begins (spelling a ++ rest) a rest is refl);
}

-- ---- values one after another

module _ {A : Type 0} {next : ℕ → Format A} {Is : ℕ → A → Type 0} {spelling : A → List ℕ} (leaves : A → ℕ) (each : (s : ℕ) → Makes (next s) (λ a. a) (Is s) spelling) where
  pub repeats : (n s : ℕ) → Makes (repeated next leaves n s) (λ vs. vs) (λ vs. (length vs ≡ n) × EachFrom Is leaves s vs) (flat_map spelling)
  repeats n s =
      of_format (repeated_lawful next leaves (λ s. (each s).lawful) n s) (repeated_of next leaves Is spelling (λ s. format_of (each s)) n s)

  -- and how many there are, before them
  pub counted : {f : Format ℕ} {IsCount : ℕ → Type 0} {of_count : ℕ → List ℕ} (s : ℕ) → Makes f (λ n. n) IsCount of_count
      → Makes (f >>= (λ n. repeated next leaves n s)) (λ vs. vs) (λ vs. IsCount (length vs) × EachFrom Is leaves s vs) (λ vs. of_count (length vs) ++ flat_map spelling vs)
  counted s count =
      known_as (told_by length count (λ n. repeats n s) (λ n vs is. is.0)) (λ vs is. (is.0, is.1.1)) (λ vs is. (is.0, (refl, is.1)))

-- ---- what is decoded

module _ {A : Type 0} {f : Format A} {Is : A → Type 0} {spelling : A → List ℕ} (of : Makes f (λ a. a) Is spelling) (bytes : List ℕ) where
  -- what is read is spelled so
  pub found_by : (a : A) → Decodes f bytes (Ok a) → Is a × (bytes ≡ spelling a)
  found_by a read = let s = (format_of of).spelled bytes a [] read in (s.0, s.1 ∙ append-nil (spelling a))

  -- what is spelled so is read
  pub only_by : (r : Result A Refusal) → Decodes f bytes r → (a : A) → Is a → bytes ≡ spelling a → (r ≡ Ok a) ⊎ (r ≡ Err NoMemory)
  only_by r read a is e = read_as_spelled f of.lawful bytes a r (of.begins bytes a [] is (e ∙ sym (append-nil (spelling a)))) read

-- ---- the parts

pub part_makes : {A : Type 0} {Is : A → Type 0} {spelling : A → List ℕ} → IsLawful (part Is spelling) → Makes (part Is spelling) (λ a. a) Is spelling
part_makes {Is} {spelling} lawful = of_format lawful (part_of Is spelling)

pub u8_of : Makes u8_part (λ n. n) (λ n. n < 256) u8_bytes
unfolding u8_part
u8_of = part_makes u8_lawful

pub u32_of : Makes u32_part (λ n. n) (λ n. n < 2 ^ 32) u32_bytes
unfolding u32_part
u32_of = part_makes u32_lawful

pub u64_of : Makes u64_part (λ n. n) (λ n. n < 2 ^ 64) u64_bytes
unfolding u64_part
u64_of = part_makes u64_lawful

pub bytes_of : (n : ℕ) → Makes (bytes_part n) (λ bytes. bytes) (λ bytes. length bytes ≡ n) (λ bytes. bytes)
unfolding bytes_part
bytes_of n = part_makes (bytes_lawful n)

pub digest_of : Makes digest_part (λ digest. digest) (λ digest. length digest ≡ 32) (λ digest. digest)
unfolding digest_part
digest_of = bytes_of 32

pub user_of : Makes user_part (λ u. u) (λ u. is_user u ≡ true) u8_bytes
unfolding user_part
user_of = part_makes user_lawful

pub inum_of : Makes inum_part (λ i. i) (λ i. is_inum i ≡ true) u32_bytes
unfolding inum_part
inum_of = part_makes inum_lawful

pub file_id_of : Makes file_id_part (λ f. f) (λ f. is_file_id f ≡ true) file_id_bytes
unfolding file_id_part
file_id_of = part_makes file_id_lawful

pub name_of : Makes name_part (λ name. name) (λ name. is_name name ≡ true) name_bytes
unfolding name_part
name_of = part_makes name_lawful

pub kind_of : Makes kind_part (λ k. k) AnyKind kind_bytes
unfolding kind_part
kind_of = part_makes kind_lawful
