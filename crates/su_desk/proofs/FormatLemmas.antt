-- Formats of entries.
use Rattle.std.proofs.Common.{◌≡◌, ℕ, zero, suc, ◌-◌, length, take, slice_get, Bool, true, false, arith, ◌&&◌, cond, List, [], ◌∷◌, ◌++◌, Option, None, Some, refl, sym, ap, ◌∙◌, append_assoc, append-nil}
use Rattle.std.specs.Option.{option_or}
use Rattle.su_bytes.specs.Format.{is_as_new}
use Rattle.su_bytes.specs.Membership.{Membership}
use Rattle.su_bytes.specs.declared.formats.Format.{Format}
use Rattle.su_bytes.specs.declared.formats.Format.TheVariants.{V1, V2, V3, V4}
use Rattle.su_bytes.specs.declared.formats.TheConstants.{FIRST_FORMAT, NEWEST_FORMAT}
use Rattle.su_bytes.specs.declared.refusals.Refusal.{Refusal}
use Rattle.su_bytes.specs.declared.refusals.Refusal.TheVariants.{OldFormat}
use Rattle.su_bytes.proofs.Public.{newest}
use Rattle.su_op.specs.declared.operations.Change.{Change}
use Rattle.su_op.specs.declared.operations.Change.TheVariants.{Undo}
use Rattle.su_op.specs.Action.{change_format}
use Rattle.su_desk.specs.declared.entries.Entry.{Entry}
use Rattle.su_desk.specs.History.{NumberedAction, last_format, format_after, undo_by, undos}
use Rattle.su_desk.specs.Answer.{format_refusal, made_format, newer, refusal_by_change, refusal_of}

-- ---- the format of the last entry

last_format-append : (f : Format) (h : List Entry) (e : Entry) → last_format f (h ++ e ∷ []) ≡ e.format
last_format-append f [] e = refl
last_format-append f (x ∷ h) e = last_format-append x.format h e

pub format_further : (h : List Entry) (e : Entry) → format_after (h ++ e ∷ []) ≡ e.format
format_further h e = last_format-append V1 h e

pub as_new_itself : (f : Format) → is_as_new f f ≡ true
as_new_itself V1 = refl
as_new_itself V2 = refl
as_new_itself V3 = refl
as_new_itself V4 = refl

as_new_as_oldest : (f : Format) → is_as_new f V1 ≡ true
as_new_as_oldest V1 = refl
as_new_as_oldest V2 = refl
as_new_as_oldest V3 = refl
as_new_as_oldest V4 = refl

-- ---- formats that fit

pub fits : (h : List Entry) (f : Format) (c : Change) → is_as_new f (format_after h) ≡ true → is_as_new f (change_format c) ≡ true → format_refusal h f c ≡ None
fits h f c new has =
    ap (λ b. cond (b && is_as_new f (change_format c)) None (Some OldFormat)) new ∙ ap (λ b. cond b None (Some OldFormat)) has

-- the newest fits always
pub newest_fits : (h : List Entry) (c : Change) → format_refusal h NEWEST_FORMAT c ≡ None
newest_fits h c = fits h NEWEST_FORMAT c (newest (format_after h)) (newest (change_format c))

-- every format has undos
pub undo_fits : (h : List Entry) (f : Format) (n : ℕ) → is_as_new f (format_after h) ≡ true → format_refusal h f (Undo n) ≡ None
undo_fits h f n new = fits h f (Undo n) new (as_new_as_oldest f)

-- undos in one format leave it as new as the last one
pub undos_as_new : (h : List Entry) (f : Format) (us : List NumberedAction) → is_as_new f (format_after h) ≡ true → is_as_new f (format_after (h ++ undos f us)) ≡ true
undos_as_new h f [] new = ap (λ l. is_as_new f (format_after l)) (append-nil h) ∙ new
undos_as_new h f (t ∷ us) new =
    let e : Entry = undo_by t.action.author f t.number in
    ap (λ l. is_as_new f (format_after l)) (sym (append_assoc h (undos f us) (e ∷ [])))
    ∙ ap (is_as_new f) (format_further (h ++ undos f us) e) ∙ as_new_itself f

-- ---- the newer of two

newer_left : (f g : Format) → is_as_new (newer f g) f ≡ true
newer_left f g = go (is_as_new f g) refl
  where
    go : (b : Bool) → is_as_new f g ≡ b → is_as_new (cond b f g) f ≡ true
    go true is = as_new_itself f
    go false is = grind (arith, is)

newer_right : (f g : Format) → is_as_new (newer f g) g ≡ true
newer_right f g = go (is_as_new f g) refl
  where
    go : (b : Bool) → is_as_new f g ≡ b → is_as_new (cond b f g) g ≡ true
    go true is = is
    go false is = as_new_itself g

as_new_on : (f g k : Format) → is_as_new f g ≡ true → is_as_new g k ≡ true → is_as_new f k ≡ true
as_new_on f g k e d = grind (arith, e, d)

-- a change that is made so is never refused for its format
pub made_fits : (h : List Entry) (c : Change) → format_refusal h (made_format h c) c ≡ None
made_fits h c =
    let f = newer FIRST_FORMAT (format_after h) in
    fits h (made_format h c) c (as_new_on (made_format h c) f (format_after h) (newer_left f (change_format c)) (newer_right FIRST_FORMAT (format_after h))) (newer_right f (change_format c))

pub made_new : (h : List Entry) (c : Change) → is_as_new (made_format h c) FIRST_FORMAT ≡ true
made_new h c =
    let f = newer FIRST_FORMAT (format_after h) in
    as_new_on (made_format h c) f FIRST_FORMAT (newer_left f (change_format c)) (newer_left FIRST_FORMAT (format_after h))

-- ---- refusals

-- an entry in a format that fits is refused as its change is
pub by_change : (ro : Membership) (h : List Entry) (e : Entry) → format_refusal h e.format e.change ≡ None → refusal_of ro h e ≡ refusal_by_change ro h e e.change
by_change ro h e none = ap (λ o. option_or o (refusal_by_change ro h e e.change)) none

-- where an entry is accepted, its change is
pub change_accepted : (ro : Membership) (h : List Entry) (e : Entry) → refusal_of ro h e ≡ None → refusal_by_change ro h e e.change ≡ None
change_accepted ro h e accepted = second (format_refusal h e.format e.change) (refusal_by_change ro h e e.change) accepted
  where
    second : (o p : Option Refusal) → option_or o p ≡ None → p ≡ None
    second None p is = is
    second (Some r) p is = absurd (let bad : Some r ≡ None = is in cc)

-- where its format doesn't fit, that refuses it
pub format_refused : (ro : Membership) (h : List Entry) (e : Entry) (r : Refusal) → format_refusal h e.format e.change ≡ Some r → refusal_of ro h e ≡ Some r
format_refused ro h e r is = ap (λ o. option_or o (refusal_by_change ro h e e.change)) is

-- ---- the last entry

-- a list ends with its last element
ends_at : {A : Type 0} (xs : List A) (n : ℕ) (x : A) → length xs ≡ suc n → slice_get xs n ≡ Some x → xs ≡ take n xs ++ x ∷ []
ends_at [] n x len e = absurd (let bad : None ≡ Some x = e in cc)
ends_at (y ∷ []) zero x len e = let same : y ≡ x = cc in ap (λ z. z ∷ []) same
ends_at (y ∷ z ∷ ys) zero x len e = absurd (omega arith)
ends_at (y ∷ ys) (suc n) x len e = ap (λ t. y ∷ t) (ends_at ys n x (omega arith) e)

pub ends_with : {A : Type 0} (xs : List A) (x : A) → slice_get xs (length xs - 1) ≡ Some x → xs ≡ take (length xs - 1) xs ++ x ∷ []
ends_with [] x e = absurd (let bad : None ≡ Some x = e in cc)
ends_with (y ∷ ys) x e = ends_at (y ∷ ys) (length (y ∷ ys) - 1) x (omega arith) e

-- the format of the last entry
pub format_last : (h : List Entry) (e : Entry) → slice_get h (length h - 1) ≡ Some e → e.format ≡ format_after h
format_last h e is = sym (ap format_after (ends_with h e is) ∙ format_further (take (length h - 1) h) e)
