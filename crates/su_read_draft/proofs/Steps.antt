-- Steps of drafts, by what was read.
use Rattle.std.specs.Prelude.{◌≡◌, ℕ, true, false, Option, Some, None, Result, Ok, Err}
use Rattle.std.specs.FinMap.{get}
use Rattle.std.specs.Option.{option_map}
use Rattle.std.proofs.Common.{◌∙◌, ap, sym, refl, inl, inr, subst}
use Rattle.su_bytes.specs.declared.file_ids.FileId.{FileId}
use Rattle.su_bytes.specs.declared.file_ids.FileId.TheVariants.{Group}
use Rattle.su_bytes.specs.declared.refusals.Refusal.{Refusal}
use Rattle.su_bytes.specs.declared.refusals.Refusal.TheVariants.{NoName, WrongKind}
use Rattle.su_bytes.specs.Place.{Place, GroupFile, place_eq}
use Rattle.su_node.specs.Field.{Field.KindOf, Field.NameOf, Value, Value.Nothing, Value.AKind, Value.ANumber, Value.ABlock, Value.AFile, Value.APlace, field_value, file_value}
use Rattle.su_node.specs.Inode.{Inode}
use Rattle.su_node.specs.Name.{Name}
use Rattle.su_table.specs.Cell.{Cell.At, Cell.Pointer, val}
use Rattle.su_table.specs.Query.{body, is_dir_at, is_free_at, pointer_body}
use Rattle.su_table.specs.Free.{IsLeastTaken}
use Rattle.su_table.specs.Tree.{Tree}
use Rattle.su_draft.specs.Draft.{DraftState, needs_take, taken, with_take}
use Rattle.su_draft.specs.Refusable.{Gives}
use Rattle.su_draft.specs.Walk.{directory_place, entry, file_held, led_to}
use Rattle.su_op.specs.DropBody.{leads_here}
use Rattle.su_reading.proofs.Public.{ends_ok, ends_err, ok_got}
use Rattle.su_reading.specs.Reading.{Inquiry, WorksOut, head_of}
use Rattle.su_reading.specs.declared.heads.InodeHead.{InodeHead}

pub same_ok : {A : Type 0} {x y : A} → ◌≡◌ {A = Result A Refusal} (Ok x) (Ok y) → x ≡ y
same_ok e = cc e

-- ---- what stands at a place

some_head : (o : Option Inode) (h : InodeHead) → Some h ≡ option_map head_of o → field_value o KindOf ≡ AKind h.kind h.home
some_head None h e = absurd cc
some_head (Some i) h e = let is : h ≡ head_of i = cc e in rw is refl

pub head_there : (T : Tree) (p : Place) (h : InodeHead) → Some h ≡ option_map head_of (get T.inodes p) → val T (At p KindOf) ≡ AKind h.kind h.home
unfolding val
head_there T p h e = some_head (get T.inodes p) h e

no_head : (o : Option Inode) → None ≡ option_map head_of o → field_value o KindOf ≡ Nothing
no_head None e = refl
no_head (Some i) e = absurd cc

pub head_none : (T : Tree) (p : Place) → None ≡ option_map head_of (get T.inodes p) → val T (At p KindOf) ≡ Nothing
unfolding val
head_none T p e = no_head (get T.inodes p) e

-- ---- walks

held : (o : Option FileId) → file_held (file_value o) ≡ o
held None = refl
held (Some f) = refl

pub name_led : (T : Tree) (p : Place) (x : Name) (o : Option FileId) → file_value o ≡ val T (At p (NameOf x)) → led_to T p x ≡ o
unfolding led_to
name_led T p x o e = ap file_held (sym e) ∙ held o

pub place_none : (T : Tree) (f : FileId) → None ≡ body T f → directory_place T f ≡ Err (WrongKind f)
unfolding directory_place
place_none T f e = rw (sym e) refl

pub place_dir : (T : Tree) (f : FileId) (p : Place) → Some p ≡ body T f → is_dir_at T p ≡ true → directory_place T f ≡ Ok p
unfolding directory_place
place_dir T f p e is = rw (sym e, is) refl

pub place_other : (T : Tree) (f : FileId) (p : Place) → Some p ≡ body T f → is_dir_at T p ≡ false → directory_place T f ≡ Err (WrongKind f)
unfolding directory_place
place_other T f p e is = rw (sym e, is) refl

pub entry_refused : (T : Tree) (f : FileId) (x : Name) (e : Refusal) → directory_place T f ≡ Err e → entry T f x ≡ Err e
unfolding entry
entry_refused T f x e is = rw is refl

pub entry_led : (T : Tree) (f : FileId) (x : Name) (p : Place) (g : FileId) → directory_place T f ≡ Ok p → led_to T p x ≡ Some g → entry T f x ≡ Ok g
unfolding entry
entry_led T f x p g is leads = rw (is, leads) refl

pub entry_none : (T : Tree) (f : FileId) (x : Name) (p : Place) → directory_place T f ≡ Ok p → led_to T p x ≡ None → entry T f x ≡ Err NoName
unfolding entry
entry_none T f x p is leads = rw (is, leads) refl

-- ---- takes

pub take_needed : (T : Tree) (d : DraftState) (f : FileId) → needs_take T d f ≡ true → with_take T d f ≡ taken T d f
unfolding with_take
take_needed T d f is = rw is refl

pub none_needed : (T : Tree) (d : DraftState) (f : FileId) → needs_take T d f ≡ false → with_take T d f ≡ Ok d
unfolding with_take
none_needed T d f is = rw is refl

-- ---- what was answered, as it is kept in a loop

module _ {R : Type 0} {shows : R → Tree → Type 0} {fails : Tree → R → Refusal → Type 0} {follows : R → R → Type 0}
    {A : Type 0} {IsA : Tree → A → Type 0} {NoA : Tree → Refusal → Type 0} {asked : Result A Refusal} {r s : R} where
  -- what was answered makes it so
  pub step_done : {IsC : Tree → Unit {0} → Type 0} {NoC : Tree → Refusal → Type 0} (a : A) → asked ≡ Ok a → Inquiry shows fails follows r s asked IsA NoA → ((T : Tree) → IsA T a → IsC T tt)
      → Inquiry shows fails follows r s (Ok tt) IsC NoC
  step_done a was h whole = record {
    still = h.still;
    answer = λ T shown. whole T (ok_got (IsA T) a was (h.answer T shown));
    refused = λ T shown. tt;
    comes = h.comes;
  }

-- ---- what is given

module _ {R : Type 0} {shows : R → Tree → Type 0} {fails : Tree → R → Refusal → Type 0} {follows : R → R → Type 0}
    {A B D : Type 0} {IsA : Tree → A → Type 0} {NoA : Tree → Refusal → Type 0} {asked : Result A Refusal} {meant : Tree → Result D Refusal} {r s : R} where
  -- what was answered, and then what was given
  pub ends_given : (view : B → D) (a : A) (result : Result B Refusal) (given : Result D Refusal) → asked ≡ Ok a → Inquiry shows fails follows r s asked IsA NoA → Gives view result given → ((T : Tree) → IsA T a → meant T ≡ given)
      → WorksOut shows fails follows r s result view meant
  ends_given view a (Ok b) given was h is whole = ends_ok a b was refl h (λ T so. whole T so ∙ is)
  ends_given view a (Err e) given was h is whole = ends_err a e was refl h (λ T so. elim is [ inl none ↦ inl none | inr why ↦ inr (whole T so ∙ why) ])

-- ---- pointers

pub led_here : (v : Value) (b p : Place) → Some b ≡ pointer_body v → leads_here v p ≡ place_eq b p
led_here Nothing b p e = absurd cc
led_here (AKind k h) b p e = absurd cc
led_here (ANumber n) b p e = absurd cc
led_here (ABlock bs) b p e = absurd cc
led_here (AFile f) b p e = absurd cc
led_here (APlace q) b p e = let is : b ≡ q = cc e in rw is refl

pub led_nowhere : (v : Value) (p : Place) → None ≡ pointer_body v → leads_here v p ≡ false
led_nowhere Nothing p e = refl
led_nowhere (AKind k h) p e = refl
led_nowhere (ANumber n) p e = refl
led_nowhere (ABlock bs) p e = refl
led_nowhere (AFile f) p e = refl
led_nowhere (APlace q) p e = absurd cc

pub body_led : (T : Tree) (g : GroupFile) (o : Option Place) → o ≡ body T (Group g.0 g.1) → o ≡ pointer_body (val T (Pointer g))
unfolding body
body_led T g o e = e

-- ---- taken numbers

pub is_taken : (T : Tree) (a from n : ℕ) (o : Option ℕ) → o ≡ Some n → IsLeastTaken (λ i. is_free_at T (a, i)) from o → IsLeastTaken (λ i. is_free_at T (a, i)) from (Some n)
is_taken T a from n o is h = subst (IsLeastTaken (λ i. is_free_at T (a, i)) from) is h

pub none_taken : (T : Tree) (a from : ℕ) (o : Option ℕ) → o ≡ None → IsLeastTaken (λ i. is_free_at T (a, i)) from o → IsLeastTaken (λ i. is_free_at T (a, i)) from None
none_taken T a from o is h = subst (IsLeastTaken (λ i. is_free_at T (a, i)) from) is h
