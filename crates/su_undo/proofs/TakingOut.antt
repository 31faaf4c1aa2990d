-- Actions that don't read some cells go alike in two states that differ in these cells alone; so
-- one that wrote them can be taken out.
use Rattle.std.proofs.Common.{◌≡◌, Bool, true, false, cond, IsTrue, List, [], ◌∷◌, ◌++◌, Option, Some, None, refl, sym, ap, ◌∙◌, subst}
use Rattle.std.proofs.lemmas.Bool.{both_ways}
use Rattle.su_undo.specs.System.{System, Agree, AgreeOutside, GoesAlike, Lawful}
use Rattle.su_undo.specs.Replay.{replay, NoneReads, AllGoAlike, CanBeTakenOut, UndoIsSafe}

-- ---- replays

-- where accepted actions lead
abbrev pub led_to : (s : System) → s.State → List s.Action → s.State
led_to s S [] = S
led_to s S (x ∷ xs) = led_to s (s.act S x) xs

-- the first action is accepted, and the rest are replayed from behind it
pub first_replayed : {A : Type 0} (b : Bool) (o : Option A) (T : A) → cond b o None ≡ Some T → (b ≡ true) × (o ≡ Some T)
first_replayed true o T e = (refl, e)
first_replayed false o T e = absurd (let bad : None ≡ Some T = e in cc)

pub replayed_to : (s : System) (S T : s.State) (xs : List s.Action) → replay s S xs ≡ Some T → led_to s S xs ≡ T
replayed_to s S T [] e = let same : S ≡ T = cc in same
replayed_to s S T (x ∷ xs) e = let p = first_replayed (s.ok S x) (replay s (s.act S x) xs) T e in replayed_to s (s.act S x) T xs p.1

pub replay-cons : (s : System) (S : s.State) (x : s.Action) (xs : List s.Action) → IsTrue (s.ok S x) → replay s S (x ∷ xs) ≡ replay s (s.act S x) xs
replay-cons s S x xs ok = ap (λ b. cond b (replay s (s.act S x) xs) None) ok

-- ---- going alike

-- from R as in S, and from S as in S'
pub alike_alike : (s : System) (R S S' : s.State) (x : s.Action) → GoesAlike s R S x → GoesAlike s S S' x → GoesAlike s R S' x
alike_alike s R S S' x first second = record {
  ok = second.ok;
  reads = second.reads ∙ first.reads;
  writes = second.writes ∙ first.writes;
  values = λ c is. second.values c (ap (λ w. s.has w c) first.writes ∙ is) ∙ first.values c is;
}

pub alike_itself : (s : System) (S : s.State) (x : s.Action) → IsTrue (s.ok S x) → GoesAlike s S S x
alike_itself s S x ok = record { ok = ok; reads = refl; writes = refl; values = λ c is. refl }

-- In S' as in S the action is accepted, and the two states differ in the cells alone, which it
-- doesn't read.
pub record Beside (s : System) (w : s.Areas) (S S' : s.State) (x : s.Action) : Type 0 where
  pub sound : s.Sound S
  pub sound' : s.Sound S'
  pub ok : IsTrue (s.ok S x)
  pub clear : s.meet (s.reads S x) w ≡ false
  pub agree : AgreeOutside s w S' S
  pub goes : GoesAlike s S S' x

-- the same of actions one after another
abbrev pub AllBeside : (s : System) → s.Areas → s.State → s.State → List s.Action → Type 0
AllBeside s w S S' [] = Unit {0}
AllBeside s w S S' (x ∷ xs) = Beside s w S S' x × AllBeside s w (s.act S x) (s.act S' x) xs

module _ (s : System) (law : Lawful s) where
  -- ---- one action

  -- cells that an action doesn't read it doesn't write
  pub unwritten : (S : s.State) (x : s.Action) (w : s.Areas) (c : s.Cell) → s.Sound S → IsTrue (s.ok S x) → s.meet (s.reads S x) w ≡ false → IsTrue (s.has w c) → s.has (s.writes S x) c ≡ false
  unwritten S x w c sound ok clear inside = go (s.has (s.writes S x) c) refl
    where
      go : (b : Bool) → s.has (s.writes S x) c ≡ b → s.has (s.writes S x) c ≡ false
      go false is = is
      go true is = absurd (both_ways (s.has w c) (law.apart (s.reads S x) w c clear (law.within S x c sound ok is)) inside)

  -- states that differ in cells that it doesn't read agree on those that it reads
  pub agree_read : (S S' : s.State) (x : s.Action) (w : s.Areas) → s.meet (s.reads S x) w ≡ false → AgreeOutside s w S' S → Agree s (s.reads S x) S' S
  agree_read S S' x w clear agree c read = agree c (law.apart (s.reads S x) w c clear read)

  -- it goes alike in a state that differs in such cells alone
  alike : (S S' : s.State) (x : s.Action) (w : s.Areas) → s.Sound S → s.Sound S' → IsTrue (s.ok S x) → s.meet (s.reads S x) w ≡ false → AgreeOutside s w S' S → GoesAlike s S S' x
  alike S S' x w sound sound' ok clear agree = law.alike S S' x sound sound' ok (agree_read S S' x w clear agree)

  -- afterwards the states differ in the same cells alone
  differ_alike : (S S' : s.State) (x : s.Action) (w : s.Areas) → Beside s w S S' x → AgreeOutside s w (s.act S' x) (s.act S x)
  differ_alike S S' x w b c outside = go (s.has (s.writes S x) c) refl
    where
      go : (r : Bool) → s.has (s.writes S x) c ≡ r → s.val (s.act S' x) c ≡ s.val (s.act S x) c
      go true is = b.goes.values c is
      go false is =
          law.leaves S' x b.sound' b.goes.ok c (ap (λ a. s.has a c) b.goes.writes ∙ is)
          ∙ b.agree c outside
          ∙ sym (law.leaves S x b.sound b.ok c is)

  -- what it leaves
  pub leaves_others : (S : s.State) (x : s.Action) → s.Sound S → IsTrue (s.ok S x) → AgreeOutside s (s.writes S x) S (s.act S x)
  leaves_others S x sound ok c out = sym (law.leaves S x sound ok c out)

  pub clear_beside : (w : s.Areas) (S S' : s.State) (x : s.Action) → Beside s w S S' x → s.meet (s.reads S' x) w ≡ false
  clear_beside w S S' x b = ap (λ a. s.meet a w) b.goes.reads ∙ b.clear

  -- ---- actions one after another

  pub all_beside : (w : s.Areas) (S S' T : s.State) (xs : List s.Action) → s.Sound S → s.Sound S' → AgreeOutside s w S' S → replay s S xs ≡ Some T → NoneReads s w S xs → AllBeside s w S S' xs
  all_beside w S S' T [] sound sound' agree e none = tt
  all_beside w S S' T (x ∷ xs) sound sound' agree e (clear, none) =
      let p = first_replayed (s.ok S x) (replay s (s.act S x) xs) T e in
      let goes = alike S S' x w sound sound' p.0 clear agree in
      let b : Beside s w S S' x = record { sound = sound; sound' = sound'; ok = p.0; clear = clear; agree = agree; goes = goes } in
      (b, all_beside w (s.act S x) (s.act S' x) T xs (law.stays_sound S x sound p.0) (law.stays_sound S' x sound' goes.ok) (differ_alike S S' x w b) p.1 none)

  pub all_alike : (w : s.Areas) (S S' : s.State) (xs : List s.Action) → AllBeside s w S S' xs → AllGoAlike s S S' xs
  all_alike w S S' [] b = tt
  all_alike w S S' (x ∷ xs) (b, rest) = (b.goes, all_alike w (s.act S x) (s.act S' x) xs rest)

  -- they are accepted from S' too
  pub replayed_beside : (w : s.Areas) (S S' : s.State) (xs : List s.Action) → AllBeside s w S S' xs → replay s S' xs ≡ Some (led_to s S' xs)
  replayed_beside w S S' [] b = refl
  replayed_beside w S S' (x ∷ xs) (b, rest) = replay-cons s S' x xs b.goes.ok ∙ replayed_beside w (s.act S x) (s.act S' x) xs rest

  -- the cells stay as they are in S'
  pub stay_inside : (w : s.Areas) (S S' : s.State) (xs : List s.Action) → AllBeside s w S S' xs → Agree s w (led_to s S' xs) S'
  stay_inside w S S' [] b c is = refl
  stay_inside w S S' (x ∷ xs) (b, rest) c is =
      stay_inside w (s.act S x) (s.act S' x) xs rest c is
      ∙ law.leaves S' x b.sound' b.goes.ok c (unwritten S' x w c b.sound' b.goes.ok (clear_beside w S S' x b) is)

  -- and all others become the same
  pub same_outside : (w : s.Areas) (S S' : s.State) (xs : List s.Action) → AgreeOutside s w S' S → AllBeside s w S S' xs → AgreeOutside s w (led_to s S' xs) (led_to s S xs)
  same_outside w S S' [] agree b = agree
  same_outside w S S' (x ∷ xs) agree (b, rest) = same_outside w (s.act S x) (s.act S' x) xs (differ_alike S S' x w b) rest

  -- ---- an action with those before and after it

  -- the later ones go from before it as they went from behind it
  pub past_it : (S T : s.State) (x : s.Action) (after : List s.Action) → s.Sound S → IsTrue (s.ok S x) → replay s (s.act S x) after ≡ Some T → NoneReads s (s.writes S x) (s.act S x) after
      → AllBeside s (s.writes S x) (s.act S x) S after
  past_it S T x after sound ok rest none = all_beside (s.writes S x) (s.act S x) S T after (law.stays_sound S x sound ok) sound (leaves_others S x sound ok) rest none

  first_out : (S T : s.State) (x : s.Action) (after : List s.Action) → s.Sound S → IsTrue (s.ok S x) → replay s (s.act S x) after ≡ Some T → NoneReads s (s.writes S x) (s.act S x) after
      → CanBeTakenOut s S [] x after T
  first_out S T x after sound ok rest none =
      let b = past_it S T x after sound ok rest none in
      record {
        earlier = S;
        without = led_to s S after;
        reached = refl;
        left = replayed_beside (s.writes S x) (s.act S x) S after b;
        alike = all_alike (s.writes S x) (s.act S x) S after b;
        restored = stay_inside (s.writes S x) (s.act S x) S after b;
        others = λ c out. same_outside (s.writes S x) (s.act S x) S after (leaves_others S x sound ok) b c out ∙ ap (λ R. s.val R c) (replayed_to s (s.act S x) T after rest);
      }

  -- one that wrote nothing that a later one reads can be taken out
  pub undo_is_safe : UndoIsSafe s
  undo_is_safe S earlier T [] after x sound reached all none =
      let same : S ≡ earlier = cc in
      let p = first_replayed (s.ok S x) (replay s (s.act S x) after) T all in
      first_out S T x after sound p.0 p.1 (subst (λ R. NoneReads s (s.writes R x) (s.act R x) after) (sym same) none)
  undo_is_safe S earlier T (y ∷ before) after x sound reached all none =
      let p = first_replayed (s.ok S y) (replay s (s.act S y) before) earlier reached in
      let q = first_replayed (s.ok S y) (replay s (s.act S y) (before ++ x ∷ after)) T all in
      let r = undo_is_safe (s.act S y) earlier T before after x (law.stays_sound S y sound p.0) p.1 q.1 none in
      record {
        earlier = r.earlier;
        without = r.without;
        reached = replay-cons s S y before p.0 ∙ r.reached;
        left = replay-cons s S y (before ++ after) p.0 ∙ r.left;
        alike = r.alike;
        restored = r.restored;
        others = r.others;
      }
