-- Batches of actions of a lawful system are a lawful system.
use Rattle.std.proofs.Common.{◌≡◌, Bool, true, false, not, cond, ◌||◌, ◌&&◌, IsTrue, List, [], ◌∷◌, ◌++◌, Option, None, refl, sym, ap, ◌∙◌}
use Rattle.su_undo.specs.System.{System, Agree, AgreeOutside, GoesAlike, Lawful}
use Rattle.su_undo.specs.Replay.{replay, UndoIsSafe}
use Rattle.su_undo.proofs.TakingOut.{undo_is_safe}
use Rattle.su_undo.specs.Union.{Union, IsUnion}
use Rattle.su_undo.specs.Batch.{all_ok, all_acted, all_reads, all_writes, batched}
use Rattle.su_undo.specs.Flat.{flat, ReplaysFlat, NothingReadInside}

-- ---- truth values

both : (a b : Bool) → IsTrue (a && b) → IsTrue a × IsTrue b
both true b e = (refl, e)
both false b e = absurd (let bad : false ≡ true = e in cc)

none_of : (a b : Bool) → (a || b) ≡ false → (a ≡ false) × (b ≡ false)
none_of true b e = absurd (let bad : true ≡ false = e in cc)
none_of false b e = (refl, e)

or_this : (a b : Bool) → IsTrue a → IsTrue (a || b)
or_this a b e = ap (λ x. x || b) e

or_that : (a b : Bool) → IsTrue b → IsTrue (a || b)
or_that true b e = refl
or_that false b e = e

or_within : (a b : Bool) → (w r : Bool) → (IsTrue a → IsTrue w) → (IsTrue b → IsTrue r) → IsTrue (a || b) → IsTrue (w || r)
or_within true b w r f g e = or_this w r (f refl)
or_within false b w r f g e = or_that w r (g e)

and_true : (a b : Bool) → IsTrue a → IsTrue b → IsTrue (a && b)
and_true a b e f = ap (λ x. x && b) e ∙ f

cond_and : {A : Type 0} (a b : Bool) (o : Option A) → cond (a && b) o None ≡ cond a (cond b o None) None
cond_and true b o = refl
cond_and false b o = refl

module _ (s : System) (u : Union s) (law : Lawful s) (union : IsUnion s u) where
  -- ---- the states of a batch

  sound_behind : (S : s.State) (xs : List s.Action) → s.Sound S → IsTrue (all_ok s S xs) → s.Sound (all_acted s S xs)
  sound_behind S [] sound ok = sound
  sound_behind S (x ∷ xs) sound ok =
      let p = both (s.ok S x) (all_ok s (s.act S x) xs) ok in
      sound_behind (s.act S x) xs (law.stays_sound S x sound p.0) p.1

  -- what none of them writes stays
  stays : (S : s.State) (xs : List s.Action) → s.Sound S → IsTrue (all_ok s S xs) → AgreeOutside s (all_writes s u S xs) (all_acted s S xs) S
  stays S [] sound ok c out = refl
  stays S (x ∷ xs) sound ok c out =
      let p = both (s.ok S x) (all_ok s (s.act S x) xs) ok in
      let q = none_of (s.has (s.writes S x) c) (s.has (all_writes s u (s.act S x) xs) c) (sym (union.either (s.writes S x) (all_writes s u (s.act S x) xs) c) ∙ out) in
      stays (s.act S x) xs (law.stays_sound S x sound p.0) p.1 c q.1 ∙ law.leaves S x sound p.0 c q.0

  -- what is written is read
  read_too : (S : s.State) (xs : List s.Action) (c : s.Cell) → s.Sound S → IsTrue (all_ok s S xs) → IsTrue (s.has (all_writes s u S xs) c) → IsTrue (s.has (all_reads s u S xs) c)
  read_too S [] c sound ok wrote = wrote
  read_too S (x ∷ xs) c sound ok wrote =
      let p = both (s.ok S x) (all_ok s (s.act S x) xs) ok in
      union.either (s.reads S x) (all_reads s u (s.act S x) xs) c
      ∙ or_within (s.has (s.writes S x) c) (s.has (all_writes s u (s.act S x) xs) c) (s.has (s.reads S x) c) (s.has (all_reads s u (s.act S x) xs) c)
      (law.within S x c sound p.0)
      (read_too (s.act S x) xs c (law.stays_sound S x sound p.0) p.1)
      (sym (union.either (s.writes S x) (all_writes s u (s.act S x) xs) c) ∙ wrote)

  -- ---- locality

  -- states that agree on what a batch reads agree, behind its first action, on what the rest reads
  agree_behind : (S S' : s.State) (x : s.Action) (xs : List s.Action) → s.Sound S → s.Sound S' → IsTrue (s.ok S x) → GoesAlike s S S' x
      → Agree s (all_reads s u S (x ∷ xs)) S' S → Agree s (all_reads s u (s.act S x) xs) (s.act S' x) (s.act S x)
  agree_behind S S' x xs sound sound' ok goes agree c read = go (s.has (s.writes S x) c) refl
    where
      go : (w : Bool) → s.has (s.writes S x) c ≡ w → s.val (s.act S' x) c ≡ s.val (s.act S x) c
      go true is = goes.values c is
      go false is =
          law.leaves S' x sound' goes.ok c (ap (λ a. s.has a c) goes.writes ∙ is)
          ∙ agree c (union.either (s.reads S x) (all_reads s u (s.act S x) xs) c ∙ or_that (s.has (s.reads S x) c) (s.has (all_reads s u (s.act S x) xs) c) read)
          ∙ sym (law.leaves S x sound ok c is)

  alike_all : (S S' : s.State) (xs : List s.Action) → s.Sound S → s.Sound S' → IsTrue (all_ok s S xs) → Agree s (all_reads s u S xs) S' S → GoesAlike (batched s u) S S' xs
  alike_all S S' [] sound sound' ok agree = record { ok = refl; reads = refl; writes = refl; values = λ c is. absurd (let bad : false ≡ true = sym (union.empty c) ∙ is in cc) }
  alike_all S S' (x ∷ xs) sound sound' ok agree =
      let p = both (s.ok S x) (all_ok s (s.act S x) xs) ok in
      let first : Agree s (s.reads S x) S' S = λ c read. agree c (union.either (s.reads S x) (all_reads s u (s.act S x) xs) c ∙ or_this (s.has (s.reads S x) c) (s.has (all_reads s u (s.act S x) xs) c) read) in
      let goes = law.alike S S' x sound sound' p.0 first in
      let behind = law.stays_sound S x sound p.0 in
      let behind' = law.stays_sound S' x sound' goes.ok in
      let rest = alike_all (s.act S x) (s.act S' x) xs behind behind' p.1 (agree_behind S S' x xs sound sound' p.0 goes agree) in
      record {
        ok = and_true (s.ok S' x) (all_ok s (s.act S' x) xs) goes.ok rest.ok;
        reads = ap (λ a. u.join a (all_reads s u (s.act S' x) xs)) goes.reads ∙ ap (u.join (s.reads S x)) rest.reads;
        writes = ap (λ a. u.join a (all_writes s u (s.act S' x) xs)) goes.writes ∙ ap (u.join (s.writes S x)) rest.writes;
        values = λ c is. values_all S S' x xs goes rest behind behind' p.1 c (sym (union.either (s.writes S x) (all_writes s u (s.act S x) xs) c) ∙ is);
      }
    where
      values_all : (S S' : s.State) (x : s.Action) (xs : List s.Action) → GoesAlike s S S' x → GoesAlike (batched s u) (s.act S x) (s.act S' x) xs
          → s.Sound (s.act S x) → s.Sound (s.act S' x) → IsTrue (all_ok s (s.act S x) xs)
          → (c : s.Cell) → IsTrue (s.has (s.writes S x) c || s.has (all_writes s u (s.act S x) xs) c)
          → s.val (all_acted s (s.act S' x) xs) c ≡ s.val (all_acted s (s.act S x) xs) c
      values_all S S' x xs goes rest behind behind' ok c is = go (s.has (all_writes s u (s.act S x) xs) c) refl
        where
          this : (a b : Bool) → IsTrue (a || b) → b ≡ false → IsTrue a
          this true b e none = refl
          this false b e none = absurd (let bad : false ≡ true = sym none ∙ e in cc)

          go : (w : Bool) → s.has (all_writes s u (s.act S x) xs) c ≡ w → s.val (all_acted s (s.act S' x) xs) c ≡ s.val (all_acted s (s.act S x) xs) c
          go true w = rest.values c w
          go false w =
              stays (s.act S' x) xs behind' rest.ok c (ap (λ a. s.has a c) rest.writes ∙ w)
              ∙ goes.values c (this (s.has (s.writes S x) c) (s.has (all_writes s u (s.act S x) xs) c) is w)
              ∙ sym (stays (s.act S x) xs behind ok c w)

  -- ---- the laws

  pub batched_lawful : Lawful (batched s u)
  batched_lawful = record {
    leaves = stays;
    alike = alike_all;
    within = read_too;
    stays_sound = sound_behind;
    start_sound = law.start_sound;
    apart = law.apart;
    same = law.same;
  }

  -- so all that is proved of a lawful system's actions holds of batches, as that one can be taken out
  pub batches_safe : UndoIsSafe (batched s u)
  batches_safe = undo_is_safe (batched s u) batched_lawful

  -- ---- batches and the actions in them

  replay_behind : (S : s.State) (xs rest : List s.Action) → replay s S (xs ++ rest) ≡ cond (all_ok s S xs) (replay s (all_acted s S xs) rest) None
  replay_behind S [] rest = refl
  replay_behind S (x ∷ xs) rest =
      ap (λ o. cond (s.ok S x) o None) (replay_behind (s.act S x) xs rest)
      ∙ sym (cond_and (s.ok S x) (all_ok s (s.act S x) xs) (replay s (all_acted s (s.act S x) xs) rest))

  pub flat_alike : ReplaysFlat s u
  flat_alike S [] = refl
  flat_alike S (xs ∷ rest) =
      ap (λ o. cond (all_ok s S xs) o None) (flat_alike (all_acted s S xs) rest)
      ∙ sym (replay_behind S xs (flat rest))

  inside : (r rest w : Bool) → (IsTrue w → IsTrue r) → (r || rest) ≡ (r || (rest && not w))
  inside true rest w f = refl
  inside false true true f = sym (f refl)
  inside false true false f = refl
  inside false false w f = refl

  pub none_inside : NothingReadInside s u
  none_inside S x xs c sound ok =
      union.either (s.reads S x) (all_reads s u (s.act S x) xs) c
      ∙ inside (s.has (s.reads S x) c) (s.has (all_reads s u (s.act S x) xs) c) (s.has (s.writes S x) c) (law.within S x c sound ok)
