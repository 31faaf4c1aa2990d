-- What blocks a batch.
use Rattle.std.proofs.Common.{◌≡◌, Bool, true, false, ◌||◌, List, [], ◌∷◌, ◌++◌, refl, sym, ap, ◌∙◌}
use Rattle.su_undo.specs.System.{System}
use Rattle.su_undo.specs.Replay.{NoneReads}
use Rattle.su_undo.specs.Union.{Union}
use Rattle.su_undo.specs.Batch.{batched, all_acted, all_reads, all_writes}
use Rattle.su_undo.specs.Flat.{flat}
use Rattle.su_undo.specs.Blocking.{MeetsByParts, EachUnread, BlocksByActions}

none_of : (a b : Bool) → (a || b) ≡ false → (a ≡ false) × (b ≡ false)
none_of true b e = absurd (let bad : true ≡ false = e in cc)
none_of false b e = (refl, e)

neither : (a b : Bool) → a ≡ false → b ≡ false → (a || b) ≡ false
neither a b e f = ap (λ x. x || b) e ∙ f

module _ (s : System) (u : Union s) (meets : MeetsByParts s u) where
  -- ---- what is read

  reads_none : (S : s.State) (xs : List s.Action) (w : s.Areas) → NoneReads s w S xs → s.meet (all_reads s u S xs) w ≡ false
  reads_none S [] w none = meets.none w
  reads_none S (x ∷ xs) w (clear, none) = meets.first (s.reads S x) (all_reads s u (s.act S x) xs) w ∙ neither (s.meet (s.reads S x) w) (s.meet (all_reads s u (s.act S x) xs) w) clear (reads_none (s.act S x) xs w none)

  none_read : (S : s.State) (xs : List s.Action) (w : s.Areas) → s.meet (all_reads s u S xs) w ≡ false → NoneReads s w S xs
  none_read S [] w clear = tt
  none_read S (x ∷ xs) w clear =
      let p = none_of (s.meet (s.reads S x) w) (s.meet (all_reads s u (s.act S x) xs) w) (sym (meets.first (s.reads S x) (all_reads s u (s.act S x) xs) w) ∙ clear) in
      (p.0, none_read (s.act S x) xs w p.1)

  front : (S : s.State) (xs rest : List s.Action) (w : s.Areas) → NoneReads s w S (xs ++ rest) → NoneReads s w S xs × NoneReads s w (all_acted s S xs) rest
  front S [] rest w none = (tt, none)
  front S (x ∷ xs) rest w (clear, none) = let p = front (s.act S x) xs rest w none in ((clear, p.0), p.1)

  joined : (S : s.State) (xs rest : List s.Action) (w : s.Areas) → NoneReads s w S xs → NoneReads s w (all_acted s S xs) rest → NoneReads s w S (xs ++ rest)
  joined S [] rest w none more = more
  joined S (x ∷ xs) rest w (clear, none) more = (clear, joined (s.act S x) xs rest w none more)

  pub flat_none : (S : s.State) (xss : List (List s.Action)) (w : s.Areas) → NoneReads (batched s u) w S xss → NoneReads s w S (flat xss)
  flat_none S [] w none = tt
  flat_none S (xs ∷ rest) w (clear, none) = joined S xs (flat rest) w (none_read S xs w clear) (flat_none (all_acted s S xs) rest w none)

  pub none_flat : (S : s.State) (xss : List (List s.Action)) (w : s.Areas) → NoneReads s w S (flat xss) → NoneReads (batched s u) w S xss
  none_flat S [] w none = tt
  none_flat S (xs ∷ rest) w none = let p = front S xs (flat rest) w none in (reads_none S xs w p.0, none_flat (all_acted s S xs) rest w p.1)

  -- ---- what is written

  unread_none : (T : s.State) (ys : List s.Action) → NoneReads s u.none T ys
  unread_none T [] = tt
  unread_none T (y ∷ ys) = (meets.no_other (s.reads T y), unread_none (s.act T y) ys)

  both_unread : (a b : s.Areas) (T : s.State) (ys : List s.Action) → NoneReads s a T ys → NoneReads s b T ys → NoneReads s (u.join a b) T ys
  both_unread a b T [] x y = tt
  both_unread a b T (y ∷ ys) (c, none) (d, more) = (meets.second (s.reads T y) a b ∙ neither (s.meet (s.reads T y) a) (s.meet (s.reads T y) b) c d, both_unread a b (s.act T y) ys none more)

  parts_unread : (a b : s.Areas) (T : s.State) (ys : List s.Action) → NoneReads s (u.join a b) T ys → NoneReads s a T ys × NoneReads s b T ys
  parts_unread a b T [] none = (tt, tt)
  parts_unread a b T (y ∷ ys) (c, none) =
      let p = none_of (s.meet (s.reads T y) a) (s.meet (s.reads T y) b) (sym (meets.second (s.reads T y) a b) ∙ c) in
      let q = parts_unread a b (s.act T y) ys none in
      ((p.0, q.0), (p.1, q.1))

  all_unread : (S T : s.State) (xs ys : List s.Action) → EachUnread s S xs T ys → NoneReads s (all_writes s u S xs) T ys
  all_unread S T [] ys each = unread_none T ys
  all_unread S T (x ∷ xs) ys (none, each) = both_unread (s.writes S x) (all_writes s u (s.act S x) xs) T ys none (all_unread (s.act S x) T xs ys each)

  each_unread : (S T : s.State) (xs ys : List s.Action) → NoneReads s (all_writes s u S xs) T ys → EachUnread s S xs T ys
  each_unread S T [] ys none = tt
  each_unread S T (x ∷ xs) ys none = let p = parts_unread (s.writes S x) (all_writes s u (s.act S x) xs) T ys none in (p.0, each_unread (s.act S x) T xs ys p.1)

  pub blocks_by_actions : BlocksByActions s u
  blocks_by_actions = record {
    free = λ S T xs later each. none_flat T later (all_writes s u S xs) (all_unread S T xs (flat later) each);
    each = λ S T xs later none. each_unread S T xs (flat later) (flat_none T later (all_writes s u S xs) none);
  }
