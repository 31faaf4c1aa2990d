-- What a file is, by what was read where it stands.
use Rattle.std.specs.Prelude.{◌≡◌, ℕ, List, Option, Some, None, Result, Ok, Err, length}
use Rattle.std.specs.FinMap.{get}
use Rattle.std.specs.Option.{ok_or, option_map}
use Rattle.std.proofs.Common.{◌∙◌, ◌<◌, ap, sym, refl, take, drop, min, ◌≤◌, arith}
use Rattle.std.proofs.lemmas.List.{length-take, take_all}
use Rattle.su_bytes.specs.Place.{Place}
use Rattle.su_bytes.specs.declared.file_ids.FileId.{FileId}
use Rattle.su_bytes.specs.declared.refusals.Refusal.{Refusal}
use Rattle.su_bytes.specs.declared.refusals.Refusal.TheVariants.{NoFile, WrongKind}
use Rattle.su_node.specs.Inode.{Inode, Content, Content.Bytes, Content.Names, bytes_of, within}
use Rattle.su_table.specs.Query.{body, contents, contents_within, part, standing, standing_at}
use Rattle.su_table.specs.Tree.{Tree}
use Rattle.su_files.specs.Place.{place_of}
use Rattle.su_files.specs.Stat.{stat_at, stat_in, stat_of}
use Rattle.su_files.specs.declared.stats.Stat.{Stat}
use Rattle.su_reading.specs.Reading.{head_of}
use Rattle.su_reading.specs.declared.heads.InodeHead.{InodeHead}

-- ---- where it stands

pub place_there : (T : Tree) (f : FileId) (p : Place) → Some p ≡ body T f → place_of T f ≡ Ok p
unfolding place_of
place_there T f p is = ap (λ o. ok_or o (NoFile f)) (sym is)

pub place_none : (T : Tree) (f : FileId) → None ≡ body T f → place_of T f ≡ Err (NoFile f)
unfolding place_of
place_none T f is = ap (λ o. ok_or o (NoFile f)) (sym is)

found : (o : Option Place) (f : FileId) (p : Place) → ◌≡◌ {A = Result Place Refusal} (ok_or o (NoFile f)) (Ok p) → o ≡ Some p
found None f p is = absurd cc
found (Some q) f p is = cc

body_there : (T : Tree) (f : FileId) (p : Place) → place_of T f ≡ Ok p → body T f ≡ Some p
unfolding place_of
body_there T f p is = found (body T f) f p is

missed : (o : Option Place) (f : FileId) (e : Refusal) → ◌≡◌ {A = Result Place Refusal} (ok_or o (NoFile f)) (Err e) → (o ≡ None) × (e ≡ NoFile f)
missed None f e is = (refl, cc)
missed (Some q) f e is = absurd cc

body_none : (T : Tree) (f : FileId) (e : Refusal) → place_of T f ≡ Err e → (body T f ≡ None) × (e ≡ NoFile f)
unfolding place_of
body_none T f e is = missed (body T f) f e is

-- ---- what it is

stat_there : (holder : ℕ) (f : FileId) (o : Option Inode) (h : InodeHead) → Some h ≡ option_map head_of o
    → ◌≡◌ {A = Result Stat Refusal} (ok_or (option_map (stat_of holder) o) (WrongKind f)) (Ok (record { holder = holder; kind = h.kind; size = h.size; links = h.links }))
stat_there holder f None h is = absurd cc
stat_there holder f (Some i) h is = let same : h ≡ head_of i = cc is in rw same refl

pub stat_is : (T : Tree) (f : FileId) (p : Place) (h : InodeHead) → place_of T f ≡ Ok p → Some h ≡ option_map head_of (get T.inodes p)
    → stat_in T f ≡ Ok (record { holder = p.0; kind = h.kind; size = h.size; links = h.links })
stat_is T f p h stands is = ap (stat_at T f) (body_there T f p stands) ∙ stat_there p.0 f (get T.inodes p) h is

stat_nothing : (holder : ℕ) (f : FileId) (o : Option Inode) → None ≡ option_map head_of o
    → ◌≡◌ {A = Result Stat Refusal} (ok_or (option_map (stat_of holder) o) (WrongKind f)) (Err (WrongKind f))
stat_nothing holder f None is = refl
stat_nothing holder f (Some i) is = absurd cc

pub stat_wrong : (T : Tree) (f : FileId) (p : Place) → place_of T f ≡ Ok p → None ≡ option_map head_of (get T.inodes p) → stat_in T f ≡ Err (WrongKind f)
stat_wrong T f p stands is = ap (stat_at T f) (body_there T f p stands) ∙ stat_nothing p.0 f (get T.inodes p) is

pub stat_refused : (T : Tree) (f : FileId) (e : Refusal) → place_of T f ≡ Err e → stat_in T f ≡ Err e
stat_refused T f e is = let h = body_none T f e is in ap (stat_at T f) h.0 ∙ ap Err (sym h.1)

-- ---- its parts

module _ {X : Type 0} (T : Tree) (f : FileId) where
  -- what an inode has, where the file has a body
  pub part_there : (of : Option Inode → Option X) → of None ≡ None → (p : Place) → place_of T f ≡ Ok p → part (λ i. of (Some i)) f (standing T f) ≡ ok_or (of (get T.inodes p)) (WrongKind f)
  unfolding standing
  part_there of none p stands = ap (λ o. part (λ i. of (Some i)) f (standing_at T f o)) (body_there T f p stands) ∙ go (get T.inodes p)
    where
      go : (o : Option Inode) → part (λ i. of (Some i)) f (ok_or o (WrongKind f)) ≡ ok_or (of o) (WrongKind f)
      go None = sym (ap (λ x. ok_or x (WrongKind f)) none)
      go (Some i) = refl

  pub part_refused : (of : Inode → Option X) (e : Refusal) → place_of T f ≡ Err e → part of f (standing T f) ≡ Err e
  unfolding standing
  part_refused of e is = let h = body_none T f e is in ap (λ o. part of f (standing_at T f o)) h.0 ∙ ap Err (sym h.1)

-- ---- all bytes

-- what is shorter than the range that was taken is all of it
all_taken : (n : ℕ) (b bs : List ℕ) → take n (drop 0 b) ≡ bs → length bs < n → b ≡ bs
all_taken n b bs is lt =
    let len : min n (length b) ≡ length bs = sym (length-take n b) ∙ ap length is in
    let short : length b ≤ n = omega arith in
    sym (take_all n b short) ∙ is

whole_part : (n : ℕ) (f : FileId) (r : Result Inode Refusal) (bs : List ℕ) → part (λ i. option_map (within 0 n) (bytes_of (Some i))) f r ≡ Ok bs → length bs < n → part (λ i. bytes_of (Some i)) f r ≡ Ok bs
whole_part n f (Err e) bs is lt = absurd cc
whole_part n f (Ok i) bs is lt = go i.content is
  where
    go : (c : Content) → ok_or (option_map (within 0 n) (elim c [ Bytes b ↦ Some b | Names x ↦ None ])) (WrongKind f) ≡ Ok bs → ok_or (elim c [ Bytes b ↦ Some b | Names x ↦ None ]) (WrongKind f) ≡ Ok bs
    go (Bytes b) is = let same : take n (drop 0 b) ≡ bs = cc is in ap Ok (all_taken n b bs same lt)
    go (Names x) is = absurd cc

pub whole : (T : Tree) (f : FileId) (n : ℕ) (bs : List ℕ) → contents_within T f 0 n ≡ Ok bs → length bs < n → contents T f ≡ Ok bs
whole T f n bs is lt = whole_part n f (standing T f) bs is lt

refused_part : (n : ℕ) (f : FileId) (r : Result Inode Refusal) (e : Refusal) → part (λ i. option_map (within 0 n) (bytes_of (Some i))) f r ≡ Err e → part (λ i. bytes_of (Some i)) f r ≡ Err e
refused_part n f (Err x) e is = is
refused_part n f (Ok i) e is = go i.content is
  where
    go : (c : Content) → ok_or (option_map (within 0 n) (elim c [ Bytes b ↦ Some b | Names x ↦ None ])) (WrongKind f) ≡ Err e → ok_or (elim c [ Bytes b ↦ Some b | Names x ↦ None ]) (WrongKind f) ≡ Err e
    go (Bytes b) is = absurd cc
    go (Names x) is = is

pub whole_refused : (T : Tree) (f : FileId) (n : ℕ) (e : Refusal) → contents_within T f 0 n ≡ Err e → contents T f ≡ Err e
whole_refused T f n e is = refused_part n f (standing T f) e is
