-- What is known of a file lets it be cut and written, and its size be told.
use Rattle.std.proofs.Common.{◌≡◌, ◌≢◌, ◌∙◌, ℕ, ◌+◌, ◌*◌, ◌/◌, ◌<◌, ◌≤◌, ◌^◌, Bool, true, false, ◌⊎◌, inl, inr, IsTrue, nat_le, nat_lt, List, length, drop, Option, Some, None, option_map, refl, sym, ap, arith}
use Rattle.std.proofs.lemmas.Bool.{and_from, ltb-false, ltb-true}
use Rattle.std.proofs.lemmas.List.{length-take}
use Rattle.std.specs.Prelude.{IfSome, IsSome, OnOk, Result, Ok, Err}
use Rattle.std.specs.Option.{option_and_then}
use Rattle.std.specs.FinMap.{get}
use Rattle.su_bytes.specs.Place.{Place}
use Rattle.su_bytes.specs.Principal.{is_user}
use Rattle.su_tree.specs.Number.{number_bits}
use Rattle.su_part_tree.specs.Part.{reaches}
use Rattle.su_node.specs.Inode.{Inode, Content, Content.Bytes, Content.Names, bytes_of, size_of, within}
use Rattle.su_node.specs.Field.{Field.SizeOf, field_value}
use Rattle.su_table.specs.Tree.{Tree}
use Rattle.su_table.specs.Cell.{val}
use Rattle.su_table.specs.Query.{value_number, size_at}
use Rattle.su_op.specs.Area.{in_run}
use Rattle.su_part.specs.Cut.{HasCutIn, HasCutOf}
use Rattle.su_part.specs.Fetches.{HasWantedAt}
use Rattle.su_part.specs.Known.{KnowsBlock as KnowsBlockOf, KnowsBlockIn, KnowsInode, OfLoaded, Want.AnInode, Want.ABlock}
use Rattle.su_part.specs.Part.{HasAt as HasOf, HasInode, HasWriteIn, HasWriteOf, IfLoaded, StandsAt, StandsContent, StandsJust, StandsUser, at_number}
use Rattle.su_part.specs.Seen.{loaded_inodes, seen_inode}
use Rattle.su_part.specs.declared.fetches.Wanted.TheVariants.{Write}
use Rattle.su_part.specs.declared.inodes.PartContent.{PartContent}
use Rattle.su_part.specs.declared.inodes.PartContent.TheVariants.{Bytes as LoadedBytes, Names as LoadedNames}
use Rattle.su_part.specs.declared.inodes.PartInode.{PartInode}
use Rattle.su_part.specs.declared.users.UserPart.{UserPart}
use Rattle.su_part.proofs.FreshLemmas.{known_inode}
use Rattle.su_part.proofs.SeenLemmas.{seen_size}
use Rattle.su_part_forest.specs.Forest.{Stands, IsPart, IsThereAt, loaded_inode, user_part}
use Rattle.su_part_forest.specs.Known.{HasCutAt, Knows, StaysKnown, Want.OfUser}
use Rattle.su_part_forest.specs.Loading.{HasAt}
use Rattle.su_part_forest.specs.Seen.{seen}
use Rattle.su_part_forest.specs.declared.forests.PartForest.{PartForest}
use Rattle.su_part_forest.proofs.Asked.{just_there}
use Rattle.su_part_forest.proofs.Public.{seen_inodes}
use Rattle.su_inverse.specs.Kept.{HoldsBlocks}
use Rattle.su_inverse.specs.declared.contents.KeptBlocks.{KeptBlocks}
use Rattle.su_part_inverse.specs.Ready.{KnowsEnd, KnowsRun}
use Rattle.su_part_inverse.proofs.Initial.{size_in, small_size}
use Rattle.su_part_inverse.proofs.Reading.{meant_at, user_stands}

-- an inode that is known and stands there is loaded
pub inode_loaded : (u n : ℕ) (T : Tree) (p : UserPart) → StandsUser u p T → KnowsInode u T n p → get T.inodes (u, n) ≢ None → HasInode n p
inode_loaded u n T p h w some = known_inode n p (go w.path) u T h w.there
  where
    go : IsTrue (reaches number_bits n p.table) ⊎ (get T.inodes (u, n) ≡ None) → IsTrue (reaches number_bits n p.table)
    go (inl r) = r
    go (inr none) = absurd (some none)

-- a file with bytes stands there
pub sized_some : (F : Tree) (p : Place) (n : ℕ) → n < size_at F p → get F.inodes p ≢ None
unfolding val
sized_some F p n lt none = let z : size_at F p ≡ 0 = ap (λ o. value_number (field_value o SizeOf)) none in omega (arith, lt, z)

module _ (F : Tree) (f : PartForest) (h : Stands f F) (p : Place) where
  -- an inode that is known is there
  pub there_known : Knows F (OfUser p.0 (AnInode p.1)) f → IsThereAt p F f
  there_known known = go (user_part p.0 f) known (h.users p.0) (h.no_user p.0 p.1)
    where
      missing : (b : Bool) → IsPart (λ r. StandsUser p.0 r F) b None → b ≡ false
      missing true s = absurd s
      missing false s = refl

      go : (o : Option UserPart) → IfSome o (KnowsInode p.0 F p.1) → IsPart (λ r. StandsUser p.0 r F) (is_user p.0) o → (is_user p.0 ≡ false → get F.inodes (p.0, p.1) ≡ None)
          → get F.inodes p ≢ None → IsSome (option_and_then (λ q. at_number (loaded_inodes q) p.1) o)
      go None k s none some = absurd (some (none (missing (is_user p.0) s)))
      go (Some q) k s none some = k.there some

  -- so its size is seen
  pub size_known : Knows F (OfUser p.0 (AnInode p.1)) f → size_at (seen f) p ≡ size_at F p
  unfolding val
  size_known known = ap (λ o. value_number (field_value o SizeOf)) (seen_inodes f p) ∙ ap value_number (go (loaded_inode p f) (get F.inodes p) (just_there f F h p (there_known known)))
    where
      go : (a : Option PartInode) (o : Option Inode) → StandsJust a o → field_value (option_map seen_inode a) SizeOf ≡ field_value o SizeOf
      go None o s = ap (λ x. field_value x SizeOf) (sym s)
      go (Some q) None s = absurd s
      go (Some q) (Some i) s = seen_size q i s

  -- a block behind the end is known
  pub past_known : (n : ℕ) → size_at F p ≤ 4096 * n → Knows F (OfUser p.0 (AnInode p.1)) f → Knows F (OfUser p.0 (ABlock p.1 n)) f
  past_known n past known = go (user_part p.0 f) known
    where
      inside : (q : PartContent) (c : Content) → size_of c ≤ 4096 * n → KnowsBlockIn n q c
      inside (LoadedBytes b) (Bytes bs) past = record { path = inr past; there = λ lt. absurd (omega (arith, lt, past)) }
      inside (LoadedBytes b) (Names m) past = tt
      inside (LoadedNames t) (Bytes bs) past = tt
      inside (LoadedNames t) (Names m) past = tt

      part : (a : Option PartInode) (o : Option Inode) → get F.inodes p ≡ o → OfLoaded (KnowsBlockIn n) a o
      part None None e = tt
      part None (Some i) e = tt
      part (Some q) None e = tt
      part (Some q) (Some i) e = let is = size_in F p i e in inside q.content i.content (omega (arith, past, is))

      go : (o : Option UserPart) → IfSome o (KnowsInode p.0 F p.1) → IfSome o (KnowsBlockOf p.0 F p.1 n)
      go None k = tt
      go (Some q) k = record { inode = k; part = part (at_number q.inodes.entries p.1) (get F.inodes p) refl }

  -- what is known from the end on can be cut
  module _ (small : p.1 < 2 ^ 32) where
    pub end_cuts : (size : ℕ) → size < size_at F p → KnowsEnd F f p size → HasCutAt p size f
    end_cuts size lt known = go (user_part p.0 f) refl (λ n low high. known n low high small)
      where
        inside : (q : PartContent) (c : Content) → StandsContent q c → size_of c ≡ size_at F p → ((n : ℕ) → size / 4096 ≤ n → 4096 * n < size_at F p → KnowsBlockIn n q c) → HasCutIn size q
        inside (LoadedNames t) c s e k = tt
        inside (LoadedBytes b) (Names m) s e k = absurd s
        inside (LoadedBytes b) (Bytes bs) s e k = record {
          paths = λ n low within. path n (k n low (short n within)).path (short n within);
          block = λ n low high within. (k n (omega (arith, low, high)) (omega (arith, low, lt))).there (omega (arith, low, lt, e));
        }
          where
            short : (n : ℕ) → 4096 * n < b.size → 4096 * n < size_at F p
            short n within = let is = s.size in omega (arith, is, e, within)

            path : (n : ℕ) → IsTrue (reaches number_bits n b.digests) ⊎ (length bs ≤ 4096 * n) → 4096 * n < size_at F p → IsTrue (reaches number_bits n b.digests)
            path n (inl r) within = r
            path n (inr past) within = absurd (omega (arith, past, e, within))

        part : (a : Option PartInode) (o : Option Inode) → get F.inodes p ≡ o → StandsAt a o → ((n : ℕ) → size / 4096 ≤ n → 4096 * n < size_at F p → OfLoaded (KnowsBlockIn n) a o) → IfLoaded (HasCutOf size) a
        part None o e s k = tt
        part (Some q) None e s k = absurd s
        part (Some q) (Some i) e s k = inside q.content i.content s.content (sym (size_in F p i e)) k

        go : (o : Option UserPart) → user_part p.0 f ≡ o → ((n : ℕ) → size / 4096 ≤ n → 4096 * n < size_at F p → IfSome o (KnowsBlockOf p.0 F p.1 n)) → IfSome o (HasOf p.1 (HasCutOf size))
        go None is k = tt
        go (Some q) is k =
            let stands = user_stands f F h p q is in
            record {
              inode = inode_loaded p.0 p.1 F q stands (k (size / 4096) (omega arith) (omega (arith, lt))).inode (sized_some F p size lt);
              part = part (at_number q.inodes.entries p.1) (get F.inodes p) refl (stands.inodes p.1) (λ n low high. (k n low high).part);
            }

    -- and after a file has grown its old end is known
    pub cuts_end : (size : ℕ) → HasCutAt p size f → Knows F (OfUser p.0 (AnInode p.1)) f → (n : ℕ) → 4096 * n < size → size < 4096 * (n + 1) → size < size_at F p → Knows F (OfUser p.0 (ABlock p.1 n)) f
    cuts_end size cut known n low high lt = go (user_part p.0 f) refl cut known
      where
        inside : (q : PartContent) (c : Content) → StandsContent q c → size_of c ≡ size_at F p → HasCutIn size q → KnowsBlockIn n q c
        inside (LoadedNames t) (Names m) s e k = tt
        inside (LoadedNames t) (Bytes bs) s e k = tt
        inside (LoadedBytes b) (Names m) s e k = tt
        inside (LoadedBytes b) (Bytes bs) s e k =
            let is = s.size in
            record { path = inl (k.paths n (omega (arith, low, high)) (omega (arith, is, e, low, lt))); there = λ within. k.block n low high (omega (arith, is, e, lt)) }

        part : (a : Option PartInode) (o : Option Inode) → get F.inodes p ≡ o → StandsAt a o → IfLoaded (HasCutOf size) a → OfLoaded (KnowsBlockIn n) a o
        part None None e s k = tt
        part None (Some i) e s k = tt
        part (Some q) None e s k = tt
        part (Some q) (Some i) e s k = inside q.content i.content s.content (sym (size_in F p i e)) k

        go : (o : Option UserPart) → user_part p.0 f ≡ o → IfSome o (HasOf p.1 (HasCutOf size)) → IfSome o (KnowsInode p.0 F p.1) → IfSome o (KnowsBlockOf p.0 F p.1 n)
        go None is c k = tt
        go (Some q) is c k = record { inode = k; part = part (at_number q.inodes.entries p.1) (get F.inodes p) refl ((user_stands f F h p q is).inodes p.1) c.part }

-- the kept bytes lie in the run
pub run_long : (T : Tree) (k : KeptBlocks) → HoldsBlocks T k → length k.bytes.items ≤ 4096 * (k.run.more + 1)
run_long T k held = go (bytes_of (get T.inodes k.place)) held
  where
    go : (o : Option (List ℕ)) → option_map (within (4096 * k.run.first) (4096 * (k.run.more + 1))) o ≡ Some k.bytes.items → length k.bytes.items ≤ 4096 * (k.run.more + 1)
    go None e = absurd cc
    go (Some bs) e =
        let same : within (4096 * k.run.first) (4096 * (k.run.more + 1)) bs ≡ k.bytes.items = cc in
        let long = length-take (4096 * (k.run.more + 1)) (drop (4096 * k.run.first) bs) in
        let is : length (within (4096 * k.run.first) (4096 * (k.run.more + 1)) bs) ≡ length k.bytes.items = ap length same in
        omega (arith, long, is)

-- what is known of the run can be written
pub run_writes : (F T : Tree) (f : PartForest) → Stands f F → (k : KeptBlocks) → k.place.1 < 2 ^ 32 → HoldsBlocks T k → KnowsRun F f k → 0 < length k.bytes.items → 4096 * k.run.first + length k.bytes.items ≤ size_at F k.place
    → HasAt k.place (Write (4096 * k.run.first) (length k.bytes.items)) f
run_writes F T f h k small held known some fits = go (user_part k.place.0 f) refl (λ n low high. known n (few n high) (inside_run n low high) small)
  where
    few : (n : ℕ) → 4096 * n < 4096 * k.run.first + length k.bytes.items → n < 4294967295
    few n high = let bound = small_size F k.place (meant_at f F h k.place) in omega (arith, high, fits, bound)

    inside_run : (n : ℕ) → k.run.first ≤ n → 4096 * n < 4096 * k.run.first + length k.bytes.items → in_run k.run n ≡ true
    inside_run n low high = let l = run_long T k held in let last : n ≤ k.run.first + k.run.more = omega (arith, low, high, l) in
        and_from (nat_le k.run.first n) (nat_le n (k.run.first + k.run.more)) (grind (arith, low)) (grind (arith, last))

    content : (q : PartContent) (c : Content) → StandsContent q c → size_of c ≡ size_at F k.place → ((n : ℕ) → k.run.first ≤ n → 4096 * n < 4096 * k.run.first + length k.bytes.items → KnowsBlockIn n q c)
        → HasWriteIn (4096 * k.run.first) (length k.bytes.items) q
    content (LoadedNames t) c s e w = tt
    content (LoadedBytes b) (Names m) s e w = absurd s
    content (LoadedBytes b) (Bytes bs) s e w = λ n low high.
        let is = s.size in
        let l : k.run.first ≤ n = omega (arith, low, is, e, fits) in
        let r : 4096 * n < 4096 * k.run.first + length k.bytes.items = omega (arith, high) in
        let x = w n l r in
        record { path = path n x.path (omega (arith, r, fits, e)); there = λ lt. x.there (omega (arith, lt, is)) }
      where
        path : (n : ℕ) → IsTrue (reaches number_bits n b.digests) ⊎ (length bs ≤ 4096 * n) → 4096 * n < length bs → IsTrue (reaches number_bits n b.digests)
        path n (inl r) lt = r
        path n (inr past) lt = absurd (omega (arith, past, lt))

    part : (a : Option PartInode) (o : Option Inode) → get F.inodes k.place ≡ o → StandsAt a o → ((n : ℕ) → k.run.first ≤ n → 4096 * n < 4096 * k.run.first + length k.bytes.items → OfLoaded (KnowsBlockIn n) a o)
        → IfLoaded (HasWriteOf (4096 * k.run.first) (length k.bytes.items)) a
    part None o e s w = tt
    part (Some q) None e s w = absurd s
    part (Some q) (Some i) e s w = content q.content i.content s.content (sym (size_in F k.place i e)) w

    go : (o : Option UserPart) → user_part k.place.0 f ≡ o → ((n : ℕ) → k.run.first ≤ n → 4096 * n < 4096 * k.run.first + length k.bytes.items → IfSome o (KnowsBlockOf k.place.0 F k.place.1 n))
        → IfSome o (HasWantedAt k.place.1 (Write (4096 * k.run.first) (length k.bytes.items)))
    go None is w = tt
    go (Some q) is w =
        let stands = user_stands f F h k.place q is in
        record {
          inode = inode_loaded k.place.0 k.place.1 F q stands (w k.run.first (omega arith) (omega (arith, some))).inode (sized_some F k.place (4096 * k.run.first) (omega (arith, some, fits)));
          part = part (at_number q.inodes.entries k.place.1) (get F.inodes k.place) refl (stands.inodes k.place.1) (λ n low high. (w n low high).part);
        }

-- a file that has grown is known from its old end on
pub grown_end : (F G : Tree) (f g : PartForest) → Stands f F → Stands g G → (p : Place) → Knows F (OfUser p.0 (AnInode p.1)) f → StaysKnown F G f g → HasCutAt p (size_at F p) g → size_at F p < size_at G p
    → KnowsEnd G g p (size_at F p)
grown_end F G f g hf hg p known stays cut longer n low high m = go (nat_lt (4096 * n) (size_at F p)) refl
  where
    go : (b : Bool) → nat_lt (4096 * n) (size_at F p) ≡ b → Knows G (OfUser p.0 (ABlock p.1 n)) g
    go true e = let lt = ltb-true (4096 * n) (size_at F p) e in cuts_end G g hg p m (size_at F p) cut (stays (OfUser p.0 (AnInode p.1)) known) n lt (omega (arith, low)) longer
    go false e = let past = ltb-false (4096 * n) (size_at F p) e in stays (OfUser p.0 (ABlock p.1 n)) (past_known F f hf p n past known)

pub grown_end_ok : {A E : Type 0} (r : Result A E) (F G : Tree) (f g : PartForest) → Stands f F → OnOk r (Stands g G) → (p : Place) → Knows F (OfUser p.0 (AnInode p.1)) f → OnOk r (StaysKnown F G f g) → OnOk r (HasCutAt p (size_at F p) g) → size_at F p < size_at G p
    → OnOk r (KnowsEnd G g p (size_at F p))
grown_end_ok (Ok x) F G f g hf hg p known stays cut longer = grown_end F G f g hf hg p known stays cut longer
grown_end_ok (Err e) F G f g hf hg p known stays cut longer = tt
