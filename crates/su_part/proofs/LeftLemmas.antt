-- Blocks that are left on a store and put back as they are.
use Rattle.std.proofs.Common.{◌≡◌, ◌∙◌, ℕ, ◌+◌, ◌*◌, ◌<◌, ◌≤◌, ◌^◌, Bool, true, false, cond, max, IsTrue, List, length, get_or, Option, Some, None, refl, sym, ap, subst, arith, ◌⊎◌, inl, inr, lit<}
use Rattle.std.specs.Prelude.{IsSome}
use Rattle.std.specs.BTreeMap.{is_at}
use Rattle.std.specs.FinMap.{get}
use Rattle.std.specs.Ordering.{nat_cmp}
use Rattle.std.proofs.lemmas.Bool.Decides.{nat_tests}
use Rattle.std.proofs.lemmas.List.FromFn.{get_or-map-range_with_len, length-map-range_with_len}
use Rattle.sha2.specs.Sha256.{sha256}
use Rattle.su_bytes.specs.declared.file_ids.FileId.{FileId}
use Rattle.su_tree.specs.Number.{number_bits}
use Rattle.su_hash_tree.specs.Edits.{with_value}
use Rattle.su_part_tree.specs.declared.parts.PartTree.{PartTree}
use Rattle.su_part_tree.specs.Part.{StandsFor, reaches}
use Rattle.su_node.specs.Field.{block, Field.SizeOf, field_value}
use Rattle.su_node.specs.Digest.{block_item, block_count}
use Rattle.su_node.specs.Inode.{Inode, Content, Content.Bytes, Content.Names, size_of}
use Rattle.su_node.specs.InodeChange.{InodeChange, inode_after, map_bytes, with_bytes_at}
use Rattle.su_node.proofs.Contents.{length-with_bytes_at}
use Rattle.su_table.specs.Cell.{val}
use Rattle.su_table.specs.Edit.{Edit.Inodes, edit}
use Rattle.su_table.specs.Query.{size_at, value_number}
use Rattle.su_table.specs.Tree.{Tree}
use Rattle.su_part.specs.declared.blocks.PartBytes.{PartBytes}
use Rattle.su_part.specs.declared.inodes.PartInode.{PartInode}
use Rattle.su_part.specs.declared.inodes.PartContent.{PartContent}
use Rattle.su_part.specs.declared.inodes.PartContent.TheVariants.{Bytes as LoadedBytes, Names as PartNames}
use Rattle.su_part.specs.declared.users.UserPart.{UserPart}
use Rattle.su_part.specs.Bytes.{number_sort, StandsBytes, loaded_block}
use Rattle.su_part.specs.Known.{KnowsBlockIn, KnowsInode, KnowsNameIn, Knows, OfLoaded, Want, Want.AnInode, Want.AName, Want.ABlock, number_of}
use Rattle.su_part.specs.Left.{AreDigests, AreDigestsIn, AreDigestsOf, IsLeft, IsNoneOf, IsOutside, KnowsPath, KnowsPathIn, LeavesBlocks, StaysKnownBut, StaysKnownInBut}
use Rattle.su_part.specs.Part.{MeantAt, StandsAt, StandsContent, StandsInode, StandsUser, StaysLoaded, at_number, with_written}
use Rattle.su_part.proofs.Numbers.{at_itself, same_number}
use Rattle.su_part.proofs.WriteLemmas.{Midway, mixed, mixed_digest, numbered, stepped_by}
use Rattle.su_part.proofs.InPlaceLemmas.{value_some}
use Rattle.su_part.proofs.UserLemmas.{edit_here, stays_edited}
use Rattle.su_part.proofs.Public.{inode_beside, known_beside, part_beside}

-- ---- the digests of blocks

-- as many as xs reaches into
pub digests_long : (first : ℕ) (xs bs : List ℕ) (ds : List (List ℕ)) → AreDigests first xs bs ds → length ds ≡ block_count (length xs)
digests_long first xs bs ds is = ap length is ∙ length-map-range_with_len (λ n. sha256 (block_item (block n (with_bytes_at (4096 * first) xs bs)))) first (block_count (length xs))

-- each one
pub digest_of_left : (first : ℕ) (xs bs : List ℕ) (ds : List (List ℕ)) → AreDigests first xs bs ds → (i n : ℕ) (d : List ℕ) → i < length ds → first + i ≡ n → get_or ds i d ≡ sha256 (block_item (block n (with_bytes_at (4096 * first) xs bs)))
digest_of_left first xs bs ds is i n d lt at =
    let long = digests_long first xs bs ds is in
    ap (λ es. get_or es i d) is
    ∙ get_or-map-range_with_len (λ n. sha256 (block_item (block n (with_bytes_at (4096 * first) xs bs)))) first (block_count (length xs)) i n d (omega (arith, lt, long)) at

-- one more is put
pub stepped_left : (bs new : List ℕ) (k : ℕ) (d : List ℕ) (b c : PartBytes) → Midway bs new k b → IsLeft k d b c → d ≡ sha256 (block_item (block k new)) → k < 2 ^ 32 → k < block_count (length bs) → Midway bs new (k + 1) c
stepped_left bs new k d b c m r is small lt =
    stepped_by bs new k b c m small r.size
    (subst (λ x. StandsFor number_sort c.digests (with_value number_bits k x (numbered (mixed_digest bs new k) 0 (max (block_count (length bs)) k)))) is
    (r.digests (numbered (mixed_digest bs new k) 0 (max (block_count (length bs)) k)) m.digests (value_some (mixed bs new k) (max (block_count (length bs)) k) b.digests m.digests k small (omega (arith, lt)))))
    None tt r.blocks

-- none is put yet
pub leaves_none : (first : ℕ) (b : PartBytes) → LeavesBlocks first first b b
leaves_none first b = record { paths = λ n h. h; left = λ n low high. absurd (omega (arith, low, high)); others = λ n outside. refl }

pub leaves_more : (first k : ℕ) (d : List ℕ) (b c e : PartBytes) → first ≤ k → LeavesBlocks first k b c → IsLeft k d c e → ((n : ℕ) → IsTrue (reaches number_bits n c.digests) → IsTrue (reaches number_bits n e.digests)) → LeavesBlocks first (k + 1) b e
leaves_more first k d b c e le l r paths = record {
  paths = λ n h. paths n (l.paths n h);
  left = λ n low high. r.blocks n ∙ gone n low high (is_at (nat_cmp k) n) refl;
  others = λ n outside. r.blocks n ∙ ap (λ t. cond t None (loaded_block c n)) (apart n outside) ∙ l.others n (before n outside);
}
  where
    gone : (n : ℕ) → first ≤ n → n < k + 1 → (t : Bool) → is_at (nat_cmp k) n ≡ t → cond t None (loaded_block c n) ≡ None
    gone n low high true at = refl
    gone n low high false at = l.left n low (grind (arith, nat_tests, at, high))

    before : (n : ℕ) → IsOutside first (k + 1) n → IsOutside first k n
    before n (inl lt) = inl lt
    before n (inr past) = inr (omega (arith, past))

    apart : (n : ℕ) → IsOutside first (k + 1) n → is_at (nat_cmp k) n ≡ false
    apart n (inl lt) = let below : n < k = omega (arith, lt, le) in grind (arith, nat_tests, below)
    apart n (inr past) = grind (arith, nat_tests, past)

-- ---- of an inode

module _ (first : ℕ) (xs : List ℕ) where
  content_left : (ds : List (List ℕ)) (c : Content) (b b' : PartBytes)
      → ((bs : List ℕ) → StandsBytes b bs → 4096 * first + length xs ≤ length bs → AreDigests first xs bs ds → StandsBytes b' (with_bytes_at (4096 * first) xs bs))
      → StandsContent (LoadedBytes b) c → 4096 * first + length xs ≤ size_of c → AreDigestsIn first xs c ds → StandsContent (LoadedBytes b') (map_bytes (with_bytes_at (4096 * first) xs) c)
  content_left ds (Bytes bs) b b' new h le is = new bs h le is
  content_left ds (Names m) b b' new h le is = absurd h

  -- a file
  pub bytes_left : (ds : List (List ℕ)) (p : PartInode) (i : Inode) → StandsInode p i → (b : PartBytes) → p.content ≡ LoadedBytes b → (b' : PartBytes)
      → ((bs : List ℕ) → StandsBytes b bs → 4096 * first + length xs ≤ length bs → AreDigests first xs bs ds → StandsBytes b' (with_bytes_at (4096 * first) xs bs))
      → 4096 * first + length xs ≤ size_of i.content → AreDigestsIn first xs i.content ds → StandsInode (record { home = p.home; links = p.links; content = LoadedBytes b' }) (with_written (4096 * first) xs i)
  bytes_left ds p i h b at b' new le is = record {
    home = h.home;
    links = h.links;
    content = content_left ds i.content b b' new (subst (λ c. StandsContent c i.content) at h.content) le is;
  }

  content_known : (end_ : ℕ) (c : Content) (b b' : PartBytes) → LeavesBlocks first end_ b b' → StandsContent (LoadedBytes b) c → 4096 * first + length xs ≤ size_of c
      → StaysKnownInBut first end_ (LoadedBytes b) c (LoadedBytes b') (map_bytes (with_bytes_at (4096 * first) xs) c)
  content_known end_ (Bytes bs) b b' l h le = record {
    names = λ x is w. tt;
    blocks = λ k outside w. record { path = path k w.path; there = λ lt. subst IsSome (sym (l.others k outside)) (w.there (omega (arith, lt, long))) };
    paths = λ k w. path k w;
  }
    where
      long : length (with_bytes_at (4096 * first) xs bs) ≡ length bs
      long = length-with_bytes_at (4096 * first) xs bs ∙ omega (arith, le)

      path : (k : ℕ) → IsTrue (reaches number_bits k b.digests) ⊎ (length bs ≤ 4096 * k) → IsTrue (reaches number_bits k b'.digests) ⊎ (length (with_bytes_at (4096 * first) xs bs) ≤ 4096 * k)
      path k (inl r) = inl (l.paths k r)
      path k (inr past) = inr (omega (arith, past, long))
  content_known end_ (Names m) b b' l h le = absurd h

  pub bytes_known_but : (end_ : ℕ) (p : PartInode) (i : Inode) → StandsInode p i → (b : PartBytes) → p.content ≡ LoadedBytes b → (b' : PartBytes) → LeavesBlocks first end_ b b' → 4096 * first + length xs ≤ size_of i.content
      → StaysKnownInBut first end_ p.content i.content (LoadedBytes b') (map_bytes (with_bytes_at (4096 * first) xs) i.content)
  bytes_known_but end_ p i h b at b' l le =
      subst (λ c. StaysKnownInBut first end_ c i.content (LoadedBytes b') (map_bytes (with_bytes_at (4096 * first) xs) i.content)) (sym at)
      (content_known end_ i.content b b' l (subst (λ c. StandsContent c i.content) at h.content) le)

  -- a directory
  no_blocks : (c : Content) (t : PartTree (List ℕ) FileId) → StandsContent (PartNames t) c → StandsContent (PartNames t) (map_bytes (with_bytes_at (4096 * first) xs) c)
  no_blocks (Bytes bs) t h = absurd h
  no_blocks (Names m) t h = h

  pub names_left : (p : PartInode) (i : Inode) → StandsInode p i → (t : PartTree (List ℕ) FileId) → p.content ≡ PartNames t → StandsInode p (with_written (4096 * first) xs i)
  names_left p i h t at = record {
    home = h.home;
    links = h.links;
    content = subst (λ c. StandsContent c (map_bytes (with_bytes_at (4096 * first) xs) i.content)) (sym at) (no_blocks i.content t (subst (λ c. StandsContent c i.content) at h.content));
  }

  no_blocks_known : (end_ : ℕ) (c : Content) (t : PartTree (List ℕ) FileId) → StandsContent (PartNames t) c → StaysKnownInBut first end_ (PartNames t) c (PartNames t) (map_bytes (with_bytes_at (4096 * first) xs) c)
  no_blocks_known end_ (Bytes bs) t h = absurd h
  no_blocks_known end_ (Names m) t h = record { names = λ x is w. w; blocks = λ k outside w. w; paths = λ k w. w }

  pub names_known_but : (end_ : ℕ) (p : PartInode) (i : Inode) → StandsInode p i → (t : PartTree (List ℕ) FileId) → p.content ≡ PartNames t
      → StaysKnownInBut first end_ p.content i.content p.content (map_bytes (with_bytes_at (4096 * first) xs) i.content)
  names_known_but end_ p i h t at =
      subst (λ c. StaysKnownInBut first end_ c i.content c (map_bytes (with_bytes_at (4096 * first) xs) i.content)) (sym at) (no_blocks_known end_ i.content t (subst (λ c. StandsContent c i.content) at h.content))

-- ---- of a user's part

-- a file that is meant is small
pub size_small : (T : Tree) (u n : ℕ) → MeantAt (get T.inodes (u, n)) → size_at T (u, n) < 2 ^ 32
unfolding val
size_small T u n meant = go (get T.inodes (u, n)) meant
  where
    go : (o : Option Inode) → MeantAt o → value_number (field_value o SizeOf) < 2 ^ 32
    go None m = lit< tt
    go (Some i) m = m.size

-- the digests of an inode that stands there
pub digests_there : (first : ℕ) (xs : List ℕ) (ds : List (List ℕ)) (o : Option Inode) (k : Inode) → o ≡ Some k → AreDigestsOf first xs o ds → AreDigestsIn first xs k.content ds
digests_there first xs ds o k at is = subst (λ y. AreDigestsOf first xs y ds) at is

-- an inode that is loaded is changed, of which some blocks are known no more
module _ (ch : InodeChange) (after : Inode → Inode) (here : (i : Inode) → inode_after ch (Some i) ≡ Some (after i)) where
  pub known_but : (u n first end_ : ℕ) (T : Tree) (p q : UserPart) (i j : PartInode) → StandsUser u p T → Some i ≡ at_number p.inodes.entries n
      → ((m : ℕ) → IsTrue (reaches number_bits m p.table) → IsTrue (reaches number_bits m q.table))
      → ((k : ℕ) → at_number q.inodes.entries k ≡ cond (is_at (nat_cmp n) k) (Some j) (at_number p.inodes.entries k))
      → ((k : Inode) → get T.inodes (u, n) ≡ Some k → StandsInode i k → StaysKnownInBut first end_ i.content k.content j.content (after k).content)
      → StaysKnownBut u n first end_ T (edit T (Inodes (u, n) ch)) p q
  known_but u n first end_ T p q i j h found keeps updates stay = go (get T.inodes (u, n)) refl (subst (λ y. StandsAt y (get T.inodes (u, n))) (sym found) (h.inodes n))
    where
      V : Tree
      V = edit T (Inodes (u, n) ch)

      stays : StaysLoaded n p q
      stays = stays_edited n p q j keeps updates

      now : at_number q.inodes.entries n ≡ Some j
      now = updates n ∙ ap (λ t. cond t (Some j) (at_number p.inodes.entries n)) (at_itself n)

      go : (o : Option Inode) → get T.inodes (u, n) ≡ o → StandsAt (Some i) o → StaysKnownBut u n first end_ T V p q
      go None at stands = absurd stands
      go (Some k) at stands = record { known = λ w none. known w none; paths = λ m b w. path m b w (is_at (nat_cmp n) m) refl }
        where
          rest : StaysKnownInBut first end_ i.content k.content j.content (after k).content
          rest = stay k at stands

          of_inode : KnowsInode u T n p → KnowsInode u V n q
          of_inode w = record { number = w.number; path = elim w.path [ inl r ↦ inl (keeps n r) | inr none ↦ absurd (let z : Some k ≡ None = sym at ∙ none in cc) ]; there = λ some. subst IsSome (sym now) refl }

          of_part : (P : PartContent → Content → Type 0) → (P i.content k.content → P j.content (after k).content)
              → OfLoaded P (at_number p.inodes.entries n) (get T.inodes (u, n)) → OfLoaded P (at_number q.inodes.entries n) (get V.inodes (u, n))
          of_part P f w =
              subst (λ o. OfLoaded P o (get V.inodes (u, n))) (sym now)
              (subst (OfLoaded P (Some j)) (sym (edit_here T u n ch ∙ ap (inode_after ch) at ∙ here k))
              (f (subst (λ o. OfLoaded P o (Some k)) (sym found) (subst (OfLoaded P (at_number p.inodes.entries n)) at w))))

          known_here : (w : Want) → n ≡ number_of w → IsNoneOf n first end_ w → Knows u T w p → Knows u V w q
          known_here (AnInode m) same none w = subst (λ y. KnowsInode u V y q) same (of_inode (subst (λ y. KnowsInode u T y p) (sym same) w))
          known_here (AName m x) same none w =
              subst (λ y. Knows u V (AName y x) q) same (named (subst (λ y. Knows u T (AName y x) p) (sym same) w))
            where
              named : Knows u T (AName n x) p → Knows u V (AName n x) q
              named v = record { name = v.name; inode = of_inode v.inode; part = of_part (KnowsNameIn x) (rest.names x v.name) v.part }
          known_here (ABlock m b) same none w =
              subst (λ y. Knows u V (ABlock y b) q) same (blocked (subst (λ y. Knows u T (ABlock y b) p) (sym same) w))
            where
              blocked : Knows u T (ABlock n b) p → Knows u V (ABlock n b) q
              blocked v = record { inode = of_inode v.inode; part = of_part (KnowsBlockIn b) (rest.blocks b (none (sym same))) v.part }

          known : (w : Want) → IsNoneOf n first end_ w → Knows u T w p → Knows u V w q
          known w none v = choose (is_at (nat_cmp n) (number_of w)) refl
            where
              choose : (t : Bool) → is_at (nat_cmp n) (number_of w) ≡ t → Knows u V w q
              choose true e = known_here w (same_number n (number_of w) e) none v
              choose false e = known_beside u T n ch p q stays w e v

          path : (m b : ℕ) → KnowsPath u T m b p → (t : Bool) → is_at (nat_cmp n) m ≡ t → KnowsPath u V m b q
          path m b w true e =
              let same : n ≡ m = same_number n m e in
              subst (λ y. KnowsPath u V y b q) same (pathed (subst (λ y. KnowsPath u T y b p) (sym same) w))
            where
              pathed : KnowsPath u T n b p → KnowsPath u V n b q
              pathed v = record { inode = of_inode v.inode; part = of_part (KnowsPathIn b) (rest.paths b) v.part }
          path m b w false e = record { inode = inode_beside u T n ch p q stays m e w.inode; part = part_beside u T n ch p q stays (KnowsPathIn b) m e w.part }

-- where nothing is done
pub but_itself : (u n first end_ : ℕ) (T : Tree) (p : UserPart) → StaysKnownBut u n first end_ T T p p
but_itself u n first end_ T p = record { known = λ w none v. v; paths = λ m k v. v }
