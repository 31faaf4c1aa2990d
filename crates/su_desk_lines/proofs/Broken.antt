-- Lines taken part by part are the lines of the whole.
use Rattle.std.proofs.Common.{◌≡◌, ◌∙◌, sym, refl, ap, ℕ, ◌<◌, Bool, true, false, not, cond, ◌&&◌, List, [], ◌∷◌, ◌++◌, length, append_assoc, append-nil, length-append, nat_eq, Option, Some, None, arith}
use Rattle.std.specs.List.{onto_first}
use Rattle.std.specs.Bool.{OnFalse}
use Rattle.std.proofs.lemmas.Bool.Decides.{nat_tests}
use Rattle.std.specs.Global.{Vec}
use Rattle.std.specs.Io.KnownBytes.{prepend_known}
use Rattle.std.proofs.lemmas.List.Folds.{list_all-append}
use Rattle.su_desk_lines.specs.declared.lines.NextLine.{NextLine}
use Rattle.su_desk_lines.specs.declared.lines.NextLine.TheVariants.{Line, TooLong}
use Rattle.su_desk_lines.specs.Script.{lines_of, longest_line}
use Rattle.su_desk_lines.specs.Lines.{is_unbroken, Takes, Refills, Reads, ReadsOf, Partly}

both : (a b : Bool) → (a && b) ≡ true → (a ≡ true) × (b ≡ true)
both true b e = (refl, e)
both false b e = absurd (let bad : false ≡ true = e in cc)

not_end : (b : ℕ) → not (nat_eq b 10) ≡ true → nat_eq b 10 ≡ false
not_end b e = go (nat_eq b 10) e
  where
    go : (t : Bool) → not t ≡ true → t ≡ false
    go true e = absurd (let bad : false ≡ true = e in cc)
    go false e = refl

-- an unbroken part, the end of a line, and the rest
pub lines_of-ended : (line rest : List ℕ) → is_unbroken line ≡ true → lines_of (line ++ 10 ∷ rest) ≡ line ∷ lines_of rest
lines_of-ended [] rest u = refl
lines_of-ended (b ∷ bs) rest u =
    let (here, later) = both (not (nat_eq b 10)) (is_unbroken bs) u in
    ap (λ t. cond t ([] ∷ lines_of (bs ++ 10 ∷ rest)) (onto_first b (lines_of (bs ++ 10 ∷ rest)))) (not_end b here) ∙ ap (onto_first b) (lines_of-ended bs rest later)

-- an unbroken part begins the first line
pub record Begins (line rest : List ℕ) : Type 0 where
  pub more : List ℕ
  pub lines : List (List ℕ)
  pub is : lines_of (line ++ rest) ≡ (line ++ more) ∷ lines

pub begins : (b : ℕ) (bs rest : List ℕ) → is_unbroken (b ∷ bs) ≡ true → Begins (b ∷ bs) rest
begins b [] rest u =
    let (here, later) = both (not (nat_eq b 10)) true u in
    let step = ap (λ t. cond t ([] ∷ lines_of rest) (onto_first b (lines_of rest))) (not_end b here) in
    go (lines_of rest) step
  where
    go : (ls : List (List ℕ)) → lines_of (b ∷ rest) ≡ onto_first b ls → Begins (b ∷ []) rest
    go [] e = record { more = []; lines = []; is = e }
    go (l ∷ ls) e = record { more = l; lines = ls; is = e }
begins b (c ∷ bs) rest u =
    let (here, later) = both (not (nat_eq b 10)) (is_unbroken (c ∷ bs)) u in
    let r = begins c bs rest later in
    record {
      more = r.more;
      lines = r.lines;
      is = ap (λ t. cond t ([] ∷ lines_of (c ∷ bs ++ rest)) (onto_first b (lines_of (c ∷ bs ++ rest)))) (not_end b here) ∙ ap (onto_first b) r.is;
    }

pub lines_of-last : (b : ℕ) (bs : List ℕ) → is_unbroken (b ∷ bs) ≡ true → lines_of (b ∷ bs) ≡ (b ∷ bs) ∷ []
lines_of-last b [] u = let (here, later) = both (not (nat_eq b 10)) true u in ap (λ t. cond t ([] ∷ []) (onto_first b [])) (not_end b here)
lines_of-last b (c ∷ bs) u =
    let (here, later) = both (not (nat_eq b 10)) (is_unbroken (c ∷ bs)) u in
    ap (λ t. cond t ([] ∷ lines_of (c ∷ bs)) (onto_first b (lines_of (c ∷ bs)))) (not_end b here) ∙ ap (onto_first b) (lines_of-last c bs later)

-- after a part was taken: the line, and its end where it was met, and the rest
abbrev pub After : Bool → List ℕ → Option (List ℕ) → Option (List ℕ) → Type 0
After ended line None new = Unit {0}
After true line (Some input) new = (is_unbroken line ≡ true) × (rest : List ℕ) × (new ≡ Some rest) × (input ≡ line ++ 10 ∷ rest)
After false line (Some input) new = (is_unbroken line ≡ true) × (rest : List ℕ) × (new ≡ Some rest) × (input ≡ line ++ rest)

pub after_taken : (known left_known : Option (List ℕ)) (ended : Bool) (line grown ready left : List ℕ) → Partly line known (prepend_known ready left_known) → Takes ended line grown ready left → After ended grown known (prepend_known left left_known)
after_taken None left_known ended line grown ready left p t = tt
after_taken (Some input) None ended line grown ready left (u, rest, is, whole) t = absurd (let bad : None ≡ Some rest = is in cc)
after_taken (Some input) (Some xs) true line grown ready left (u, rest, is, whole) (part, pu, g, r) =
    let same : ready ++ xs ≡ rest = cc in (
      ap is_unbroken g ∙ list_all-append _ line part ∙ ap (λ b. b && is_unbroken part) u ∙ pu,
      left ++ xs,
      refl,
      whole ∙ ap (λ z. line ++ z) (sym same ∙ ap (λ z. z ++ xs) r ∙ append_assoc part (10 ∷ left) xs) ∙ sym (append_assoc line part (10 ∷ (left ++ xs))) ∙ ap (λ z. z ++ 10 ∷ (left ++ xs)) (sym g),
    )
after_taken (Some input) (Some xs) false line grown ready left (u, rest, is, whole) (ru, g, l) =
    let same : ready ++ xs ≡ rest = cc in (
      ap is_unbroken g ∙ list_all-append _ line ready ∙ ap (λ b. b && is_unbroken ready) u ∙ ru,
      xs,
      ap (λ z. Some (z ++ xs)) l,
      whole ∙ ap (λ z. line ++ z) (sym same) ∙ sym (append_assoc line ready xs) ∙ ap (λ z. z ++ xs) (sym g),
    )

pub reads_too_long : (ended : Bool) (line : List ℕ) (known new : Option (List ℕ)) → After ended line known new → longest_line < length line → Reads TooLong known new
reads_too_long ended line None new a long = tt
reads_too_long true [] (Some input) new a long = absurd (omega arith)
reads_too_long true (b ∷ bs) (Some input) new (u, rest, is, whole) long = (b ∷ bs, lines_of rest, ap lines_of whole ∙ lines_of-ended (b ∷ bs) rest u, long)
reads_too_long false [] (Some input) new a long = absurd (omega arith)
reads_too_long false (b ∷ bs) (Some input) new (u, rest, is, whole) long =
    let r = begins b bs rest u in
    (b ∷ bs ++ r.more, r.lines, ap lines_of whole ∙ r.is, (let more = length-append (b ∷ bs) r.more in omega arith))

-- what is read of known bytes
pub reads_by : (next : NextLine) (known new : Option (List ℕ)) → ((input : List ℕ) → known ≡ Some input → ReadsOf next input new) → Reads next known new
reads_by next None new f = tt
reads_by next (Some input) new f = f input refl

-- a line that ended
pub record Ended (line input : List ℕ) (new : Option (List ℕ)) : Type 0 where
  pub rest : List ℕ
  pub left : new ≡ Some rest
  pub is : lines_of input ≡ line ∷ lines_of rest

pub ended_line : (ended : Bool) (line : List ℕ) (known new : Option (List ℕ)) (input : List ℕ) → After ended line known new → ended ≡ true → known ≡ Some input → Ended line input new
ended_line false line known new input a e k = absurd (let bad : false ≡ true = e in cc)
ended_line true line None new input a e k = absurd (let bad : None ≡ Some input = k in cc)
ended_line true line (Some bytes) new input (u, rest, left, whole) e k =
    let same : bytes ≡ input = cc in
    record { rest = rest; left = left; is = ap lines_of (sym same ∙ whole) ∙ lines_of-ended line rest u }

-- a last line, of which no more comes
pub record Last (line input : List ℕ) (new : Option (List ℕ)) : Type 0 where
  pub left : new ≡ Some []
  pub is : input ≡ line
  pub unbroken : is_unbroken line ≡ true

pub last_line : (ended more : Bool) (line ready : List ℕ) (known read new : Option (List ℕ)) (input : List ℕ) → After ended line known (prepend_known ready read) → ended ≡ false → ready ≡ [] → Refills more read new → more ≡ false → known ≡ Some input → Last line input new
last_line true more line ready known read new input a e r f m k = absurd (let bad : true ≡ false = e in cc)
last_line false true line ready known read new input a e r f m k = absurd (let bad : true ≡ false = m in cc)
last_line false false line ready None read new input a e r f m k = absurd (let bad : None ≡ Some input = k in cc)
last_line false false line ready (Some bytes) None new input (u, rest, left, whole) e r f m k = absurd (let bad : None ≡ Some rest = left in cc)
last_line false false line ready (Some bytes) (Some xs) new input (u, rest, left, whole) e r (filled, none) m k =
    let same : bytes ≡ input = cc in
    let all : ready ++ xs ≡ rest = cc in
    let nothing : rest ≡ [] = sym all ∙ ap (λ z. z ++ xs) r ∙ none in
    record { left = filled ∙ ap Some none; is = sym same ∙ whole ∙ ap (λ z. line ++ z) nothing ∙ append-nil line; unbroken = u }

pub lines_of-whole : (line : List ℕ) → is_unbroken line ≡ true → (line ≡ [] → ⊥) → lines_of line ≡ line ∷ []
lines_of-whole [] u n = absurd (n refl)
lines_of-whole (b ∷ bs) u n = lines_of-last b bs u

pub reads_ended : (line : Vec ℕ) (ended : Bool) (known new : Option (List ℕ)) → After ended line.items known new → ended ≡ true → Reads (Line line) known new
reads_ended line ended known new a e = reads_by (Line line) known new (λ input k. let r = ended_line ended line.items known new input a e k in (r.rest, r.left, r.is))

pub reads_last : (line : Vec ℕ) (ended more : Bool) (ready : List ℕ) (known read new : Option (List ℕ)) → After ended line.items known (prepend_known ready read) → ended ≡ false → ready ≡ [] → Refills more read new → more ≡ false → (line.items ≡ [] → ⊥) → Reads (Line line) known new
reads_last line ended more ready known read new a e r f m n =
    reads_by (Line line) known new (λ input k. let l = last_line ended more line.items ready known read new input a e r f m k in ([], l.left, ap lines_of l.is ∙ lines_of-whole line.items l.unbroken n))

pub on_false : (b : Bool) (P : Type 0) → OnFalse b P → b ≡ false → P
on_false true P h e = absurd (let bad : true ≡ false = e in cc)
on_false false P h e = h

-- a vector that is not empty has items
pub has_items : (items : List ℕ) (len : ℕ) (empty : Bool) → len ≡ length items → empty ≡ nat_eq len 0 → empty ≡ false → items ≡ [] → ⊥
has_items items len empty l t e none = let zero_len : length items ≡ 0 = ap length none in grind (arith, nat_tests)
