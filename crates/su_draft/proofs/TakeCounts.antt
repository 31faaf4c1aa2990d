-- A draft takes what it must, and counts its numbers through, step by step.
use Rattle.std.proofs.Common.{◌≡◌, ℕ, ◌+◌, Bool, true, false, cond, not, ◌&&◌, ◌||◌, List, [], ◌∷◌, ◌++◌, Option, Some, None, Result, Ok, Err, refl, sym, ap, subst, ◌∙◌, arith}
use Rattle.std.specs.Prelude.{count_by, IfOk}
use Rattle.std.specs.List.{list_any}
use Rattle.std.proofs.lemmas.Bool.{false≢true}
use Rattle.std.proofs.lemmas.List.Folds.{list_any-append}
use Rattle.std.proofs.lemmas.List.Sums.{sum_by-append}
use Rattle.su_bytes.specs.declared.file_ids.FileId.{FileId}
use Rattle.su_bytes.specs.declared.file_ids.FileId.TheVariants.{User, Group}
use Rattle.su_bytes.specs.declared.refusals.Refusal.{Refusal}
use Rattle.su_bytes.specs.declared.refusals.Refusal.TheVariants.{BadNumber}
use Rattle.std.specs.Option.{ok_or, unwrap_or}
use Rattle.su_bytes.specs.Place.{Place, file_eq}
use Rattle.su_table.specs.Tree.{Tree}
use Rattle.su_op.specs.declared.operations.Op.{Op}
use Rattle.su_op.specs.declared.operations.Op.TheVariants.{Take}
use Rattle.su_op.proofs.Public.{place_eq-same}
use Rattle.su_draft.specs.Refusable.{◌>>=◌}
use Rattle.su_draft.specs.Draft.{DraftState, empty_draft, with_operation, takes, needs_take, taken_at, next_body, taken, with_take}
use Rattle.su_draft.proofs.Spelling.{and_both, not_true}
use Rattle.su_draft.specs.Number.{free_body, least_free}
use Rattle.su_table.specs.Query.{is_free_at}
use Rattle.su_table.specs.Free.{IsLeastFree}
use Rattle.su_draft.specs.Counting.{number_used, IsNext, CountUp}
use Rattle.su_draft.proofs.LeastFree.{least_free-least}
use Rattle.su_draft.specs.Taking.{writes_to, is_held_by_others, TakesWhatItMust}

-- ---- file ids

file_eq-same : (f g : FileId) → file_eq f g ≡ true → f ≡ g
file_eq-same (User u i) (User v j) e = ap (λ (p : Place). User p.0 p.1) (place_eq-same (u, i) (v, j) e)
file_eq-same (Group g k) (Group h l) e = ap (λ (p : Place). Group p.0 p.1) (place_eq-same (g, k) (h, l) e)
file_eq-same (User u i) (Group h l) e = absurd cc
file_eq-same (Group g k) (User v j) e = absurd cc

-- ---- counts

abbrev one : Bool → ℕ
one b = cond b 1 0

count_by-last : (p : Op → Bool) (ops : List Op) (op : Op) → count_by p (ops ++ op ∷ []) ≡ count_by p ops + one (p op)
count_by-last p ops op = sum_by-append (λ x. cond (p x) 1 0) ops (op ∷ []) ∙ omega arith

count_by-first : (p : Op → Bool) (op : Op) (ops : List Op) → count_by p (op ∷ ops) ≡ one (p op) + count_by p ops
count_by-first p op ops = sum_by-append (λ x. cond (p x) 1 0) (op ∷ []) ops ∙ omega arith

list_any-last : {X : Type 0} (p : X → Bool) (xs : List X) (x : X) → list_any p (xs ++ x ∷ []) ≡ (list_any p xs || p x)
list_any-last p xs x = list_any-append p xs (x ∷ []) ∙ or_end (list_any p xs) (p x)
  where
    or_end : (b c : Bool) → (b || (c || false)) ≡ (b || c)
    or_end true c = refl
    or_end false true = refl
    or_end false false = refl

neither : (b c : Bool) → (b || c) ≡ false → (b ≡ false) × (c ≡ false)
neither true c h = absurd cc
neither false c h = (refl, h)

none_counted : (b : Bool) → one b ≡ 0 → b ≡ false
none_counted true h = absurd (omega (arith, h))
none_counted false h = refl

both_zero : (m n : ℕ) → m + n ≡ 0 → (m ≡ 0) × (n ≡ 0)
both_zero m n h = (omega (arith, h), omega (arith, h))

uncounted : (p : Op → Bool) (ops : List Op) → list_any p ops ≡ false → count_by p ops ≡ 0
uncounted p [] h = refl
uncounted p (op ∷ ops) h =
    let k = neither (p op) (list_any p ops) h in
    let first : one (p op) ≡ 0 = ap one k.0 in
    let rest = uncounted p ops k.1 in
    count_by-first p op ops ∙ omega (arith, first, rest)

unlisted : (p : Op → Bool) (ops : List Op) → count_by p ops ≡ 0 → list_any p ops ≡ false
unlisted p [] h = refl
unlisted p (op ∷ ops) h =
    let k = both_zero (one (p op)) (count_by p ops) (sym (count_by-first p op ops) ∙ h) in
    let first = k.0 in
    let rest = k.1 in
    ap (λ b. b || list_any p ops) (none_counted (p op) first) ∙ unlisted p ops rest

-- ---- numbers

-- the last number that is used
abbrev last_used : ℕ → List Op → ℕ
last_used used [] = used
last_used used (op ∷ ops) = last_used (unwrap_or (number_used op) used) ops

last_used-last : (used : ℕ) (ops : List Op) (op : Op) → last_used used (ops ++ op ∷ []) ≡ unwrap_or (number_used op) (last_used used ops)
last_used-last used [] op = refl
last_used-last used (o ∷ ops) op = last_used-last (unwrap_or (number_used o) used) ops op

counts_last : (T : Tree) (a used : ℕ) (ops : List Op) (op : Op) → CountUp T a used ops → IsNext T a (last_used used ops) (number_used op) → CountUp T a used (ops ++ op ∷ [])
counts_last T a used [] op k h = (h, tt)
counts_last T a used (o ∷ ops) op k h = (k.0, counts_last T a (unwrap_or (number_used o) used) ops op k.1 h)

found_some : (o : Option ℕ) (e : Refusal) (n : ℕ) → ok_or o e ≡ Ok n → o ≡ Some n
found_some None e n h = absurd cc
found_some (Some m) e n h = cc

-- the next number is the least free one above those that are used
pub next_least : (T : Tree) (d : DraftState) (n : ℕ) → next_body T d ≡ Ok n → IsNext T d.author d.used (Some n)
unfolding next_body free_body
next_least T d n h =
    let free : ℕ → Bool = λ i. is_free_at T (d.author, i) in
    subst (IsLeastFree free (d.used + 1)) (found_some (least_free free (d.used + 1)) BadNumber n h) (least_free-least free (d.used + 1) (omega arith))

-- ---- drafts

-- one of these is the file
abbrev has_file : List FileId → FileId → Bool
has_file files f = list_any (λ g. file_eq g f) files

-- a draft by user a that looked at these files, and whose operations write so
pub record Fair (T : Tree) (a : ℕ) (files : List FileId) (written : FileId → Bool) (d : DraftState) : Type 0 where
  pub author : d.author ≡ a
  pub counted : (f : FileId) → count_by (takes f) d.operations ≡ one (has_file files f && is_held_by_others T a f)
  pub writes : (f : FileId) → list_any (writes_to f) d.operations ≡ written f
  pub numbers : CountUp T a 0 d.operations
  pub last : last_used 0 d.operations ≡ d.used

pub fair_empty : (T : Tree) (a : ℕ) → Fair T a [] (λ f. false) (empty_draft a)
fair_empty T a = record { author = refl; counted = λ f. refl; writes = λ f. refl; numbers = tt; last = refl }

-- an operation that is no take
pub fair_more : (T : Tree) (a : ℕ) (files : List FileId) (written : FileId → Bool) (d : DraftState) (op : Op) → ((f : FileId) → takes f op ≡ false) → number_used op ≡ None
    → Fair T a files written d → Fair T a files (λ f. written f || writes_to f op) (with_operation d op)
fair_more T a files written d op h none k = record {
  author = k.author;
  counted = λ f. count_by-last (takes f) d.operations op ∙ (let c = k.counted f in let z : one (takes f op) ≡ 0 = ap one (h f) in omega arith);
  writes = λ f. list_any-last (writes_to f) d.operations op ∙ ap (λ b. b || writes_to f op) (k.writes f);
  numbers = counts_last T a 0 d.operations op k.numbers (subst (IsNext T a (last_used 0 d.operations)) (sym none) tt);
  last = last_used-last 0 d.operations op ∙ ap (λ (o : Option ℕ). unwrap_or o (last_used 0 d.operations)) none ∙ k.last;
}

-- what holds of the operations in the end
abbrev pub IsFair : Tree → ℕ → List Op → Type 0
IsFair T a ops = TakesWhatItMust T a ops × CountUp T a 0 ops

-- with the last operation all that is written was looked at
pub fair_end : (T : Tree) (a : ℕ) (files : List FileId) (written : FileId → Bool) (d : DraftState) (op : Op) → ((f : FileId) → takes f op ≡ false) → IsNext T d.author d.used (number_used op)
    → Fair T a files written d → ((f : FileId) → has_file files f ≡ (written f || writes_to f op)) → IsFair T a (with_operation d op).operations
fair_end T a files written d op h next k all = (
  λ f. count_by-last (takes f) d.operations op
      ∙ (let c = k.counted f in let z : one (takes f op) ≡ 0 = ap one (h f) in omega (arith, c, z))
      ∙ ap (λ b. one (b && is_held_by_others T a f)) (all f ∙ ap (λ b. b || writes_to f op) (sym (k.writes f)) ∙ sym (list_any-last (writes_to f) d.operations op)),
  counts_last T a 0 d.operations op k.numbers (subst (λ (u : ℕ). IsNext T a u (number_used op)) (sym k.last) (subst (λ (n : ℕ). IsNext T n d.used (number_used op)) k.author next)),
)

-- operations that write and take no file
pub fair_none : (T : Tree) (a : ℕ) (ops : List Op) → ((f : FileId) → list_any (takes f) ops ≡ false) → ((f : FileId) → list_any (writes_to f) ops ≡ false) → CountUp T a 0 ops → IsFair T a ops
fair_none T a ops untaken unwritten numbers = (
  λ f. uncounted (takes f) ops (untaken f) ∙ ap (λ b. one (b && is_held_by_others T a f)) (sym (unwritten f)),
  numbers,
)

-- ---- a take, where one is needed

or_true : (b : Bool) → (b || true) ≡ true
or_true true = refl
or_true false = refl

pub or_false : (b : Bool) → (b || false) ≡ b
or_false true = refl
or_false false = refl

and_false : (b : Bool) → (b && false) ≡ false
and_false true = refl
and_false false = refl

needed : (T : Tree) (d : DraftState) (g : FileId) → needs_take T d g ≡ true → (is_held_by_others T d.author g ≡ true) × (list_any (takes g) d.operations ≡ false)
unfolding needs_take
needed T d g h =
    let k = and_both (is_held_by_others T d.author g) (not (list_any (takes g) d.operations)) h in
    (k.0, not_true (list_any (takes g) d.operations) k.1)

not_needed : (h l : Bool) → (h && not l) ≡ false → h ≡ true → l ≡ true
not_needed true true e k = refl
not_needed true false e k = absurd cc
not_needed false l e k = absurd cc

there_already : (T : Tree) (d : DraftState) (g : FileId) → needs_take T d g ≡ false → is_held_by_others T d.author g ≡ true → list_any (takes g) d.operations ≡ true
unfolding needs_take
there_already T d g h k = not_needed (is_held_by_others T d.author g) (list_any (takes g) d.operations) h k

-- with the take
counted_taken : (T : Tree) (a : ℕ) (files : List FileId) (written : FileId → Bool) (d : DraftState) (g f : FileId) → needs_take T d g ≡ true → Fair T a files written d
    → (b : Bool) → file_eq g f ≡ b → count_by (takes f) d.operations + one b ≡ one ((has_file files f || b) && is_held_by_others T a f)
counted_taken T a files written d g f h k true e =
    let need = needed T d g h in
    let same : g ≡ f = file_eq-same g f e in
    let none : count_by (takes f) d.operations ≡ 0 = uncounted (takes f) d.operations (ap (λ x. list_any (takes x) d.operations) (sym same) ∙ need.1) in
    let held : is_held_by_others T a f ≡ true = ap (λ n. is_held_by_others T n f) (sym k.author) ∙ ap (is_held_by_others T d.author) (sym same) ∙ need.0 in
    rw (none, held, or_true (has_file files f)) refl
counted_taken T a files written d g f h k false e =
    let c = k.counted f in
    let plain : count_by (takes f) d.operations + 0 ≡ count_by (takes f) d.operations = omega arith in
    plain ∙ c ∙ ap (λ b. one (b && is_held_by_others T a f)) (sym (or_false (has_file files f)))

fair_taken : (T : Tree) (a : ℕ) (files : List FileId) (written : FileId → Bool) (d : DraftState) (g : FileId) (n : ℕ) → needs_take T d g ≡ true → next_body T d ≡ Ok n → Fair T a files written d
    → Fair T a (files ++ g ∷ []) written (taken_at d g n)
fair_taken T a files written d g n h e k =
    let op : Op = Take (record { file = g; body = n }) in
    record {
      author = k.author;
      counted = λ f. count_by-last (takes f) d.operations op ∙ counted_taken T a files written d g f h k (file_eq g f) refl
          ∙ ap (λ b. one (b && is_held_by_others T a f)) (sym (list_any-last (λ x. file_eq x f) files g));
      writes = λ f. list_any-last (writes_to f) d.operations op ∙ or_false (list_any (writes_to f) d.operations) ∙ k.writes f;
      numbers = counts_last T a 0 d.operations op k.numbers (subst (λ (u : ℕ). IsNext T a u (Some n)) (sym k.last) (subst (λ (m : ℕ). IsNext T m d.used (Some n)) k.author (next_least T d n e)));
      last = last_used-last 0 d.operations op;
    }

-- without a take
counted_once : (T : Tree) (a : ℕ) (files : List FileId) (written : FileId → Bool) (d : DraftState) (f : FileId) → needs_take T d f ≡ false → Fair T a files written d
    → (held has : Bool) → is_held_by_others T a f ≡ held → has_file files f ≡ has → count_by (takes f) d.operations ≡ one (has && held) → one (has && held) ≡ one held
counted_once T a files written d f h k true true e i c = refl
counted_once T a files written d f h k true false e i c =
    let held : is_held_by_others T d.author f ≡ true = ap (λ n. is_held_by_others T n f) k.author ∙ e in
    absurd (false≢true (sym (unlisted (takes f) d.operations c) ∙ there_already T d f h held))
counted_once T a files written d f h k false has e i c = ap one (and_false has)

counted_looked : (T : Tree) (a : ℕ) (files : List FileId) (written : FileId → Bool) (d : DraftState) (g f : FileId) → needs_take T d g ≡ false → Fair T a files written d
    → (b : Bool) → file_eq g f ≡ b → one (has_file files f && is_held_by_others T a f) ≡ one ((has_file files f || b) && is_held_by_others T a f)
counted_looked T a files written d g f h k true e =
    let same : g ≡ f = file_eq-same g f e in
    let free : needs_take T d f ≡ false = ap (needs_take T d) (sym same) ∙ h in
    counted_once T a files written d f free k (is_held_by_others T a f) (has_file files f) refl refl (k.counted f)
    ∙ ap (λ b. one (b && is_held_by_others T a f)) (sym (or_true (has_file files f)))
counted_looked T a files written d g f h k false e =
    ap (λ b. one (b && is_held_by_others T a f)) (sym (or_false (has_file files f)))

fair_looked : (T : Tree) (a : ℕ) (files : List FileId) (written : FileId → Bool) (d : DraftState) (g : FileId) → needs_take T d g ≡ false → Fair T a files written d
    → Fair T a (files ++ g ∷ []) written d
fair_looked T a files written d g h k = record {
  author = k.author;
  counted = λ f. k.counted f ∙ counted_looked T a files written d g f h k (file_eq g f) refl
      ∙ ap (λ b. one (b && is_held_by_others T a f)) (sym (list_any-last (λ x. file_eq x f) files g));
  writes = k.writes;
  numbers = k.numbers;
  last = k.last;
}

-- ---- steps

pub bind_has : {A B : Type 0} (r : Result A Refusal) (f : A → Result B Refusal) (Q : B → Type 0) → ((x : A) → IfOk (f x) Q) → IfOk (r >>= f) Q
bind_has (Ok x) f Q h = h x
bind_has (Err e) f Q h = tt

pub bind_eq : {A B : Type 0} (r : Result A Refusal) (f : A → Result B Refusal) (Q : B → Type 0) → ((x : A) → r ≡ Ok x → IfOk (f x) Q) → IfOk (r >>= f) Q
bind_eq (Ok x) f Q h = h x refl
bind_eq (Err e) f Q h = tt

pub bind_with : {A B : Type 0} (r : Result A Refusal) (P : A → Type 0) (f : A → Result B Refusal) (Q : B → Type 0) → IfOk r P → ((x : A) → P x → IfOk (f x) Q) → IfOk (r >>= f) Q
bind_with (Ok x) P f Q k h = h x k
bind_with (Err e) P f Q k h = tt

take_step : (T : Tree) (a : ℕ) (files : List FileId) (written : FileId → Bool) (d : DraftState) (g : FileId) (b : Bool) → needs_take T d g ≡ b → Fair T a files written d
    → IfOk (cond b (taken T d g) (Ok d)) (Fair T a (files ++ g ∷ []) written)
take_step T a files written d g true h k = bind_eq (next_body T d) _ _ (λ n e. fair_taken T a files written d g n h e k)
take_step T a files written d g false h k = fair_looked T a files written d g h k

pub fair_take : (T : Tree) (a : ℕ) (files : List FileId) (written : FileId → Bool) (d : DraftState) (g : FileId) → Fair T a files written d → IfOk (with_take T d g) (Fair T a (files ++ g ∷ []) written)
unfolding with_take
fair_take T a files written d g k = take_step T a files written d g (needs_take T d g) refl k
