-- What etcd told. (This project's own, over etcd's API reference.)
use Rattle.std.specs.Prelude.{◌≡◌, ◌⊎◌, ℕ, List, ◌∷◌, Contains}
use Rattle.std.specs.Global.{Vec}
use Rattle.std.specs.Ordering.{nat_cmp}
use Rattle.std.specs.Cmp.Lexicographic.{slice_cmp}
use Rattle.std.specs.declared.cmp.Ordering.TheVariants.{Less}
use Rattle.serde_json.specs.Data.{Data}
use Rattle.su_gateway.specs.declared.targets.Target.{Target}
use Rattle.su_gateway.specs.declared.targets.Target.TheVariants.{Txn, Range}
use Rattle.su_etcd.specs.declared.wires.Request.{Request}
use Rattle.su_gateway.specs.Requests.{create_text, compare_text, range_text, page_text}
use Rattle.su_gateway.specs.Replies.{IsReply, IsDone, IsFound, IsNone}

-- this was asked, and what was replied tells such data
pub record Answered
    (told : Target → List ℕ → List ℕ → Type 0) (target : Target) (body : List ℕ)
    (Tells : Data → Type 0) : Type 0 where
  pub reply : List ℕ
  pub tells : Data
  pub was : told target body reply
  pub is : IsReply reply tells
  pub so : Tells tells

-- a pair is one of those that were put or compared
pub record Among
    (Tells : List ℕ × List ℕ → List (List ℕ × List ℕ) → Type 0) (key value : List ℕ)
    : Type 0 where
  pub first : List ℕ × List ℕ
  pub beside : List (List ℕ × List ℕ)
  pub has : Contains (first ∷ beside) (key, value)
  pub told : Tells first beside

-- It told that a key holds a value: it let it, while this lead lasted, or compared it, or gave it.
abbrev pub Has : (Target → List ℕ → List ℕ → Type 0) → ℕ → List ℕ → List ℕ → Type 0
Has told lead key value =
    Among (λ first beside. Answered told Txn (create_text lead first beside) IsDone) key value
    ⊎ (Among (λ first beside. Answered told Txn (compare_text first beside) IsDone) key value
    ⊎ (Answered told Range (range_text key) (λ d. IsFound d key value)
    ⊎ ((first : List ℕ) × (end : List ℕ)
    × Answered told Range (page_text first end) (λ d. IsFound d key value))))

-- this key comes before that one, byte by byte
abbrev pub IsBefore : List ℕ → List ℕ → Type 0
IsBefore key end = slice_cmp nat_cmp key end ≡ Less

-- it told that a key holds nothing, by itself or as the first of a page
abbrev pub Lacked : (Target → List ℕ → List ℕ → Type 0) → List ℕ → Type 0
Lacked told key =
    Answered told Range (range_text key) IsNone
    ⊎ ((end : List ℕ) × IsBefore key end × Answered told Range (page_text key end) IsNone)

-- this body was asked at this target, and this one replied
abbrev pub Logged : List (Request × Vec ℕ) → Target → List ℕ → List ℕ → Type 0
Logged log target body reply =
    (q : Request) × (r : Vec ℕ) × Contains log (q, r) × (q.target ≡ target)
    × (q.body.items ≡ body) × (r.items ≡ reply)
