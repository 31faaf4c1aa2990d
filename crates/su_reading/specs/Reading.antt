-- What is told by whoever is asked about a tree.
use Rattle.std.specs.Prelude.{◌≡◌, ◌⊎◌, Result, Ok, Err, IfOk, IfErr}
use Rattle.su_bytes.specs.declared.refusals.Refusal.{Refusal}
use Rattle.su_bytes.specs.declared.refusals.Refusal.TheVariants.{NoMemory}
use Rattle.su_node.specs.Inode.{Inode, kind_of, size_of}
use Rattle.su_table.specs.Tree.{Tree}
use Rattle.su_reading.specs.declared.heads.InodeHead.{InodeHead}

-- what is told of an inode beside its content
abbrev pub head_of : Inode → InodeHead
head_of i = record {
  home = i.home;
  kind = kind_of i.content;
  links = i.links;
  size = size_of i.content;
}

module _ {R A : Type 0} (shows : R → Tree → Type 0) (fails : Tree → R → Refusal → Type 0)
    (follows : R → R → Type 0) (r s : R) (result : Result A Refusal) where
  -- What a question to a reader r tells, which became s, when it was answered with the result: of
  -- each tree that r shows the value is an answer, or the refusal is one; else the reader failed,
  -- or memory was wanting. And s shows what r showed.
  pub record Inquiry (IsAnswer : Tree → A → Type 0) (IsRefusal : Tree → Refusal → Type 0)
      : Type 0 where
    pub still : (T : Tree) → shows r T → shows s T
    pub answer : (T : Tree) → shows r T → IfOk result (IsAnswer T)
    pub refused : (T : Tree) → shows r T
        → IfErr result (λ e. fails T s e ⊎ (e ≡ NoMemory) ⊎ IsRefusal T e)
    pub comes : follows r s

  -- what is asked has no refusal of its own
  abbrev pub Finds : (Tree → A → Type 0) → Type 0
  Finds IsAnswer = Inquiry IsAnswer (λ T e. ⊥)

  -- what is worked out is this, seen by view; it may be a refusal
  abbrev pub WorksOut : {B : Type 0} → (A → B) → (Tree → Result B Refusal) → Type 0
  WorksOut view meant = Inquiry (λ T a. meant T ≡ Ok (view a)) (λ T e. meant T ≡ Err e)
