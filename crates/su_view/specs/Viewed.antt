-- A client's view whose tree may lie on a store, and when that was asked.
use Rattle.std.specs.Prelude.{◌≡◌, ◌⊎◌, ℕ, List, Contains}
use Rattle.std.specs.Global.{Vec}
use Rattle.su_bytes.specs.declared.refusals.Refusal.{Refusal}
use Rattle.su_desk.specs.declared.entries.Entry.{Entry}
use Rattle.su_desk.specs.Trial.{nothing_ready}
use Rattle.su_legal.specs.Act.{Act.Takes, May}
use Rattle.su_legal.specs.Legal.{Committed, history}
use Rattle.su_part_tree.specs.Loading.{IsLoadRefusal}
use Rattle.su_stored_desk.specs.Asked.{Asks, NoneMixed, TrialOn}
use Rattle.su_view.specs.Holding.{HoldingState, with_more}
use Rattle.su_view.specs.declared.refusals.ViewRefusal.{ViewRefusal}
use Rattle.su_view.specs.declared.refusals.ViewRefusal.TheVariants.{Plain}

-- What is seen of such a view: what it holds; its source, of items and of the tree; and what the
-- source was, and the history with what stood ready, each time before it was asked about the tree.
pub record ViewOn (S : Type 0) : Type 0 where
  pub holding : HoldingState
  pub source : S
  pub asked : List (S × Vec Entry)

-- the desk that it has, where nothing stands ready
abbrev pub desk_of : {S : Type 0} → ViewOn S → TrialOn S
desk_of w = record {
  state = nothing_ready (record {
    roster = w.holding.roster;
    history = history w.holding.held;
  });
  source = w.source;
  asked = w.asked;
}

module _ {S : Type 0} (may_give : S → List ℕ → Type 0) where
  -- Each time that its source was asked about the tree, no byte string that is hashed for the tree of
  -- then had the digest of another one that the source might give. (It is what has to be believed of
  -- SHA-256 and of the items that were met, for a view to be right.)
  abbrev pub IsClear : ViewOn S → Type 0
  IsClear w = NoneMixed may_give w.holding.roster w.asked

  -- It holds these commits more; and where nothing was mixed up, the client might take them.
  pub record Grows (w : ViewOn S) (more : List Committed) (x : ViewOn S) : Type 0 where
    pub becomes : x.holding ≡ with_more w.holding more
    pub may : IsClear x → May w.holding.roster w.holding.user w.holding.held (Takes more)

  -- Where the source of x was asked that of w wasn't, it might give no more than that of w.
  abbrev pub AsksOnly : ViewOn S → ViewOn S → Type 0
  AsksOnly w x = (a : S × Vec Entry) → Contains x.asked a
      → Contains w.asked a ⊎ ((i : List ℕ) → may_give a.0 i → may_give w.source i)

  -- What may have become of it by calls that ask its source: so where nothing was mixed up, nothing
  -- was before; and what it was given is of what the source might give before.
  abbrev pub AsksOn : (S → S → Type 0) → ViewOn S → ViewOn S → Type 0
  AsksOn comes w x = Asks may_give comes (desk_of w) (desk_of x)

-- something of the tree couldn't be loaded, or memory was wanting
abbrev pub FailsToLoad : ViewRefusal → Type 0
FailsToLoad e = (why : Refusal) × (e ≡ Plain why) × IsLoadRefusal why
