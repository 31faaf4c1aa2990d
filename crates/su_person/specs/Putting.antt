-- What a put leaves, and when it may write over a file.
use Rattle.std.specs.Prelude.{◌≡◌, ◌≢◌, ◌≤◌, ◌⊎◌, ◌++◌, ⊤, ℕ, zero, suc, Bool, true, false, List, [], ◌∷◌, Option, None, Some, Ok, Err}
use Rattle.su_bytes.specs.declared.file_ids.FileId.{FileId}
use Rattle.su_bytes.specs.declared.refusals.Refusal.TheVariants.{NoName}
use Rattle.su_desk.specs.declared.entries.Entry.{Entry}
use Rattle.su_draft.specs.declared.commands.Command.{Command}
use Rattle.su_draft.specs.Walk.{found}
use Rattle.su_legal.specs.Legal.{history}
use Rattle.su_pieces.specs.CarriedOut.{LeadsTo}
use Rattle.su_pieces.specs.Put.{Put}
use Rattle.su_table.specs.Query.{contents}
use Rattle.su_view.specs.Holding.{HoldingState, tree_of_list}
use Rattle.su_client_work.specs.Member.{MemberState, IsClear, OnlyAsks}
use Rattle.su_person.specs.Carrying.{CarriesSome}
use Rattle.su_person.specs.LastChange.{last_change}
use Rattle.su_person.specs.declared.carrying.Others.TheVariants.{Unwelcome}
use Rattle.su_person.specs.declared.faults.Fault.{Fault}
use Rattle.su_person.specs.declared.faults.Fault.TheVariants.{Changed}
use Rattle.su_person.specs.declared.putting.NewContents.{NewContents}
use Rattle.su_person.specs.declared.putting.Standing.{Standing}
use Rattle.su_person.specs.declared.putting.Standing.TheVariants.{Nothing, File}

-- in the tree of the list that is held the path leads to a file with these bytes
abbrev pub HasThere : HoldingState → List ℕ → List ℕ → Type 0
HasThere v path bytes = (file : FileId) × LeadsTo (tree_of_list v) path file bytes

-- the user has seen up to an entry that isn't before this one
abbrev pub HasSeen : Option ℕ → ℕ → Type 0
HasSeen seen n = (m : ℕ) × (seen ≡ Some m) × (n ≤ m)

-- The user knows the bytes of the file: nothing changed them, or what did last was the user's own, or
-- was seen.
abbrev pub KnowsBytes : ℕ → Option ℕ → List Entry → FileId → Type 0
KnowsBytes user seen h file = (last_change h file ≡ None)
    ⊎ ((n author : ℕ) × (last_change h file ≡ Some (n, author))
    × ((author ≡ user) ⊎ HasSeen seen n))

-- The user may write there: over anything; or nothing is there; or the bytes of the file there are
-- known.
abbrev pub MayWrite : Option ℕ → Bool → List ℕ → HoldingState → Type 0
MayWrite seen over path v = (over ≡ true)
    ⊎ ((found (tree_of_list v) path ≡ Err NoName)
    ⊎ ((file : FileId) × (found (tree_of_list v) path ≡ Ok file)
    × KnowsBytes v.user seen (history v.held) file))

-- what stands at the path in the tree that is held: nothing, or a file with these bytes
abbrev pub StandsThere : HoldingState → List ℕ → Option (List ℕ) → Type 0
StandsThere v path None = found (tree_of_list v) path ≡ Err NoName
StandsThere v path (Some old) = HasThere v path old

-- the commands put the new contents in the place of what stands at the path
abbrev pub PutsOver : HoldingState → List ℕ → List ℕ → List Command → Type 0
PutsOver v path new commands =
    (old : Option (List ℕ)) × StandsThere v path old × Put path old new commands

-- A round of a put: it is looked at what stands there; where nothing was mixed up the user may write
-- there by what the client holds, and these commands put the new contents there; and the first of
-- them are carried out, by the commits of these numbers, while no others come.
pub record Round (seen : Option ℕ) (over : Bool) (path new : List ℕ) (s : MemberState)
    (ns : List ℕ) (t : MemberState) : Type 0 where
  pub looked : MemberState
  pub looks : OnlyAsks s looked
  pub commands : List Command
  pub may : IsClear t → MayWrite seen over path s.holding
  pub puts : IsClear t → PutsOver s.holding path new commands
  pub clear : IsClear t → IsClear s
  pub carries : CarriesSome Unwelcome commands looked ns t

-- so many rounds, one after another
abbrev pub Rounds : Option ℕ → Bool → List ℕ → List ℕ → ℕ → MemberState → List ℕ → MemberState
    → Type 0
Rounds seen over path new zero s ns t = (ns ≡ []) × (t ≡ s)
Rounds seen over path new (suc k) s ns t =
    (between : MemberState) × (front last : List ℕ) × (ns ≡ front ++ last)
    × Rounds seen over path new k s front between × Round seen over path new between last t

-- some rounds, and then it is looked at what stands there
abbrev pub PutsByRounds : Option ℕ → Bool → List ℕ → List ℕ → MemberState → List ℕ → MemberState
    → Type 0
PutsByRounds seen over path new s ns t =
    (k : ℕ) × (last : MemberState) × Rounds seen over path new k s ns last × OnlyAsks last t

-- the commands put the new contents of a file at its path, where the user may write, by what the
-- client holds; or there are none
abbrev pub PutsOne : HoldingState → NewContents → List Command → Type 0
PutsOne v new commands = (commands ≡ [])
    ⊎ (MayWrite new.seen new.over new.path.now v × PutsOver v new.path.now new.bytes.now commands)

-- they do so file after file
abbrev pub PutsAll : HoldingState → List NewContents → List Command → Type 0
PutsAll v [] commands = commands ≡ []
PutsAll v (new ∷ news) commands =
    (front back : List Command) × (commands ≡ front ++ back)
    × PutsOne v new front × PutsAll v news back

-- A round of a put of several files: it is looked at what stands there; of some commands, and behind
-- them others, which where nothing was mixed up put each file by what the client holds, the first are
-- carried out by the commits of these numbers, while no others come; or none are.
pub record RoundTogether (its : List Command) (news : List NewContents) (s : MemberState)
    (ns : List ℕ) (t : MemberState) : Type 0 where
  pub looked : MemberState
  pub looks : OnlyAsks s looked
  pub commands : List Command
  pub puts : (commands ≡ []) ⊎ ((more : List Command) × (commands ≡ its ++ more)
      × (IsClear t → PutsAll s.holding news more))
  pub carries : CarriesSome Unwelcome commands looked ns t

-- ---- refusals

-- the fault tells the last change of a file's bytes, which isn't the user's, who hasn't seen it
abbrev pub TellsUnseen : Option ℕ → Bool → ℕ → Option (ℕ × ℕ) → Fault → Type 0
TellsUnseen seen over user last (Changed n author) =
    (over ≡ false) × (author ≢ user) × (HasSeen seen n → ⊥) × (last ≡ Some (n, author))
TellsUnseen seen over user last e = ⊥

-- where a fault tells a change, it is that of the file there
abbrev pub TellsWhy : Option ℕ → Bool → List ℕ → HoldingState → Fault → Type 0
TellsWhy seen over path v (Changed n author) =
    (file : FileId) × (found (tree_of_list v) path ≡ Ok file)
    × TellsUnseen seen over v.user (last_change (history v.held) file) (Changed n author)
TellsWhy seen over path v e = ⊤

-- ---- what stands at a path

-- that is what stands at the path
abbrev pub IsStanding : HoldingState → List ℕ → Standing → Type 0
IsStanding v path Nothing = found (tree_of_list v) path ≡ Err NoName
IsStanding v path (File file bytes) = LeadsTo (tree_of_list v) path file bytes.items

-- that is the file with its bytes
abbrev pub IsFileWith : HoldingState → FileId → Standing → Type 0
IsFileWith v f Nothing = ⊥
IsFileWith v f (File file bytes) =
    (file ≡ f) × (contents (tree_of_list v) f ≡ Ok bytes.items)

-- it is a file with these bytes
abbrev pub HasBytes : Standing → List ℕ → Type 0
HasBytes Nothing bs = ⊥
HasBytes (File file bytes) bs = bytes.items ≡ bs
