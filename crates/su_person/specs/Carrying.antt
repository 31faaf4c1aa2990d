-- How commands on paths are carried out: commit by commit, each of as many of them as one item has
-- room for, which are planned on the tree as it is then.
use Rattle.std.specs.Prelude.{◌≡◌, ◌≤◌, ◌⊎◌, ◌++◌, ℕ, zero, suc, List, [], ◌∷◌, take, drop, length, Option, None, Some, Ok}
use Rattle.su_op.specs.declared.operations.Op.{Op}
use Rattle.su_op.specs.declared.operations.Change.TheVariants.{Do}
use Rattle.su_draft.specs.declared.commands.Command.{Command}
use Rattle.su_plan.specs.Plan.{plan_all}
use Rattle.su_view.specs.Holding.{HoldingState, tree_of_list}
use Rattle.su_client_work.specs.Member.{MemberState, IsClear, OnlyAsks, OnlyTakes}
use Rattle.su_client_work.specs.Publishing.{IsPublished, SignsAtMost}
use Rattle.su_person.specs.Moving.{MovesOn}
use Rattle.su_person.specs.declared.carrying.Others.{Others}
use Rattle.su_person.specs.declared.carrying.Others.TheVariants.{Welcome, Unwelcome}
use Rattle.su_person.specs.declared.steps.Step.{Step}

-- ---- a step

-- on the tree that is held these operations carry the commands out, one after another
abbrev pub IsPlanned : List Command → HoldingState → List Op → Type 0
IsPlanned its v ops = plan_all v.roster (tree_of_list v) v.user its ≡ Ok ops

-- The operations of a step: all that carry out the first commands, so many of them; or the first ones
-- of those that carry out the first command, which isn't done then.
abbrev pub IsPlannedStep : List Command → HoldingState → ℕ → List Op → Type 0
IsPlannedStep its v done ops = ((1 ≤ done) × IsPlanned (take done its) v ops)
    ⊎ ((done ≡ 0) × ((later : List Op) × IsPlanned (take 1 its) v (ops ++ later)))

-- one commit is made of these operations, if there are any: its number
abbrev pub CommitsAll : List Op → MemberState → MemberState → Option ℕ → Type 0
CommitsAll [] s t number = OnlyAsks s t × (number ≡ None)
CommitsAll (op ∷ ops) s t number =
    (n : ℕ) × (number ≡ Some n) × IsPublished (Do (op ∷ ops)) s t n

-- A step: of the commands so many are carried out, by one commit at most. (Where nothing was mixed up
-- its operations are what is planned.)
pub record Steps (its : List Command) (s : MemberState) (step : Step) (t : MemberState)
    : Type 0 where
  pub few : step.done ≤ length its
  pub operations : List Op
  pub planned : IsClear t → IsPlannedStep its s.holding step.done operations
  pub clear : IsClear t → IsClear s
  pub commits : CommitsAll operations s t step.number

-- where a step is refused: it signs one commit at most, of the operations of a step, and takes nothing
abbrev pub Tries : List Command → MemberState → MemberState → Type 0
Tries its s t = OnlyAsks s t
    ⊎ ((done : ℕ) × (ops : List Op) × (IsClear t → IsPlannedStep its s.holding done ops)
    × (IsClear t → IsClear s) × SignsAtMost s.holding (Do ops) s t
    × (t.holding ≡ s.holding))

-- ---- what comes before a step

-- the client goes on to another key, or does nothing; and then it takes commits, or does nothing
abbrev pub GoesAlong : MemberState → MemberState → Type 0
GoesAlong s t = (moved : MemberState) × MovesOn s moved × ((t ≡ moved) ⊎ OnlyTakes moved t)

-- that comes, or nothing where it is unwelcome (but that it is asked)
abbrev pub Before : Others → MemberState → MemberState → Type 0
Before Welcome = GoesAlong
Before Unwelcome = OnlyAsks

-- that comes, and then this holds of what the client has and what it has afterwards
pub record TakesThen (others : Others) (Then : MemberState → MemberState → Type 0)
    (s t : MemberState) : Type 0 where
  pub turn : MemberState
  pub takes : Before others s turn
  pub does : Then turn t

-- ---- steps one after another

-- the number of a commit, if one was made
abbrev pub numbers_of : Option ℕ → List ℕ
numbers_of None = []
numbers_of (Some n) = n ∷ []

-- so many steps of commands, one after another: which commands are left then, and the numbers of the
-- commits
abbrev pub Carries
    : Others → ℕ → List Command → MemberState → List Command → List ℕ → MemberState → Type 0
Carries others zero its s left ns t = (left ≡ its) × (ns ≡ []) × (t ≡ s)
Carries others (suc k) its s left ns t =
    (mid : List Command) × (before : List ℕ) × (between : MemberState) × (step : Step)
    × Carries others k its s mid before between
    × TakesThen others (λ a b. Steps mid a step b) between t
    × (left ≡ drop step.done mid) × (ns ≡ before ++ numbers_of step.number)

-- the commands are carried out by the commits of these numbers
abbrev pub CarriedOut
    : Others → List Command → MemberState → List ℕ → MemberState → Type 0
CarriedOut others its s ns t = (k : ℕ) × Carries others k its s [] ns t

-- The first of the commands are carried out by the commits of these numbers. Then the next step is
-- refused; or none is made, and the client goes on to another key, takes commits, or does nothing.
pub record CarriesSome (others : Others) (its : List Command) (s : MemberState) (ns : List ℕ)
    (t : MemberState) : Type 0 where
  pub steps : ℕ
  pub left : List Command
  pub between : MemberState
  pub carries : Carries others steps its s left ns between
  pub ends : GoesAlong between t ⊎ TakesThen others (Tries left) between t

-- a step was made, by the commit of this number; or none, as others came or another key is used
abbrev pub IsStepped
    : Others → List Command → MemberState → Option Step → List ℕ → MemberState → Type 0
IsStepped others its s (Some step) ns t =
    (ns ≡ numbers_of step.number) × TakesThen others (λ a b. Steps its a step b) s t
IsStepped others its s None ns t = (ns ≡ []) × GoesAlong s t
