-- Commands that are carried out step by step: what holds once a further step is made, or refused.
use Rattle.std.proofs.Common.{◌≡◌, ◌≤◌, inl, inr, ℕ, zero, suc, List, [], ◌∷◌, ◌++◌, length, take, drop, Option, None, Some, append_assoc, append-nil, refl, sym, ◌∙◌, ap, subst, Result, Ok, Err}
use Rattle.std.specs.Prelude.{OnErr, OnOk}
use Rattle.std.specs.Option.{IfSome}
use Rattle.std.proofs.lemmas.List.{take-append-drop}
use Rattle.su_op.specs.declared.operations.Op.{Op}
use Rattle.su_op.specs.declared.operations.Change.TheVariants.{Do}
use Rattle.su_op.specs.Action.{some_batch}
use Rattle.su_draft.specs.declared.commands.Command.{Command}
use Rattle.su_view.specs.Holding.{HoldingState}
use Rattle.su_client_work.specs.Member.{MemberState, IsClear, OnlyAsks}
use Rattle.su_client_work.specs.Publishing.{IsPublished, SignsAtMost}
use Rattle.su_person.specs.declared.carrying.Others.{Others}
use Rattle.su_person.specs.declared.steps.Step.{Step}
use Rattle.su_person.specs.Carrying.{Before, CarriedOut, Carries, CarriesSome, CommitsAll, GoesAlong, IsPlanned, IsPlannedStep, IsStepped, Steps, TakesThen, Tries, numbers_of}

pub on_ok : {A E : Type 0} (r : Result A E) (X : Type 0) → X → OnOk r X
on_ok (Ok a) X x = x
on_ok (Err e) X x = tt

pub on_err : {A E : Type 0} (r : Result A E) (X : Type 0) → X → OnErr r X
on_err (Ok a) X x = tt
on_err (Err e) X x = x

-- ---- a step

-- a batch of operations is these
batch_is : (ops batch : List Op) → Some batch ≡ some_batch ops → batch ≡ ops
batch_is [] batch e = absurd (let bad : Some batch ≡ None = e in cc)
batch_is (op ∷ ops) batch e = let same : Some batch ≡ Some (op ∷ ops) = e in cc

pub committed : (ops batch : List Op) (s t : MemberState) (n : ℕ) → Some batch ≡ some_batch ops → IsPublished (Do batch) s t n → CommitsAll ops s t (Some n)
committed [] batch s t n e is = absurd (let bad : Some batch ≡ None = e in cc)
committed (op ∷ ops) batch s t n e is =
    (n, refl, subst (λ (x : List Op). IsPublished (Do x) s t n) (batch_is (op ∷ ops) batch e) is)

pub uncommitted : (ops : List Op) (s t : MemberState) → None ≡ some_batch ops → OnlyAsks s t → CommitsAll ops s t None
uncommitted [] s t e stays = (stays, refl)
uncommitted (op ∷ ops) s t e stays = absurd (let bad : None ≡ Some (op ∷ ops) = e in cc)

pub tries_batch : (its : List Command) (done : ℕ) (ops batch : List Op) (s t : MemberState) → Some batch ≡ some_batch ops → (IsClear t → IsPlannedStep its s.holding done ops)
    → (IsClear t → IsClear s) → SignsAtMost s.holding (Do batch) s t → t.holding ≡ s.holding → Tries its s t
tries_batch its done ops batch s t e planned back signs same =
    inr (done, ops, planned, back, subst (λ (x : List Op). SignsAtMost s.holding (Do x) s t) (batch_is ops batch e) signs, same)

-- the first operations of a plan are some of its operations
pub planned_in_part : (its : List Command) (v : HoldingState) (n : ℕ) (ops : List Op) → IsPlanned (take 1 its) v ops → IsPlannedStep its v 0 (take n ops)
planned_in_part its v n ops is =
    inr (refl, (drop n ops, subst (IsPlanned (take 1 its) v) (sym (take-append-drop n ops)) is))

-- a step carries out no more commands than there are
pub few_of : (found : Option Step) (step : Step) (its : List Command) → found ≡ Some step → IfSome found (λ it. it.done ≤ length its) → step.done ≤ length its
few_of found step its is few = subst (λ (o : Option Step). IfSome o (λ it. it.done ≤ length its)) is few

-- ---- steps one after another

-- steps, and then others
joined : (others : Others) (k j : ℕ) (its mid left : List Command) (s m t : MemberState) (ns ms : List ℕ)
    → Carries others k its s mid ns m → Carries others j mid m left ms t → (i : ℕ) × Carries others i its s left (ns ++ ms) t
joined others k zero its mid left s m t ns ms first (same, none, still) = (
  k,
  subst (λ (x : MemberState). Carries others k its s left (ns ++ ms) x) (sym still)
      (subst (λ (l : List ℕ). Carries others k its s left l m) (sym (ap (λ (l : List ℕ). ns ++ l) none ∙ append-nil ns))
      (subst (λ (l : List Command). Carries others k its s l ns m) (sym same) first)),
)
joined others k (suc j) its mid left s m t ns ms first (mid2, before, between, step, carries, takes, is, more) =
    let more_ = joined others k j its mid mid2 s m between ns before first carries in (
      suc more_.0,
      (
        mid2,
        ns ++ before,
        between,
        step,
        more_.1,
        takes,
        is,
        ap (λ (l : List ℕ). ns ++ l) more ∙ sym (append_assoc ns before (numbers_of step.number)),
      ),
    )

-- one step
one_step : (others : Others) (its : List Command) (s t : MemberState) (step : Step) (ns : List ℕ) → ns ≡ numbers_of step.number
    → TakesThen others (λ a b. Steps its a step b) s t → Carries others 1 its s (drop step.done its) ns t
one_step others its s t step ns is does = (its, [], s, step, (refl, refl, refl), does, refl, is)

-- ---- the next step, from s on, where these numbers were noted

module _ (others : Others) (its : List Command) (s : MemberState) (olds : List ℕ) where
  abbrev pub Noted : (List ℕ → Type 0) → List ℕ → Type 0
  Noted Done now = (ns : List ℕ) × (now ≡ olds ++ ns) × Done ns

  abbrev pub SomeNoted : MemberState → List ℕ → Type 0
  SomeNoted t now = Noted (λ ns. CarriesSome others its s ns t) now

  -- no step is made, and the client goes along
  pub goes_along : (t : MemberState) (now : List ℕ) → now ≡ olds → GoesAlong s t → SomeNoted t now
  goes_along t now same along =
      ([], same ∙ sym (append-nil olds), record { steps = 0; left = its; between = s; carries = (refl, refl, refl); ends = inl along })

  -- the step is refused
  pub refused : (b t : MemberState) (now : List ℕ) → now ≡ olds → Before others s b → Tries its b t → SomeNoted t now
  refused b t now same before tries = (
    [],
    same ∙ sym (append-nil olds),
    record { steps = 0; left = its; between = s; carries = (refl, refl, refl); ends = inr (record { turn = b; takes = before; does = tries }) },
  )

  -- the step is made, and then nothing
  pub made : (b t : MemberState) (step : Step) (now : List ℕ) → now ≡ olds ++ numbers_of step.number → Before others s b → Steps its b step t → SomeNoted t now
  made b t step now more before does = (
    numbers_of step.number,
    more,
    record {
      steps = 1;
      left = drop step.done its;
      between = t;
      carries = one_step others its s t step (numbers_of step.number) refl (record { turn = b; takes = before; does = does });
      ends = inl (t, inl refl, inl refl);
    },
  )

-- ---- steps so far, from s on, where these numbers were noted

module _ (others : Others) (its : List Command) (s : MemberState) (olds : List ℕ) where
  abbrev pub SoFar : MemberState → List Command → List ℕ → Type 0
  SoFar m left now = (k : ℕ) × Noted others its s olds (λ ns. Carries others k its s left ns m) now

  pub begins : SoFar s its olds
  begins = (0, ([], sym (append-nil olds), (refl, refl, refl)))

  more_numbers : (ns ms before now : List ℕ) → before ≡ olds ++ ns → now ≡ before ++ ms → now ≡ olds ++ (ns ++ ms)
  more_numbers ns ms before now noted more = more ∙ ap (λ (l : List ℕ). l ++ ms) noted ∙ append_assoc olds ns ms

  pub goes_on : (m t : MemberState) (left : List Command) (before now : List ℕ) (step : Step) → SoFar m left before
      → (ms : List ℕ) × (now ≡ before ++ ms) × IsStepped others left m (Some step) ms t → SoFar t (drop step.done left) now
  goes_on m t left before now step (k, (ns, noted, carries)) (ms, more, (is, does)) =
      let all = joined others k 1 its left (drop step.done left) s m t ns ms carries (one_step others left m t step ms is does) in
      (all.0, (ns ++ ms, more_numbers ns ms before now noted more, all.1))

  -- all are carried out
  pub all_done : (t : MemberState) (left : List Command) (now : List ℕ) → SoFar t left now → left ≡ [] → Noted others its s olds (λ ns. CarriedOut others its s ns t) now
  all_done t left now (k, (ns, noted, carries)) none =
      (ns, noted, (k, subst (λ (l : List Command). Carries others k its s l ns t) none carries))

  -- it ends there
  pub stops : (t : MemberState) (left : List Command) (now : List ℕ) → SoFar t left now → SomeNoted others its s olds t now
  stops t left now (k, (ns, noted, carries)) =
      (ns, noted, record { steps = k; left = left; between = t; carries = carries; ends = inl (t, inl refl, inl refl) })

  -- or with what comes next
  pub stops_behind : (m t : MemberState) (left : List Command) (before now : List ℕ) → SoFar m left before
      → (ms : List ℕ) × (now ≡ before ++ ms) × CarriesSome others left m ms t → SomeNoted others its s olds t now
  stops_behind m t left before now (k, (ns, noted, carries)) (ms, more, some) =
      let all = joined others k some.steps its left some.left s m some.between ns ms carries some.carries in (
        ns ++ ms,
        more_numbers ns ms before now noted more,
        record { steps = all.0; left = some.left; between = some.between; carries = all.1; ends = some.ends },
      )

  -- or where others come in between, or another key is used
  pub stops_along : (m t : MemberState) (left : List Command) (before now : List ℕ) → SoFar m left before
      → (ms : List ℕ) × (now ≡ before ++ ms) × IsStepped others left m None ms t → SomeNoted others its s olds t now
  stops_along m t left before now so_far (ms, more, (none, along)) =
      stops_behind m t left before now so_far (
        ms,
        more,
        record {
          steps = 0;
          left = left;
          between = m;
          carries = (refl, none, refl);
          ends = inl along;
        },
      )
