-- Lines that are carried out one after another.
use Rattle.std.proofs.Common.{◌≡◌, ◌⊎◌, ℕ, ◌+◌, Bool, List, [], ◌∷◌, ◌++◌, length, length-append, Option, None, Some, Result, Ok, Err, inl, inr, refl, sym, ap, ◌∙◌, subst, append_assoc, append-nil, arith}
use Rattle.std.specs.Prelude.{IfOk, OnErr}
use Rattle.std.specs.Io.KnownBytes.{Appends}
use Rattle.su_client.specs.Link.{LinkState}
use Rattle.su_client_work.specs.Member.{MemberState}
use Rattle.su_desk_lines.specs.declared.lines.NextLine.{NextLine}
use Rattle.su_desk_lines.specs.Script.{lines_of}
use Rattle.su_desk_lines.specs.Lines.{Reads, ReadsOf}
use Rattle.su_desk_script.specs.Answer.{bad_text}
use Rattle.su_client_script.specs.Calls.{FileCalls}
use Rattle.su_client_script.specs.Lines.{LineDoes, LineDoesSome, LinesDo, LinesFail, Prints, PrintsUnlessFault, Runs}
use Rattle.su_client_script.specs.Step.{LineSteps, Steps, EndsWith}
use Rattle.su_client_script.specs.declared.endings.Ending.{Ending}
use Rattle.su_client_script.specs.declared.endings.Ending.TheVariants as ending
use Rattle.su_client_script.specs.declared.endings.Fault.{Fault}
use Rattle.su_client_script.specs.declared.steps.Step.{Step}
use Rattle.su_client_script.specs.declared.steps.Step.TheVariants as step
use Rattle.su_client_script.proofs.Adding.{appends_none, appends_then}

-- ---- what is read

pub reads_at : (next : NextLine) (known new : Option (List ℕ)) (input : List ℕ) → Reads next known new → known ≡ Some input → ReadsOf next input new
reads_at next None new input r e = absurd (let bad : None ≡ Some input = e in cc)
reads_at next (Some bytes) new input r e = let same : bytes ≡ input = cc in subst (λ xs. ReadsOf next xs new) same r

module _ (M : LinkState → Type 0) (Files : FileCalls) (batches : Bool) where
  -- ---- one line

  one_line : (line : List ℕ) (s t : MemberState) (text : List ℕ) → (line ≡ [] → ⊥) → LineDoes M Files batches line s t text → LinesDo M Files batches (line ∷ []) s t text
  one_line [] s t text some does = absurd (some refl)
  one_line (b ∷ bs) s t text some does = (t, text, [], does, (refl, refl), sym (append-nil text))

  one_printed : (line : List ℕ) (s t : MemberState) (old new : Option (List ℕ)) → (line ≡ [] → ⊥) → Prints old new (LineDoes M Files batches line s t) → Prints old new (LinesDo M Files batches (line ∷ []) s t)
  one_printed line s t old new some (text, does, printed) = (text, one_line line s t text some does, printed)

  steps_line : (number : ℕ) (input line rest : List ℕ) (s t : MemberState) (known old new : Option (List ℕ)) (st : Step) → known ≡ Some rest → lines_of input ≡ line ∷ lines_of rest
      → (line ≡ [] → ⊥) → LineSteps M Files batches number line s t old new st → Steps M Files batches number input s t known old new (Ok st)
  steps_line number input line rest s t known old new step.Done left is some does = (line, rest, left, is, one_printed line s t old new some does)
  steps_line number input line rest s t known old new step.Refused left is some does = (line, rest, left, is, one_printed line s t old new some does)
  steps_line number input line rest s t known old new (step.Bad mistake) left is some (bad, same, printed) = (line, lines_of rest, is, bad, same, printed)
  steps_line number input line rest s t known old new step.Over left is some never = absurd never

  pub steps_so : (number : ℕ) (input line rest : List ℕ) (s t : MemberState) (known old new : Option (List ℕ)) (r : Result Step Fault) → known ≡ Some rest → lines_of input ≡ line ∷ lines_of rest
      → (line ≡ [] → ⊥) → IfOk r (LineSteps M Files batches number line s t old new) → OnErr r (LineDoesSome M batches line s t) → Steps M Files batches number input s t known old new r
  steps_so number input line rest s t known old new (Ok st) left is some does last = steps_line number input line rest s t known old new st left is some does
  steps_so number input line rest s t known old new (Err fault) left is some does last = inr (line, lines_of rest, is, last)

  -- ---- lines

  pub lines_both : (xs ys : List (List ℕ)) (s m t : MemberState) (a b : List ℕ) → LinesDo M Files batches xs s m a → LinesDo M Files batches ys m t b → LinesDo M Files batches (xs ++ ys) s t (a ++ b)
  lines_both [] ys s m t a b (same, none) more =
      subst (λ l. LinesDo M Files batches ys s t (l ++ b)) (sym none) (subst (λ (x : MemberState). LinesDo M Files batches ys x t b) same more)
  lines_both ([] ∷ xs) ys s m t a b done more = lines_both xs ys s m t a b done more
  lines_both ((x ∷ line) ∷ xs) ys s m t a b (between, first, rest, one, others, is) more =
      (between, first, rest ++ b, one, lines_both xs ys between m t rest b others more, ap (λ l. l ++ b) is ∙ append_assoc first rest b)

  -- The lines of a script before one of that number were carried out, and a rest is left.
  pub record IsCarriedTo (script : List ℕ) (number : ℕ) (known : Option (List ℕ)) (s t : MemberState) (old new : Option (List ℕ)) : Type 0 where
    pub done : List (List ℕ)
    pub rest : List ℕ
    pub text : List ℕ
    pub left : known ≡ Some rest
    pub all : lines_of script ≡ done ++ lines_of rest
    pub count : number ≡ length done + 1
    pub lines_do : LinesDo M Files batches done s t text
    pub printed : Appends old new text

  pub none_carried : (script : List ℕ) (known : Option (List ℕ)) (s : MemberState) (old : Option (List ℕ)) → known ≡ Some script → IsCarriedTo script 1 known s s old old
  none_carried script known s old left = record {
    done = [];
    rest = script;
    text = [];
    left = left;
    all = refl;
    count = refl;
    lines_do = (refl, refl);
    printed = appends_none old old refl;
  }

  longer : (done : List (List ℕ)) (line : List ℕ) (number : ℕ) → number ≡ length done + 1 → number ≡ length (done ++ line ∷ [])
  longer done line number is = let sum = length-append done (line ∷ []) in omega (arith, is, sum)

  module _ (script : List ℕ) (number : ℕ) (known : Option (List ℕ)) (s m t : MemberState) (old mid : Option (List ℕ)) (so_far : IsCarriedTo script number known s m old mid) where
    further : (known' new : Option (List ℕ)) (line rest : List ℕ) → known' ≡ Some rest → lines_of so_far.rest ≡ line ∷ lines_of rest → Prints mid new (LinesDo M Files batches (line ∷ []) m t)
        → IsCarriedTo script (number + 1) known' s t old new
    further known' new line rest left is (text, does, printed) = record {
      done = so_far.done ++ line ∷ [];
      rest = rest;
      text = so_far.text ++ text;
      left = left;
      all = so_far.all ∙ ap (λ l. so_far.done ++ l) is ∙ sym (append_assoc so_far.done (line ∷ []) (lines_of rest));
      count = let long = longer so_far.done line number so_far.count in omega (arith, long);
      lines_do = lines_both so_far.done (line ∷ []) s m t so_far.text text so_far.lines_do does;
      printed = appends_then old mid new so_far.text text so_far.printed printed;
    }

    -- the run goes on
    pub goes_on : (known' new : Option (List ℕ)) (st : Step) → Steps M Files batches number so_far.rest m t known' mid new (Ok st) → EndsWith number st None → IsCarriedTo script (number + 1) known' s t old new
    goes_on known' new step.Done (line, rest, left, is, does) end = further known' new line rest left is does
    goes_on known' new step.Refused (line, rest, left, is, does) end = further known' new line rest left is does
    goes_on known' new (step.Bad mistake) done end = absurd (let clash : None ≡ Some (ending.BadLine number mistake) = end in cc)
    goes_on known' new step.Over done end = absurd (let clash : None ≡ Some ending.Finished = end in cc)

    -- it ends with a line
    pub ends : (known' new : Option (List ℕ)) (st : Step) (end : Ending) → Steps M Files batches number so_far.rest m t known' mid new (Ok st) → EndsWith number st (Some end)
        → PrintsUnlessFault old new (λ text. Runs M Files batches (lines_of script) s t text end) end
    unfolding further
    ends known' new step.Done end done is = absurd (let clash : Some end ≡ None = is in cc)
    ends known' new step.Refused end done (inl none) = absurd (let clash : Some end ≡ None = none in cc)
    ends known' new step.Refused end (line, rest, left, is, does) (inr refused) =
        let on = further known' new line rest left is does in
        let same : end ≡ ending.Refused number = let both : Some end ≡ Some (ending.Refused number) = refused in cc in
        subst (λ e. PrintsUnlessFault old new (λ text. Runs M Files batches (lines_of script) s t text e) e) (sym same)
        (on.text, (on.done, lines_of on.rest, on.all, longer so_far.done line number so_far.count, on.lines_do), on.printed)
    ends known' new (step.Bad mistake) end (line, others, is, bad, still, printed) stop =
        let same : end ≡ ending.BadLine number mistake = let both : Some end ≡ Some (ending.BadLine number mistake) = stop in cc in
        subst (λ e. PrintsUnlessFault old new (λ text. Runs M Files batches (lines_of script) s t text e) e) (sym same) (
          so_far.text ++ bad_text number,
          (
            so_far.done,
            others,
            line,
            so_far.text,
            so_far.all ∙ ap (λ l. so_far.done ++ l) is,
            so_far.count,
            subst (λ x. LinesDo M Files batches so_far.done s x so_far.text) (sym still) so_far.lines_do,
            bad,
            refl,
          ),
          appends_then old mid new so_far.text (bad_text number) so_far.printed printed,
        )
    ends known' new step.Over end (none, still, printed) over =
        let same : end ≡ ending.Finished = let both : Some end ≡ Some ending.Finished = over in cc in
        let whole : lines_of script ≡ so_far.done = so_far.all ∙ ap (λ l. so_far.done ++ l) none ∙ append-nil so_far.done in
        subst (λ e. PrintsUnlessFault old new (λ text. Runs M Files batches (lines_of script) s t text e) e) (sym same) (
          so_far.text ++ [],
          subst (λ ls. LinesDo M Files batches ls s t (so_far.text ++ [])) (sym whole)
              (subst (λ l. LinesDo M Files batches so_far.done s t l) (sym (append-nil so_far.text)) (subst (λ x. LinesDo M Files batches so_far.done s x so_far.text) (sym still) so_far.lines_do)),
          appends_then old mid new so_far.text [] so_far.printed printed,
        )

    -- something fails
    pub fails : (t ≡ m) ⊎ ((line : List ℕ) × (others : List (List ℕ)) × (lines_of so_far.rest ≡ line ∷ others) × LineDoesSome M batches line m t) → LinesFail M Files batches (lines_of script) s t
    fails last = record {
      done = so_far.done;
      others = lines_of so_far.rest;
      all = so_far.all;
      between = m;
      text = so_far.text;
      lines_do = so_far.lines_do;
      last = last;
    }
