use Rattle.std.proofs.Common.{◌≡◌, ◌∙◌, ◌⊎◌, inl, inr, None, Option, Ok, Err, List, refl, sym, ap, subst}
use Rattle.std.specs.Prelude.{IfOk}
use Rattle.std.proofs.lemmas.Result.{IfOk-weaker}
use Rattle.su_bytes.specs.declared.formats.Format.{Format}
use Rattle.su_bytes.specs.declared.refusals.Refusal.{Refusal}
use Rattle.su_op.specs.declared.operations.Op.{Op}
use Rattle.su_op.specs.declared.operations.Change.TheVariants.{Do}
use Rattle.su_part_tree.specs.Loading.{IsLoadRefusal}
use Rattle.su_desk.specs.Answer.{answer, format_refusal}
use Rattle.su_desk.specs.Desk.{DeskState}
use Rattle.su_desk.specs.History.{entry_by}
use Rattle.su_desk.specs.Trial.{TrialState, Tells, tree_of}
use Rattle.su_op.specs.Batch.{first_refusal}
use Rattle.su_desk.proofs.FormatLemmas.{format_refused}
use Rattle.su_stored_desk.specs.Asked.{IsClear}
use Rattle.su_stored_desk.specs.Joined.{IsJoined, IsKeptBefore}
use Rattle.su_stored_desk.specs.Right.{state_of, HasShape}
use Rattle.su_stored_desk.proofs.Clearness.{known, clear_still}
use Rattle.su_stored_desk.proofs.JoinedLemmas.{batch_accepted, batch_refused}
use Rattle.su_stored_desk.proofs.Public.{asks_nothing, asks_on}
use Rattle.su_stored_desk.proofs.Replies.{answer_done, answer_refused}
use Rattle.su_stored_desk.proofs.StandingReady.{alone}
use Rattle.su_stored_desk.proofs.TrialLemmas.{refused_by}
use Rattle.su_stored_desk.proofs.trials.TrialDesk.prepare_batch.Given.{Over}
use Rattle.su_stored_desk.proofs.trials.TrialDesk.prepare_batch.Goals as goal

-- what the desk says of the format holds of what is settled
settled_too : (s d : DeskState) (f : Format) (ops : List Op) (r o : Option Refusal) → s ≡ d → r ≡ format_refusal s.history f (Do ops) → r ≡ o → format_refusal d.history f (Do ops) ≡ o
settled_too s d f ops r o same is none = ap (λ (x : DeskState). format_refusal x.history f (Do ops)) (sym same) ∙ sym is ∙ none

pub returns-in-Some-clause-refused : goal.returns-in-Some-clause-refused
returns-in-Some-clause-refused g c clear =
    let d = c.args.self.now.state.settled in
    let s = c.self.inside in
    let e = entry_by c.args.author c.args.format (Do c.args.batch) in
    let same = alone (state_of s.desk) s.tried.items c.args.self.now.state (known g.S.BlockSource.may_give s.desk s.tried.items s.asked.items c.args.self.now.state (ap (λ t. t.state) c.self.view_is) c.self.invariant).seen c.requires.none_ready in
    inr (answer_refused d.roster d.history e c.in-Some.refusal (format_refused d.roster d.history e c.in-Some.refusal
    (settled_too (state_of s.desk) d c.args.format c.args.batch c.format_refusal.result _ same (c.format_refusal.ensures (Do c.args.batch) (sym c.oldest_format.ensures)) c.in-Some.is)))

pub footprint_of-requires-clause-fits : goal.footprint_of-requires-clause-fits
footprint_of-requires-clause-fits g c =
    let s = c.self.inside in
    let v = c.args.self.now.state in
    settled_too (state_of s.desk) v.settled c.args.format c.args.batch c.format_refusal.result _
    (alone (state_of s.desk) s.tried.items v (known g.S.BlockSource.may_give s.desk s.tried.items s.asked.items v (ap (λ t. t.state) c.self.view_is) c.self.invariant).seen c.requires.none_ready)
    (c.format_refusal.ensures (Do c.args.batch) (sym c.oldest_format.ensures)) c.in_default.is

pub returns-in_err-footprint-clause-refused : goal.returns-in_err-footprint-clause-refused
returns-in_err-footprint-clause-refused g c clear =
    let d = c.args.self.now.state.settled in
    let s = c.self.inside in
    let v = c.args.self.now.state in
    let x = c.in_err-footprint.field-0.0 in
    let fits = settled_too (state_of s.desk) v.settled c.args.format c.args.batch c.format_refusal.result _
    (alone (state_of s.desk) s.tried.items v (known g.S.BlockSource.may_give s.desk s.tried.items s.asked.items v (ap (λ t. t.state) c.self.view_is) c.self.invariant).seen c.requires.none_ready)
    (c.format_refusal.ensures (Do c.args.batch) (sym c.oldest_format.ensures)) c.in_default.is in
    refused_by (λ e. IsLoadRefusal e ⊎ (answer d.roster d.history (entry_by c.args.author c.args.format (Do c.args.batch)) ≡ Err e)) c.from_residual.result x c.from_residual.ensures.1
    (batch_refused d c.args.author c.args.format c.args.batch x c.requires.many fits (c.in_err-footprint.ensures.refused clear))

pub returns-in_err-inverse-clause-refused : goal.returns-in_err-inverse-clause-refused
returns-in_err-inverse-clause-refused g c clear =
    let d = c.args.self.now.state.settled in
    let x = c.in_err-inverse.field-0.0 in
    refused_by (λ e. IsLoadRefusal e ⊎ (answer d.roster d.history (entry_by c.args.author c.args.format (Do c.args.batch)) ≡ Err e)) c.from_residual-in_err-inverse.result x c.from_residual-in_err-inverse.ensures.1
    (inl (c.in_err-inverse.ensures.refused clear))

pub try_batch-requires-clause-fits : goal.try_batch-requires-clause-fits
try_batch-requires-clause-fits g c =
    let s = c.self.inside in
    let v = c.args.self.now.state in
    ap (λ (t : TrialState). format_refusal t.settled.history c.args.format (Do c.args.batch)) (c.keep_settled.ensures.state ∙ c.in_ok-footprint.ensures.none_ready)
    ∙ settled_too (state_of s.desk) v.settled c.args.format c.args.batch c.format_refusal.result _
    (alone (state_of s.desk) s.tried.items v (known g.S.BlockSource.may_give s.desk s.tried.items s.asked.items v (ap (λ t. t.state) c.self.view_is) c.self.invariant).seen c.requires.none_ready)
    (c.format_refusal.ensures (Do c.args.batch) (sym c.oldest_format.ensures)) c.in_default.is

pub returns-in_err-try_batch-clause-refused : goal.returns-in_err-try_batch-clause-refused
returns-in_err-try_batch-clause-refused g c clear =
    let d = c.args.self.now.state.settled in
    let s = c.self.inside in
    let v = c.args.self.now.state in
    let x = c.in_err-try_batch.field-0.0 in
    let fits = settled_too (state_of s.desk) v.settled c.args.format c.args.batch c.format_refusal.result _
    (alone (state_of s.desk) s.tried.items v (known g.S.BlockSource.may_give s.desk s.tried.items s.asked.items v (ap (λ t. t.state) c.self.view_is) c.self.invariant).seen c.requires.none_ready)
    (c.format_refusal.ensures (Do c.args.batch) (sym c.oldest_format.ensures)) c.in_default.is in
    let settled = ap (λ (t : TrialState). t.settled) (c.keep_settled.ensures.state ∙ c.in_ok-footprint.ensures.none_ready) in
    refused_by (λ e. IsLoadRefusal e ⊎ (answer d.roster d.history (entry_by c.args.author c.args.format (Do c.args.batch)) ≡ Err e)) c.from_residual-in_err-try_batch.result x c.from_residual-in_err-try_batch.ensures.1
    (subst (λ (y : DeskState). IsLoadRefusal x ⊎ (answer y.roster y.history (entry_by c.args.author c.args.format (Do c.args.batch)) ≡ Err x)) settled
    (batch_refused c.keep_settled.new.self.state.settled c.args.author c.args.format c.args.batch x c.requires.many (ap (λ (y : DeskState). format_refusal y.history c.args.format (Do c.args.batch)) settled ∙ fits) (c.in_err-try_batch.ensures.refused clear)))

pub join-requires-clause-fits : goal.join-requires-clause-fits
join-requires-clause-fits g c =
    let s = c.self.inside in
    let v = c.args.self.now.state in
    ap (λ (d : DeskState). format_refusal d.history c.args.format (Do c.args.batch)) (c.try_batch.ensures.settled ∙ ap (λ (t : TrialState). t.settled) (c.keep_settled.ensures.state ∙ c.in_ok-footprint.ensures.none_ready))
    ∙ settled_too (state_of s.desk) v.settled c.args.format c.args.batch c.format_refusal.result _
    (alone (state_of s.desk) s.tried.items v (known g.S.BlockSource.may_give s.desk s.tried.items s.asked.items v (ap (λ t. t.state) c.self.view_is) c.self.invariant).seen c.requires.none_ready)
    (c.format_refusal.ensures (Do c.args.batch) (sym c.oldest_format.ensures)) c.in_default.is

pub join-requires-clause-joined : goal.join-requires-clause-joined
join-requires-clause-joined g c clear =
    subst (λ (d : DeskState). IsJoined d c.args.author c.args.format c.args.batch c.in_ok-footprint.footprint) (sym (c.try_batch.ensures.settled ∙ ap (λ (t : TrialState). t.settled) (c.keep_settled.ensures.state ∙ c.in_ok-footprint.ensures.none_ready))) (c.in_ok-footprint.ensures.joined (c.keep_settled.ensures.asks.clear (c.try_batch.ensures.asks.clear clear)))

pub join-requires-clause-kept : goal.join-requires-clause-kept
join-requires-clause-kept g c clear =
    let was = c.try_batch.ensures.asks.clear clear in
    let before = c.keep_settled.ensures.asks.clear was in
    let d = c.args.self.now.state.settled in
    let settled : c.footprint_of.new.self.state.settled ≡ d = ap (λ (t : TrialState). t.settled) c.in_ok-footprint.ensures.none_ready in
    subst (λ (y : DeskState). IsKeptBefore y c.in_ok-footprint.footprint c.in_ok-inverse.inverse) (settled ∙ sym (c.try_batch.ensures.settled ∙ ap (λ (t : TrialState). t.settled) (c.keep_settled.ensures.state ∙ c.in_ok-footprint.ensures.none_ready)))
    (c.in_ok-inverse.ensures.kept c.args.author c.args.format c.args.batch was c.requires.many
    (subst (λ (y : DeskState). first_refusal y.roster (tree_of y) c.args.author c.args.format c.args.batch ≡ None) (sym settled) (c.in_ok-footprint.ensures.accepted before))
    (subst (λ (y : DeskState). IsJoined y c.args.author c.args.format c.args.batch c.in_ok-footprint.footprint) (sym settled) (c.in_ok-footprint.ensures.joined before)))

pub tell_last-requires : goal.tell_last-requires
tell_last-requires g c = (entry_by c.args.author c.args.format (Do c.args.batch), refl, ap (λ (t : TrialState). t.ready) c.in_ok-join.ensures.done)

-- where nothing was mixed up, nothing was before
before_join : (g : Over) (c : goal.After-tell_last g) → IsClear g.S.BlockSource.may_give c.join.new.self → IsClear g.S.BlockSource.may_give c.try_batch.new.self
before_join g c clear = clear_still g.S.BlockSource.may_give c.try_batch.new.self c.join.new.self (ap (λ (t : TrialState). t.settled.roster) c.in_ok-join.ensures.done) c.join.ensures.asked clear

-- what is settled is what was
settled_is : (g : Over) (c : goal.After-tell_last g) → c.join.new.self.state.settled ≡ c.args.self.now.state.settled
settled_is g c = ap (λ (t : TrialState). t.settled) c.in_ok-join.ensures.done ∙ c.try_batch.ensures.settled ∙ ap (λ (t : TrialState). t.settled) (c.keep_settled.ensures.state ∙ c.in_ok-footprint.ensures.none_ready)

pub returns-clause-accepted : goal.returns-clause-accepted
returns-clause-accepted g c clear =
    let d = c.args.self.now.state.settled in
    let s = c.self.inside in
    let v = c.args.self.now.state in
    let e = entry_by c.args.author c.args.format (Do c.args.batch) in
    let fits = settled_too (state_of s.desk) v.settled c.args.format c.args.batch c.format_refusal.result _
    (alone (state_of s.desk) s.tried.items v (known g.S.BlockSource.may_give s.desk s.tried.items s.asked.items v (ap (λ t. t.state) c.self.view_is) c.self.invariant).seen c.requires.none_ready)
    (c.format_refusal.ensures (Do c.args.batch) (sym c.oldest_format.ensures)) c.in_default.is in
    let before = c.keep_settled.ensures.asks.clear (c.try_batch.ensures.asks.clear (before_join g c clear)) in
    IfOk-weaker c.tell_last.result _ _
    (λ p told.
    answer_done d.roster d.history e (batch_accepted d c.args.author c.args.format c.args.batch c.requires.many fits (c.in_ok-footprint.ensures.accepted before))
    ∙ ap Ok (sym (subst (λ (x : DeskState). Tells x e p) (settled_is g c) (told e (ap (λ (t : TrialState). t.ready) c.in_ok-join.ensures.done))).number))
    (c.tell_last.ensures.told clear)

pub returns-clause-told : goal.returns-clause-told
returns-clause-told g c clear =
    let e = entry_by c.args.author c.args.format (Do c.args.batch) in
    IfOk-weaker c.tell_last.result _ _
    (λ p told. subst (λ (x : DeskState). Tells x e p) (settled_is g c) (told e (ap (λ (t : TrialState). t.ready) c.in_ok-join.ensures.done)))
    (c.tell_last.ensures.told clear)

pub returns-clause-shape : goal.returns-clause-shape
returns-clause-shape g c = subst (λ (d : DeskState). IfOk c.tell_last.result (HasShape d.roster)) (settled_is g c) c.tell_last.ensures.shape

-- ---- when its store was asked

pub returns-in_err-inverse-clause-asks : goal.returns-in_err-inverse-clause-asks
returns-in_err-inverse-clause-asks g c = asks_on g.met.S.BlockSource.follows_on c.args.self.now c.footprint_of.new.self c.keep_settled.new.self c.footprint_of.ensures.asks c.keep_settled.ensures.asks

pub returns-in_err-try_batch-clause-asks : goal.returns-in_err-try_batch-clause-asks
returns-in_err-try_batch-clause-asks g c =
    asks_on g.met.S.BlockSource.follows_on c.args.self.now c.keep_settled.new.self c.try_batch.new.self
    (asks_on g.met.S.BlockSource.follows_on c.args.self.now c.footprint_of.new.self c.keep_settled.new.self c.footprint_of.ensures.asks c.keep_settled.ensures.asks)
    c.try_batch.ensures.asks

pub returns-in_err-join-clause-asks : goal.returns-in_err-join-clause-asks
returns-in_err-join-clause-asks g c =
    asks_on g.met.S.BlockSource.follows_on c.args.self.now c.try_batch.new.self c.join.new.self
    (asks_on g.met.S.BlockSource.follows_on c.args.self.now c.keep_settled.new.self c.try_batch.new.self
    (asks_on g.met.S.BlockSource.follows_on c.args.self.now c.footprint_of.new.self c.keep_settled.new.self c.footprint_of.ensures.asks c.keep_settled.ensures.asks)
    c.try_batch.ensures.asks)
    (asks_nothing g.met.S.BlockSource.follows_itself c.try_batch.new.self c.join.new.self (ap (λ (t : TrialState). t.settled.roster) c.in_err-join.ensures.err) c.join.ensures.source c.join.ensures.asked)

pub returns-clause-asks : goal.returns-clause-asks
returns-clause-asks g c =
    asks_on g.met.S.BlockSource.follows_on c.args.self.now c.try_batch.new.self c.join.new.self
    (asks_on g.met.S.BlockSource.follows_on c.args.self.now c.keep_settled.new.self c.try_batch.new.self
    (asks_on g.met.S.BlockSource.follows_on c.args.self.now c.footprint_of.new.self c.keep_settled.new.self c.footprint_of.ensures.asks c.keep_settled.ensures.asks)
    c.try_batch.ensures.asks)
    (asks_nothing g.met.S.BlockSource.follows_itself c.try_batch.new.self c.join.new.self (ap (λ (t : TrialState). t.settled.roster) c.in_ok-join.ensures.done) c.join.ensures.source c.join.ensures.asked)
