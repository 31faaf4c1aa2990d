use Rattle.std.proofs.Common.{◌≡◌, ◌∙◌, ◌+◌, true, None, ◌++◌, ◌∷◌, [], take, drop, suc, refl, sym, ap, subst, add-one, append_assoc, append-nil}
use Rattle.std.specs.Option.{option_or}
use Rattle.std.specs.List.{AllByRecursion}
use Rattle.std.proofs.Math.Seq.{drop-cons}
use Rattle.std.proofs.lemmas.List.{take_more}
use Rattle.su_bytes.specs.Format.{is_as_new}
use Rattle.su_op.specs.Action.{action_by, oldest_format}
use Rattle.su_op.specs.Operation.{why, effect}
use Rattle.su_op.specs.Batch.{action_by as batch_by, effect as batch_effect, first_refusal}
use Rattle.su_desk.specs.Desk.{DeskState}
use Rattle.su_desk.specs.Trial.{tree_with_ready}
use Rattle.su_stored_desk.specs.Joined.{alone_by, each_alone}
use Rattle.su_stored_desk.proofs.JoinedLemmas.{each_more, fits_behind}
use Rattle.su_stored_desk.proofs.Public.{asks_nothing, asks_on}
use Rattle.su_stored_desk.proofs.trials.TrialDesk.try_all.Goals as goal

pub loop-operation-init : goal.loop-operation-init
loop-operation-init g c = record {
  settled = refl;
  rest = λ clear. refl;
  effect = λ clear. refl;
  ready = sym (append-nil c.args.self.now.state.ready);
  fits = c.requires;
  asks = asks_nothing g.met.S.BlockSource.follows_itself c.args.self.now c.args.self.now refl refl refl;
}

pub loop-operation-preserved : goal.loop-operation-preserved
loop-operation-preserved g c =
    let l = c.loop-operation in
    let all = c.args.operations.now in
    let op = c.operation-item.result in
    let a = c.args.author in
    let f = c.args.format in
    let r = c.in_ok-try_next.ensures in
    let ro = c.args.self.now.state.settled.roster in
    let T = tree_with_ready l.self.state in
    let x = action_by a f op in
    let rest = drop (l.operation-index + 1) all in
    let left : drop l.operation-index all ≡ op ∷ rest
    = drop-cons all l.operation-index op c.loop-operation-test.true ∙ ap (λ o. o ∷ drop (suc l.operation-index) all) (sym c.operation-item.is) ∙ ap (λ j. op ∷ drop j all) (sym (add-one l.operation-index)) in
    let more : take (l.operation-index + 1) all ≡ take l.operation-index all ++ op ∷ []
    = take_more all l.operation-index op c.loop-operation-test.true ∙ ap (λ o. take l.operation-index all ++ o ∷ []) (sym c.operation-item.is) in
    record {
      settled = r.settled ∙ l.invariant.settled;
      rest = λ clear.
          let accepted : why ro T x ≡ None = ap (λ (d : DeskState). why d.roster T x) (sym l.invariant.settled) ∙ r.accepted clear in
          let done : tree_with_ready c.try_next.new.self.state ≡ effect ro T x = r.effect clear ∙ ap (λ (d : DeskState). effect d.roster T x) l.invariant.settled in
          l.invariant.rest (r.asks.clear clear) ∙ ap (first_refusal ro T a f) left
          ∙ ap (λ o. option_or o (first_refusal ro (effect ro T x) a f rest)) accepted
          ∙ ap (λ U. first_refusal ro U a f rest) (sym done);
      effect = λ clear.
          let done : tree_with_ready c.try_next.new.self.state ≡ effect ro T x = r.effect clear ∙ ap (λ (d : DeskState). effect d.roster T x) l.invariant.settled in
          l.invariant.effect (r.asks.clear clear) ∙ ap (λ ops. batch_effect ro T (batch_by a f ops)) left
          ∙ ap (λ U. batch_effect ro U (batch_by a f rest)) (sym done);
      ready = r.ready ∙ ap (λ es. es ++ alone_by a f op ∷ []) l.invariant.ready
          ∙ append_assoc c.args.self.now.state.ready (each_alone a f (take l.operation-index all)) (alone_by a f op ∷ [])
          ∙ ap (λ es. c.args.self.now.state.ready ++ es) (sym (each_more a f (take l.operation-index all) op) ∙ ap (each_alone a f) (sym more));
      fits = fits_behind l.self.state c.try_next.new.self.state a f op rest r.settled r.ready
          (subst (AllByRecursion (λ o. is_as_new f (oldest_format o) ≡ true)) left l.invariant.fits.has).1;
      asks = asks_on g.met.S.BlockSource.follows_on c.args.self.now l.self c.try_next.new.self l.invariant.asks c.try_next.ensures.asks;
    }

pub returns-in_err-try_next-clause-asks : goal.returns-in_err-try_next-clause-asks
returns-in_err-try_next-clause-asks g c = asks_on g.met.S.BlockSource.follows_on c.args.self.now c.loop-operation.self c.try_next.new.self c.loop-operation.invariant.asks c.try_next.ensures.asks
