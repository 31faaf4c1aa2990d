use Rattle.std.proofs.Common.{◌≡◌, ◌∙◌, sym, ap, subst, List, ℕ, [], ◌∷◌, ◌++◌, inl}
use Rattle.std.specs.Global.{Vec}
use Rattle.std.proofs.lemmas.Result.{err_from_is_err_and}
use Rattle.su_book.specs.declared.events.Event.TheVariants.{Commit}
use Rattle.su_book.specs.Machine.{Stepped}
use Rattle.su_own_service.specs.declared.own.TheConstants.{SEAT}
use Rattle.su_own_service.specs.Kept.{bytes_of}
use Rattle.su_own_service.proofs.OwnLemmas.{more_after_commit, refused_commit}
use Rattle.su_own_service.proofs.own.OwnService.store.Goals as goal

pub returns-in_err-reply : goal.returns-in_err-reply
returns-in_err-reply c =
    let p = err_from_is_err_and c.from_residual-in_err-reply.result c.from_residual-in_err-reply.ensures.1 in
    let bytes = c.new.result in
    let spelled = ap (λ (v : Vec ℕ). v.items) c.new.ensures ∙ c.in_ok-bytes.ensures.items ∙ c.as_slice.ensures in
    let stays = ap (λ b. record { book = b; items = c.self.inside.blocks.items }) c.in_err-reply.ensures.err ∙ c.self.view_is in
    rw (p.1, p.2) (refused_commit c.args.self.now _ c.self.inside.book bytes c.args.commit.now c.in_err-reply.field-0.0 _ spelled stays (ap (λ m. m.book) c.self.view_is) c.in_err-reply.ensures.refused)

pub invariant_of-self-2 : goal.invariant_of-self-2
invariant_of-self-2 c =
    let same : c.new.result ≡ c.in-Commit.offer = cc in
    let kept = c.new-2.ensures ∙ ap (λ (v : Vec ℕ). v.items) (c.into_bytes.ensures ∙ sym same) in
    c.push_reserved.ensures.items
    ∙ ap (λ (l : List (List ℕ)). l ++ c.new-2.result ∷ []) (c.reserve.ensures.items ∙ c.self.invariant)
    ∙ ap (λ (x : List ℕ). bytes_of c.self.inside.book ++ x ∷ []) kept
    ∙ sym (more_after_commit _ _ _ _ _ c.in_ok-reply.ensures.stepped)

pub returns : goal.returns
returns c =
    let bytes = c.new.result in
    let spelled = ap (λ (v : Vec ℕ). v.items) c.new.ensures ∙ c.in_ok-bytes.ensures.items ∙ c.as_slice.ensures in
    inl (
      bytes,
      spelled,
      inl (record {
        told = c.in_ok-reply.reply;
        stepped = subst (λ m. Stepped m.book SEAT (Commit bytes) c.step.new.self c.in_ok-reply.reply) c.self.view_is c.in_ok-reply.ensures.stepped;
        reply_is = c.told.ensures;
        items = ap (λ m. m.items) c.self.view_is;
      }),
    )
