use Rattle.std.proofs.Common.{◌∙◌, sym, subst, refl}
use Rattle.su_scratch.specs.Bucket.{newest_of, found_on, IsPageAt}
use Rattle.su_scratch.proofs.BucketLemmas.{AreLeftOn, next_page, told_there, told_before, none_left}
use Rattle.su_scratch.proofs.chains.find_on_pages.Goals as goal

pub loop-next-init : goal.loop-next-init
loop-next-init g c = record {
  found = λ pages keeps are is. record { rest = pages; next_is = is; are_written = are; tells = refl };
  no_more = λ s m. m;
  keeps = λ k. k;
  unchanged = λ k. refl;
}

pub loop-next-preserved : goal.loop-next-preserved
loop-next-preserved g c =
    let l = c.loop-next.invariant in
    let w = g.F.Scratch.written c.args.scratch.now in
    let d = c.args.digest.now in
    record {
      found = λ pages keeps are is.
          let all = found_on d pages in
          let p = next_page w c.in-Some.place d all (subst (λ n. AreLeftOn w n d all) c.in-Some.is (l.found pages keeps are is)) in
          let page = subst (λ x. IsPageAt x c.in-Some.place (newest_of p.older) p.notes) (sym (l.unchanged keeps)) p.page in
          let told = c.in_ok-told.ensures.told (newest_of p.older) p.notes (l.keeps keeps) page in
          told_before w c.in-Some.place d all p _ _ told.0 told.1 (sym c.is_some.ensures ∙ c.if-is_some.false);
      no_more = λ s m. l.no_more s (c.page_at.ensures.no_more s m);
      keeps = λ k. c.page_at.ensures.keeps (l.keeps k);
      unchanged = λ k. c.page_at.ensures.unchanged (l.keeps k) ∙ l.unchanged k;
    }

pub returns-then-is_some-clause-found : goal.returns-then-is_some-clause-found
returns-then-is_some-clause-found g c = λ pages keeps are is.
    let l = c.loop-next.invariant in
    let w = g.F.Scratch.written c.args.scratch.now in
    let d = c.args.digest.now in
    let all = found_on d pages in
    let p = next_page w c.in-Some.place d all (subst (λ n. AreLeftOn w n d all) c.in-Some.is (l.found pages keeps are is)) in
    let page = subst (λ x. IsPageAt x c.in-Some.place (newest_of p.older) p.notes) (sym (l.unchanged keeps)) p.page in
    let told = c.in_ok-told.ensures.told (newest_of p.older) p.notes (l.keeps keeps) page in
    told_there w c.in-Some.place d all p _ told.1 (sym c.is_some.ensures ∙ c.if-is_some.true)

pub returns-clause-found : goal.returns-clause-found
returns-clause-found g c = λ pages keeps are is.
    let l = c.loop-next.invariant in
    let w = g.F.Scratch.written c.args.scratch.now in
    let d = c.args.digest.now in
    let all = found_on d pages in
    none_left w d all (subst (λ n. AreLeftOn w n d all) c.in_default.is (l.found pages keeps are is))
