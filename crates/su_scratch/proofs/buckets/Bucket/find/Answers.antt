use Rattle.std.proofs.Common.{◌≡◌, ap, ◌∙◌, sym, subst}
use Rattle.std.specs.Prelude.{IfOk}
use Rattle.su_scratch.specs.Page.{place_in}
use Rattle.su_scratch.specs.Bucket.{InMemory}
use Rattle.su_scratch.proofs.BucketLemmas.{found_in_memory, found_on_pages}
use Rattle.su_scratch.proofs.buckets.Bucket.find.Goals as goal

pub returns-in-Some-clause-found : goal.returns-in-Some-clause-found
returns-in-Some-clause-found g c = λ found keeps f.
    let d = c.args.digest.now in
    let memory = ap (λ (b : InMemory). b.notes) c.self.view_is in
    let there = c.in-Some.ensures ∙ ap (place_in d) (c.deref.ensures.value ∙ memory) in
    found_in_memory d (g.F.Scratch.written c.args.scratch.now) c.args.self.now found c.in-Some.place f (sym there)

pub returns-in-None-clause-found : goal.returns-in-None-clause-found
returns-in-None-clause-found g c = λ found keeps f.
    let d = c.args.digest.now in
    let memory = ap (λ (b : InMemory). b.notes) c.self.view_is in
    let page = ap (λ (b : InMemory). b.page) c.self.view_is in
    let none = c.in-None.ensures ∙ ap (place_in d) (c.deref.ensures.value ∙ memory) in
    subst (λ o. IfOk c.find_on_pages.result (λ x. x ≡ o)) (found_on_pages d (g.F.Scratch.written c.args.scratch.now) c.args.self.now found f (sym none))
    (c.find_on_pages.ensures.found f.pages keeps f.are_written (page ∙ f.newest))
