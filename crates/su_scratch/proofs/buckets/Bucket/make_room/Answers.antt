use Rattle.std.proofs.Common.{◌≡◌, ◌++◌, ap, ◌∙◌, sym, refl, arith, length}
use Rattle.su_scratch.specs.declared.pages.TheConstants.{NOTES_OF_A_PAGE}
use Rattle.su_scratch.specs.Page.{page_bytes}
use Rattle.su_scratch.specs.Bucket.{InMemory}
use Rattle.su_scratch.proofs.BucketLemmas.{page_moved}
use Rattle.su_scratch.proofs.buckets.Bucket.make_room.Goals as goal

pub returns-clause-same : goal.returns-clause-same
returns-clause-same g c = λ i found keeps f.
    let w = g.F.Scratch.written c.args.scratch.now in
    let memory = ap (λ (b : InMemory). b.notes) c.self.view_is in
    let older = ap (λ (b : InMemory). b.page) c.self.view_is in
    let many : length c.self.inside.notes.items ≡ NOTES_OF_A_PAGE = omega (arith, c.len.ensures) in
    let bytes = c.deref-2.ensures.value ∙ c.in_ok-page.ensures ∙ ap (page_bytes c.self.inside.page) (c.deref.ensures.value ∙ memory) ∙ ap (λ o. page_bytes o c.args.self.now.notes) older in
    page_moved i w (g.F.Scratch.written c.append.new.self) c.args.self.now _ found c.end-place.result (sym (ap length memory) ∙ many) (c.end-place.ensures keeps) (omega arith)
    (c.in_ok-append.ensures.appended keeps ∙ ap (λ s. w ++ s) bytes) c.clear.ensures.items refl f
