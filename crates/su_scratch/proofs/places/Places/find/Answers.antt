use Rattle.std.proofs.Common.{ap, ◌∙◌, get_or, arith}
use Rattle.su_scratch.specs.Places.{Noted, no_notes, place_under, bucket_at}
use Rattle.su_scratch.proofs.Held.{nothing_there, find_here}
use Rattle.su_scratch.proofs.places.Places.find.Goals as goal

pub returns-in-Some-clause-found : goal.returns-in-Some-clause-found
returns-in-Some-clause-found g c = λ keeps held.
    let same = c.deref.ensures.value ∙ ap (λ (p : Noted). p.buckets) c.self.view_is in
    c.find.ensures.found (place_under c.args.self.now.noted) keeps
    (find_here c.args.digest.now (g.F.Scratch.written c.args.scratch.now) c.args.self.now c.in-Some.bucket.now c.deref.result.now _ same c.bucket_of.ensures.value (c.in-Some.ensures.lookup.4 (omega arith) no_notes) held)

pub returns-in-None-clause-found : goal.returns-in-None-clause-found
returns-in-None-clause-found g c = λ keeps held.
    let same = c.deref.ensures.value ∙ ap (λ (p : Noted). p.buckets) c.self.view_is in
    let none = c.in-None.ensures.lookup.4 (omega arith) no_notes in
    nothing_there c.args.digest.now (g.F.Scratch.written c.args.scratch.now) c.args.self.now (none ∙ ap (λ ys. get_or ys c.bucket_of.result no_notes) same ∙ ap (bucket_at c.args.self.now.buckets) c.bucket_of.ensures.value) held
