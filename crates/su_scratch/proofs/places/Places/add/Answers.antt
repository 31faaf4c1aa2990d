use Rattle.std.proofs.Common.{◌++◌, ℕ, List, [], ◌∷◌, append-nil, refl, ◌∙◌, sym, subst}
use Rattle.std.proofs.Math.ListN.{set}
use Rattle.std.proofs.lemmas.List.{get_or_read}
use Rattle.su_scratch.specs.declared.notes.Place.{Place}
use Rattle.su_scratch.specs.Bucket.{Finds, found_with}
use Rattle.su_scratch.specs.Places.{AreHeld, no_notes, bucket_at, place_under}
use Rattle.su_scratch.proofs.Held.{held_with, held_still, finds_same, under_others, under_more}
use Rattle.su_scratch.proofs.places.Places.add.Goals as goal

pub returns-in_err-make_bucket-clause-held : goal.returns-in_err-make_bucket-clause-held
returns-in_err-make_bucket-clause-held g c = λ keeps held.
    let w = g.F.Scratch.written c.args.scratch.now in
    let all = subst (AreHeld w) (sym c.self.view_is) held in
    held_still w w c.self.inside.buckets.items c.make_bucket.new.buckets.items (place_under c.self.inside.noted.items) ([], sym (append-nil w)) c.make_bucket.ensures.same all

pub returns-in_err-add-clause-held : goal.returns-in_err-add-clause-held
returns-in_err-add-clause-held g c = λ keeps held.
    let w = g.F.Scratch.written c.args.scratch.now in
    let w' = g.F.Scratch.written c.add.new.scratch in
    let all = subst (AreHeld w) (sym c.self.view_is) held in
    let old = c.self.inside.buckets.items in
    let middle = c.make_bucket.new.buckets.items in
    let index = c.bucket_of-index.result in
    let found = place_under c.self.inside.noted.items in
    let there = get_or_read middle index c.index_mut-bucket.result.now c.in_ok-make_bucket.ensures.made c.index_mut-bucket.ensures.value no_notes ∙ c.make_bucket.ensures.same index in
    let here = c.in_err-add.ensures.err index found keeps (subst (λ b. Finds index w b found) (sym there) (all index)) in
    held_with w w' old middle (set middle index c.add.new.self) index c.add.new.self found found (c.add.ensures.grows keeps) c.make_bucket.ensures.same c.in_ok-make_bucket.ensures.made refl here (λ i apart d of. refl) all

pub returns-clause-held : goal.returns-clause-held
returns-clause-held g c = λ keeps held.
    let w = g.F.Scratch.written c.args.scratch.now in
    let w' = g.F.Scratch.written c.add.new.scratch in
    let all = subst (AreHeld w) (sym c.self.view_is) held in
    let old = c.self.inside.buckets.items in
    let middle = c.make_bucket.new.buckets.items in
    let index = c.bucket_of-index.result in
    let noted = c.self.inside.noted.items in
    let n = c.args.note in
    let found = place_under noted in
    let other = place_under (noted ++ (n.digest, n.place) ∷ []) in
    let there = get_or_read middle index c.index_mut-bucket.result.now c.in_ok-make_bucket.ensures.made c.index_mut-bucket.ensures.value no_notes ∙ c.make_bucket.ensures.same index in
    let added = c.in_ok-add.ensures.added index found keeps (subst (λ b. Finds index w b found) (sym there) (all index)) in
    let here = finds_same index w' c.add.new.self (found_with found n) other (λ (d : List ℕ) of. under_more noted n d) added in
    λ i. subst (λ (ns : List (List ℕ × Place)). Finds i w' (bucket_at (set middle index c.add.new.self) i) (place_under ns)) (sym c.and-self-inside.ensures)
    (held_with w w' old middle (set middle index c.add.new.self) index c.add.new.self found other (c.add.ensures.grows keeps) c.make_bucket.ensures.same c.in_ok-make_bucket.ensures.made refl here
    (λ k apart. under_others noted n k (λ e. apart (e ∙ sym c.bucket_of-index.ensures.value))) all i)
