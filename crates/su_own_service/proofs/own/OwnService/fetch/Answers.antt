use Rattle.std.proofs.Common.{◌≡◌, ◌∙◌, ◌-◌, length, ap, refl, sym}
use Rattle.std.specs.Prelude.{slice_get}
use Rattle.std.proofs.lemmas.Option.{slice_get_read}
use Rattle.su_own_service.specs.Kept.{bytes_of}
use Rattle.su_own_service.proofs.OwnLemmas.{fetches_kept}
use Rattle.su_own_service.proofs.own.OwnService.fetch.Goals as goal

pub returns : goal.returns
returns c =
    let at = c.in-Some.ensures.lookup in
    let read = slice_get_read c.deref.result.now (length c.deref.result.now) (c.args.number - 1) c.in-Some.bytes.now refl at.3.0 at.1 in
    let found = sym read ∙ ap (λ l. slice_get l (c.args.number - 1)) c.deref.ensures.value in
    let same : c.in_ok-copy.copy ≡ c.in-Some.bytes.now = c.in_ok-copy.ensures ∙ c.as_slice.ensures in
    (fetches_kept _ c.self.inside.records.items c.args.number c.in-Some.bytes.now c.in_ok-copy.copy (c.self.invariant ∙ ap (λ m. bytes_of m.book) c.self.view_is) c.if-number-eq0.false found same, refl)
