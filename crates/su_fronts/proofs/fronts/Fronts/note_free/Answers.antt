use Rattle.std.proofs.Common.{◌≡◌, ◌<◌, ◌-◌, ◌/◌, ◌%◌, length, vec_len, refl, subst, sym, arith, true, false}
use Rattle.std.proofs.Math.Nat.{min-le_left, min-le_right}
use Rattle.std.proofs.lemmas.List.{get_or_default, get_or_past}
use Rattle.su_fronts.specs.Front.{IsNoFreer}
use Rattle.su_fronts.proofs.FrontLemmas.{front_cut, front_none}
use Rattle.su_fronts.proofs.fronts.Fronts.note_free.Goals as goal

pub returns-in-Some : goal.returns-in-Some
returns-in-Some c free now are freer =
    let n = c.number-place.result in
    let fs = c.args.self.now.fronts.items in
    let at = (n - 1) / 1024 in
    let within : at < length fs = omega (arith, c.in-Some.ensures.variant.0 refl, c.args.self.now.fronts.ok) in
    front_cut free now c.args.self.now _ n c.min.result refl c.number-place.ensures.range.0 within
    (omega (arith, c.min.ensures, min-le_left c.in-Some.front.now ((n - 1) % 1024), c.in-Some.ensures.value, get_or_default fs at c.in-Some.front.now 0 within))
    (omega (arith, c.min.ensures, min-le_right c.in-Some.front.now ((n - 1) % 1024)))
    (subst (λ k. IsNoFreer k free now) (sym c.number-place.ensures.value) freer) are

pub returns-in-None : goal.returns-in-None
returns-in-None c free now are freer =
    let n = c.number-place.result in
    let fs = c.args.self.now.fronts.items in
    let at = (n - 1) / 1024 in
    front_none free now c.args.self.now _ n refl c.number-place.ensures.range.0
    (let past : ¬ (at < vec_len c.args.self.now.fronts) = (λ l. let bad : false ≡ true = c.in-None.ensures.variant.1 l in cc) in get_or_past fs at 0 (omega (arith, past, c.args.self.now.fronts.ok)))
    (subst (λ k. IsNoFreer k free now) (sym c.number-place.ensures.value) freer) are
