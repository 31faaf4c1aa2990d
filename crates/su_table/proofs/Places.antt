-- The order of places is total, and tells them apart.
use Rattle.std.proofs.Common.{◌≡◌, refl}
use Rattle.std.specs.declared.cmp.Ordering.{Ordering}
use Rattle.std.specs.declared.cmp.Ordering.TheVariants.{Less, Equal, Greater}
use Rattle.std.specs.Ordering.{nat_cmp, ordering_then}
use Rattle.std.specs.Cmp.{IsTotalOrder, nat_cmp_total, then_total, on_total}
use Rattle.std.specs.FinMap.{IsAntisymmetric, nat_cmp-IsAntisymmetric}
use Rattle.su_bytes.specs.Place.{Place, place_cmp}

pub place_cmp_total : IsTotalOrder place_cmp
place_cmp_total = then_total (on_total (λ (p : Place). p.0) nat_cmp_total) (on_total (λ (p : Place). p.1) nat_cmp_total)

both_equal : (r s : Ordering) → ordering_then r s ≡ Equal → (r ≡ Equal) × (s ≡ Equal)
both_equal Less s e = (e, absurd cc)
both_equal Equal s e = (refl, e)
both_equal Greater s e = (e, absurd cc)

pub place_cmp_exact : IsAntisymmetric place_cmp
place_cmp_exact x y e =
    let (a, b) = both_equal (nat_cmp x.0 y.0) (nat_cmp x.1 y.1) e in
    λ i. (nat_cmp-IsAntisymmetric x.0 y.0 a i, nat_cmp-IsAntisymmetric x.1 y.1 b i)
