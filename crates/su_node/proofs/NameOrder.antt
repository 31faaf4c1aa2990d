-- The order of names is total, and tells them apart.
use Rattle.std.specs.Cmp.{IsTotalOrder}
use Rattle.std.specs.Cmp.Lexicographic.{nat_list_cmp_total}
use Rattle.std.specs.FinMap.{IsAntisymmetric, nat_cmp-IsAntisymmetric, slice_cmp-IsAntisymmetric}
use Rattle.su_node.specs.Name.{name_cmp}

pub name_cmp_total : IsTotalOrder name_cmp
name_cmp_total = nat_list_cmp_total

pub name_cmp_exact : IsAntisymmetric name_cmp
name_cmp_exact = slice_cmp-IsAntisymmetric nat_cmp-IsAntisymmetric
