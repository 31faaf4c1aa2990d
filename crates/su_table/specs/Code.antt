-- Codes of trees, by which a model's values are told apart.
use Rattle.std.specs.FinMap.{FinMap, code}
use Rattle.std.specs.Coded.{Coded, code_by, coded_ℕ, coded×}
use Rattle.std.proofs.Common.{refl}
use Rattle.su_node.specs.Inode.{Inode}
use Rattle.su_node.specs.Code.{inode_code}
use Rattle.su_bytes.specs.Place.{Place, place_cmp}
use Rattle.su_table.specs.Tree.{Tree}

abbrev pub place_code : Coded Place
place_code = coded× coded_ℕ coded_ℕ

abbrev pub tree_code : Coded Tree
tree_code = code_by (FinMap place_cmp Inode × FinMap place_cmp Place)
    (coded× (code place_code inode_code) (code place_code place_code))
    (λ T. (T.inodes, T.pointers)) (λ p. record { inodes = p.0; pointers = p.1 }) (λ _. refl)
