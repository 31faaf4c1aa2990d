-- Places in i-tables, group files, and their order.
use Rattle.std.specs.Prelude.{ℕ, Bool, false, ◌&&◌}
use Rattle.std.specs.declared.cmp.Ordering.{Ordering}
use Rattle.std.specs.Ordering.{nat_cmp, eq_by_cmp, then_cmp, on}
use Rattle.su_bytes.specs.declared.file_ids.FileId.{FileId}
use Rattle.su_bytes.specs.declared.file_ids.FileId.TheVariants.{User, Group}
use Rattle.su_bytes.specs.Principal.{is_user}
use Rattle.su_bytes.specs.FileId.{is_inum}

-- where an inode stands: a user, and an i-number of the user's table
abbrev pub Place : Type 0
Place = ℕ × ℕ

-- a group, and a number of the group's table
abbrev pub GroupFile : Type 0
GroupFile = ℕ × ℕ

abbrev pub is_place : Place → Bool
is_place p = is_user p.0 && is_inum p.1

-- by user or group, and then by number; the order of group files too
abbrev pub place_cmp : Place → Place → Ordering
place_cmp = then_cmp (on (λ (p : Place). p.0) nat_cmp) (on (λ (p : Place). p.1) nat_cmp)

unfoldable pub place_eq : Place → Place → Bool
place_eq p q = eq_by_cmp place_cmp p q

-- the same file id
abbrev pub file_eq : FileId → FileId → Bool
file_eq (User u i) (User v j) = place_eq (u, i) (v, j)
file_eq (Group g k) (Group h l) = place_eq (g, k) (h, l)
file_eq _ _ = false
