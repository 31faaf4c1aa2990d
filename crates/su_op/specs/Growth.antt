-- Edits that add to what is free, and so can be taken away again.
use Rattle.std.specs.Prelude.{◌≡◌, true, List, [], ◌∷◌, Some}
use Rattle.su_table.specs.Tree.{Tree}
use Rattle.su_table.specs.Cell.{Cell.Pointer, val}
use Rattle.su_table.specs.Query.{is_nothing, is_free_at, is_name_free_at}
use Rattle.su_node.specs.InodeChange.{InodeChange.Named, InodeChange.Made, InodeChange.Copied}
use Rattle.su_table.specs.Edit.{Edit, Edit.Inodes, Edit.Pointers, edit}

-- what the edit adds stands nowhere yet
abbrev pub IsFreeFor : Tree → Edit → Type 0
IsFreeFor T (Inodes p (Named x (Some f))) = is_name_free_at T p x ≡ true
IsFreeFor T (Inodes p (Made home kind)) = is_free_at T p ≡ true
IsFreeFor T (Inodes p (Copied i)) = is_free_at T p ≡ true
IsFreeFor T (Pointers g (Some p)) = is_nothing (val T (Pointer g)) ≡ true
IsFreeFor T _ = Unit {0}

-- each in its turn
abbrev pub AreFreeFor : Tree → List Edit → Type 0
AreFreeFor T [] = Unit {0}
AreFreeFor T (e ∷ es) = IsFreeFor T e × AreFreeFor (edit T e) es
