-- The names that a hash tree holds, as a directory sees them.
use Rattle.std.proofs.Common.{◌≡◌, ◌↔◌, ◌∙◌, sym, refl, ap, arith, Bool, IsTrue, true, false, nat_eq, List, [], ◌∷◌, length, Some, None}
use Rattle.std.specs.List.Sorted.{IsStrictlySortedBy}
use Rattle.std.specs.Map.{keys_of}
use Rattle.std.specs.FinMap.{from_entries, len, put}
use Rattle.su_bytes.specs.declared.file_ids.FileId.{FileId}
use Rattle.su_hash_tree.specs.Seen.{Seen, without}
use Rattle.su_node.specs.declared.inodes.Stored.{Stored}
use Rattle.su_node.specs.declared.inodes.Stored.TheVariants.{Bytes as StoredBytes, Names as StoredNames}
use Rattle.su_node.specs.Name.{Name, name_cmp}
use Rattle.su_node.specs.Inode.{Content.Names}
use Rattle.su_node.specs.View.{content_of}
use Rattle.su_node.specs.InodeChange.{with_name}
use Rattle.su_node.proofs.Maps.{from_entries-put, from_entries-without, len-from_entries}
use Rattle.su_node.proofs.NameOrder.{name_cmp_total, name_cmp_exact}

pub name_put : (es : List (Name × FileId)) (x : Name) (f : FileId) → with_name x (Some f) (Names (from_entries es)) ≡ Names (from_entries (put name_cmp x f es))
name_put es x f = ap Names (sym (from_entries-put name_cmp_total name_cmp_exact es x f))

pub name_taken : (es : List (Name × FileId)) (x : Name) → with_name x None (Names (from_entries es)) ≡ Names (from_entries (without name_cmp x es))
name_taken es x = ap Names (sym (from_entries-without name_cmp_total name_cmp_exact es x))

-- a file has no names
pub with_name-file : (x : Name) (v : _) (s : Stored) → ((names : Seen Name FileId) → s ≡ StoredNames names → ⊥) → with_name x v (content_of s) ≡ content_of s
with_name-file x v (StoredBytes bytes) apart = refl
with_name-file x v (StoredNames names) apart = absurd (apart names refl)

none_when_empty : (b : Bool) (es : List (Name × FileId)) → (IsTrue b ↔ (es ≡ [])) → b ≡ nat_eq (length es) 0
none_when_empty b [] h = h.1 refl
none_when_empty true (e ∷ es) h = absurd (omega (arith, ap length (h.0 refl)))
none_when_empty false (e ∷ es) h = grind arith

-- whether there are no names
pub has_none : (b : Bool) (es : List (Name × FileId)) → (IsTrue b ↔ (es ≡ [])) → IsStrictlySortedBy name_cmp (keys_of es) → b ≡ nat_eq (len (from_entries {R = name_cmp} es)) 0
has_none b es h sorted = none_when_empty b es h ∙ ap (λ n. nat_eq n 0) (sym (len-from_entries name_cmp_total es sorted))
