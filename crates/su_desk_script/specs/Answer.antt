-- The texts that answer a line.
use Rattle.std.specs.Prelude.{ℕ, List, [], ◌∷◌, ◌++◌, Result, Ok, Err, codes}
use Rattle.std.specs.List.{flat_map}
use Rattle.std.specs.Fmt.{decimal}
use Rattle.hex.specs.Hex.{encode_lower}
use Rattle.su_bytes.specs.declared.file_ids.FileId.{FileId}
use Rattle.su_bytes.specs.declared.file_ids.FileId.TheVariants.{User}
use Rattle.su_bytes.specs.declared.file_ids.Kind.{Kind}
use Rattle.su_bytes.specs.declared.file_ids.Kind.TheVariants.{File, Dir}
use Rattle.su_bytes.specs.declared.refusals.Refusal.{Refusal}
use Rattle.su_bytes.specs.Digest.{digest_text}
use Rattle.su_bytes.specs.FileId.{file_id_text}
use Rattle.su_bytes.specs.Refusal.{refusal_text}
use Rattle.su_bytes.specs.Principal.{principal_text}
use Rattle.su_bytes.specs.declared.principals.Principal.{Principal}
use Rattle.su_node.specs.Name.{Name}
use Rattle.su_node.specs.Inode.{Inode, kind_of, size_of}
use Rattle.su_bytes.specs.Place.{Place}

-- `no 28 Blocked 3`
abbrev pub refused_text : Refusal → List ℕ
refused_text r = codes "no " ++ (refusal_text r ++ 10 ∷ [])

-- `ok 4`, or the refusal
abbrev pub answer_text : Result ℕ Refusal → List ℕ
answer_text (Ok n) = codes "ok " ++ (decimal n ++ 10 ∷ [])
answer_text (Err r) = refused_text r

-- `f U0:3`
abbrev pub name_text : Name × FileId → List ℕ
name_text entry = entry.0 ++ 32 ∷ (file_id_text entry.1 ++ 10 ∷ [])

-- a line for each name, or the refusal
abbrev pub listing_text : Result (List (Name × FileId)) Refusal → List ℕ
listing_text (Ok names) = flat_map name_text names
listing_text (Err r) = refused_text r

-- `line 3: bad`
abbrev pub bad_text : ℕ → List ℕ
bad_text k = codes "line " ++ (decimal k ++ (codes ": bad" ++ 10 ∷ []))

-- `68656c6c6f`: bytes in hex, or the refusal
abbrev pub bytes_text : Result (List ℕ) Refusal → List ℕ
bytes_text (Ok bs) = encode_lower bs ++ 10 ∷ []
bytes_text (Err r) = refused_text r

abbrev pub kind_text : Kind → List ℕ
kind_text File = codes "file"
kind_text Dir = codes "dir"

-- `file size 5 links 1 at U0:3`: what stands at a place
abbrev pub inode_text : Place → Inode → List ℕ
inode_text p i =
    kind_text (kind_of i.content)
    ++ (codes " size " ++ (decimal (size_of i.content)
    ++ (codes " links " ++ (decimal i.links
    ++ (codes " at " ++ (file_id_text (User p.0 p.1) ++ 10 ∷ []))))))

-- the same, or the refusal
abbrev pub description_text : Result (Place × Inode) Refusal → List ℕ
description_text (Ok (p, i)) = inode_text p i
description_text (Err r) = refused_text r

-- 64 hex digits
abbrev pub digest_line : List ℕ → List ℕ
digest_line d = digest_text d ++ 10 ∷ []

-- `U0=2`
abbrev pub version_text : Principal × ℕ → List ℕ
version_text v = principal_text v.0 ++ (codes "=" ++ decimal v.1)

abbrev pub further_version_text : Principal × ℕ → List ℕ
further_version_text v = 32 ∷ version_text v

-- `U0=2 U1=0 G0=0 G1=0`
abbrev pub versions_text : List (Principal × ℕ) → List ℕ
versions_text [] = 10 ∷ []
versions_text (v ∷ vs) = (version_text v ++ flat_map further_version_text vs) ++ 10 ∷ []
