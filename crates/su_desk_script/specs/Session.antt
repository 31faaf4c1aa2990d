-- A desk with what a script keeps beside it, and what each command does to it.
use Rattle.std.specs.Prelude.{◌≡◌, ℕ, ◌⊎◌, List, [], map, cond, nat_eq, Option, None, Some, Result, Err, codes}
use Rattle.std.specs.FinMap.{get}
use Rattle.std.specs.Option.{unwrap_or, ok_or, option_map}
use Rattle.std.specs.Cmp.Lexicographic.{pointwise}
use Rattle.su_bytes.specs.Membership.{Membership}
use Rattle.su_bytes.specs.Principal.{principals}
use Rattle.su_bytes.specs.declared.file_ids.FileId.{FileId}
use Rattle.su_bytes.specs.declared.formats.Format.{Format}
use Rattle.su_bytes.specs.declared.refusals.Refusal.{Refusal}
use Rattle.su_bytes.specs.declared.refusals.Refusal.TheVariants.{NoMemory, NoFile, WrongKind}
use Rattle.su_node.specs.Inode.{Inode}
use Rattle.su_bytes.specs.Place.{Place}
use Rattle.su_table.specs.Tree.{Tree, genesis}
use Rattle.su_table.specs.Query.{body, listing, contents_within}
use Rattle.su_table.specs.Handle.{handle}
use Rattle.su_desk.specs.History.{entry_by, undo_by, tree, last_live}
use Rattle.su_desk.specs.Version.{versions}
use Rattle.su_desk.specs.Desk.{DeskState, Answers}
use Rattle.su_desk_lines.specs.declared.ranges.Command.{Command}
use Rattle.su_desk_lines.specs.declared.ranges.Command.TheVariants.{Apply, UndoLast, Ask, Versions, Mark, Same}
use Rattle.su_desk_lines.specs.declared.ranges.Question.{Question}
use Rattle.su_desk_lines.specs.declared.ranges.Question.TheVariants.{List as Listing, Read, Describe, Handle}
use Rattle.su_desk_script.specs.Answer.{answer_text, refused_text, listing_text, bytes_text, description_text, digest_line, versions_text}

-- a desk, the format of the changes that are made, and the digests that were kept to compare with
pub record SessionState : Type 0 where
  pub desk : DeskState
  pub format : Format
  pub mark : Option (List (List ℕ))

-- the tree of a desk. (A good history always has one.)
abbrev pub desk_tree : DeskState → Tree
desk_tree d = unwrap_or (tree d.roster d.history) genesis

-- ---- questions

-- what stands at the body of a file, and where
abbrev pub description_at : Tree → FileId → Option Place → Result (Place × Inode) Refusal
description_at T f None = Err (NoFile f)
description_at T f (Some p) = ok_or (option_map (λ i. (p, i)) (get T.inodes p)) (WrongKind f)

abbrev pub description : Tree → FileId → Result (Place × Inode) Refusal
description T f = description_at T f (body T f)

-- what a question prints
abbrev pub question_text : Tree → Question → List ℕ
question_text T (Listing f) = listing_text (listing T f)
question_text T (Read f off len) = bytes_text (contents_within T f off len)
question_text T (Describe f) = description_text (description T f)
question_text T (Handle p) = digest_line (handle T p)

-- ---- marks

-- the digests of the i-tables of all users, and of all groups
abbrev pub handles : Membership → Tree → List (List ℕ)
handles ro T = map (handle T) (principals ro)

-- whether the digests are those that were kept
abbrev pub same_text : Option (List (List ℕ)) → List (List ℕ) → List ℕ
same_text None now = codes "no mark\n"
same_text (Some kept) now =
    cond (pointwise (pointwise nat_eq) now kept) (codes "same\n") (codes "differs\n")

-- ---- commands

-- a text, or the refusal for want of memory
abbrev pub IsText : List ℕ → List ℕ → Type 0
IsText text out = (out ≡ text) ⊎ (out ≡ refused_text NoMemory)

-- the format and the mark stay
abbrev pub KeepsRest : SessionState → SessionState → Type 0
KeepsRest s s' = (s'.format ≡ s.format) × (s'.mark ≡ s.mark)

-- What a command prints, whose words are all within their ranges, and what the desk and the mark
-- are then. A question and a mark may be refused for want of memory.
abbrev pub Does : SessionState → Command → List ℕ → SessionState → Type 0
Does s (Apply a c) out s' =
    (r : Result ℕ Refusal)
    × Answers s.desk (entry_by a s.format c) r s'.desk
    × KeepsRest s s' × (out ≡ answer_text r)
Does s (UndoLast a) out s' =
    (r : Result ℕ Refusal)
    × Answers s.desk (undo_by a s.format (last_live s.desk.history)) r s'.desk
    × KeepsRest s s' × (out ≡ answer_text r)
Does s (Ask q) out s' = IsText (question_text (desk_tree s.desk) q) out × (s' ≡ s)
Does s Versions out s' =
    (out ≡ versions_text (versions s.desk.roster s.desk.history)) × (s' ≡ s)
Does s Mark out s' =
    ((out ≡ []) × (s' ≡ record s { mark = Some (handles s.desk.roster (desk_tree s.desk)) }))
    ⊎ ((out ≡ refused_text NoMemory) × (s' ≡ s))
Does s Same out s' =
    IsText (same_text s.mark (handles s.desk.roster (desk_tree s.desk))) out × (s' ≡ s)
