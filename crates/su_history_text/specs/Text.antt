-- What people are told of a history: a line of text for each of its lines.
use Rattle.std.specs.Prelude.{ℕ, ◌==◌, if◌then◌else◌, List, [], ◌∷◌, ◌++◌, codes}
use Rattle.std.specs.Fmt.{decimal}
use Rattle.std.specs.List.{flat_map}
use Rattle.su_bytes.specs.declared.file_ids.FileId.{FileId}
use Rattle.su_bytes.specs.declared.file_ids.Kind.{Kind}
use Rattle.su_bytes.specs.declared.file_ids.Kind.TheVariants.{File, Dir}
use Rattle.su_bytes.specs.Place.{file_eq}
use Rattle.su_op.specs.declared.create.Create as creates
use Rattle.su_op.specs.declared.drop_body.DropBody as drops
use Rattle.su_op.specs.declared.link.Link as links
use Rattle.su_op.specs.declared.rename.Rename as renames
use Rattle.su_op.specs.declared.take.Take as takes
use Rattle.su_op.specs.declared.truncate.Truncate as truncates
use Rattle.su_op.specs.declared.unlink.Unlink as unlinks
use Rattle.su_spelling.specs.Shown.{shown}
use Rattle.su_history.specs.declared.line.Line.{Line}
use Rattle.su_history.specs.declared.line.Deed.{Deed}
use Rattle.su_history.specs.declared.line.Deed.TheVariants.{Made, Put, Wrote, Cut, Linked, Renamed, Removed, TookOver, Dropped, Together, Undid, NamedKey}
use Rattle.su_history.specs.declared.line.Fate.{Fate}
use Rattle.su_history.specs.declared.line.Fate.TheVariants.{Undone}
use Rattle.su_history_text.specs.FileNames.{Names}
use Rattle.su_history_text.specs.Parts.{author_text, file_text, longest_name, numbers_text, padded, size_text}

-- ---- what was done

-- `made /a`, or `made the folder /a`
abbrev pub made_words : Kind → List ℕ
made_words File = codes "made "
made_words Dir = codes "made the folder "

abbrev pub made_text : Names → creates.Create → List ℕ
made_text names c = made_words c.kind ++ file_text names c.file

-- `put /a (66000 bytes)`
abbrev pub put_text : Names → creates.Create → ℕ → List ℕ
put_text names c n = codes "put " ++ file_text names c.file ++ codes " (" ++ size_text n ++ codes ")"

-- `wrote 4096 bytes to /a`
abbrev pub wrote_text : Names → FileId → ℕ → List ℕ
wrote_text names f n = codes "wrote " ++ size_text n ++ codes " to " ++ file_text names f

-- `set the size of /a to 10 bytes`, which may be more than it had
abbrev pub cut_text : Names → truncates.Truncate → List ℕ
cut_text names t =
    codes "set the size of " ++ file_text names t.file ++ codes " to " ++ size_text t.size

-- `gave /a a further name, b in /d`
abbrev pub linked_text : Names → links.Link → List ℕ
linked_text names l =
    codes "gave " ++ file_text names l.file ++ codes " a further name, " ++ shown l.name
    ++ codes " in " ++ file_text names l.dir

-- `renamed a in /d to b`, or `moved a in /d to b in /e`
abbrev pub renamed_text : Names → renames.Rename → List ℕ
renamed_text names r =
    if file_eq r.from_ r.to_
    then codes "renamed " ++ shown r.old_ ++ codes " in " ++ file_text names r.from_
    ++ codes " to " ++ shown r.new_
    else codes "moved " ++ shown r.old_ ++ codes " in " ++ file_text names r.from_
    ++ codes " to " ++ shown r.new_ ++ codes " in " ++ file_text names r.to_

-- `took the name a out of /d`
abbrev pub removed_text : Names → unlinks.Unlink → List ℕ
removed_text names u =
    codes "took the name " ++ shown u.name ++ codes " out of " ++ file_text names u.dir

-- `took /a over`
abbrev pub took_text : Names → takes.Take → List ℕ
took_text names t = codes "took " ++ file_text names t.file ++ codes " over"

-- `dropped an old copy, number 5 of its own`: what stood at a number of the author's own, and was
-- a file's before another user took the file over
abbrev pub dropped_text : drops.DropBody → List ℕ
dropped_text d = codes "dropped an old copy, number " ++ decimal d.body ++ codes " of its own"

-- `did 5 operations together (4096 bytes)`
abbrev pub together_text : ℕ → ℕ → List ℕ
together_text n bytes =
    codes "did " ++ decimal n ++ codes " operations together (" ++ size_text bytes ++ codes ")"

abbrev pub deed_text : Names → Deed → List ℕ
deed_text names (Made c) = made_text names c
deed_text names (Put c n) = put_text names c n
deed_text names (Wrote f n) = wrote_text names f n
deed_text names (Cut t) = cut_text names t
deed_text names (Linked l) = linked_text names l
deed_text names (Renamed r) = renamed_text names r
deed_text names (Removed u) = removed_text names u
deed_text names (TookOver t) = took_text names t
deed_text names (Dropped d) = dropped_text d
deed_text names (Together s) = together_text s.operations s.bytes
deed_text names (Undid n) = codes "undid " ++ decimal n
deed_text names NamedKey = codes "went on to another key"

-- ---- what became of it

-- the number is that of the undo of the last entry
abbrev pub undone_text : ℕ → ℕ → ℕ → List ℕ
undone_text first last by =
    (if first == last then codes " (undone by " else codes " (undone, the last by ")
    ++ decimal by ++ codes ")"

abbrev pub fate_text : ℕ → ℕ → Fate → List ℕ
fate_text first last (Undone by) = undone_text first last by
fate_text first last _ = []

-- ---- lines

-- The text of a line, where names have so many columns.
abbrev pub line_text_at : ℕ → List (List ℕ × List ℕ) → Names → Line → List ℕ
line_text_at width team names l =
    padded 10 (numbers_text l.first l.last) ++ codes " "
    ++ padded width (author_text team l.author) ++ codes "  "
    ++ deed_text names l.deed ++ fate_text l.first l.last l.fate

-- The text of a line.
abbrev pub line_text : List (List ℕ × List ℕ) → Names → Line → List ℕ
line_text team names l = line_text_at (longest_name team) team names l

-- The text of a history: that of each line, and a line feed behind it.
abbrev pub history_text : List (List ℕ × List ℕ) → Names → List Line → List ℕ
history_text team names ls = flat_map (λ l. line_text team names l ++ 10 ∷ []) ls
