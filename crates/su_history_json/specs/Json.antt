-- The lines of a history as JSON: an array of objects.
use Rattle.std.specs.Prelude.{ℕ, List, codes, map, Option, Some, None, option_map}
use Rattle.serde_json.specs.Data.{Data, null, number, unsigned, string, array, object, member, no_members}
use Rattle.serde_json.specs.View.{items_of}
use Rattle.su_bytes.specs.declared.file_ids.FileId.{FileId}
use Rattle.su_history.specs.declared.line.Line.{Line}
use Rattle.su_history.specs.declared.line.Deed.{Deed}
use Rattle.su_history.specs.declared.line.Deed.TheVariants.{Made, Put, Wrote, Cut, Linked, Renamed, Removed, TookOver, Dropped, Together, Undid, NamedKey}
use Rattle.su_history.specs.declared.line.Fate.{Fate}
use Rattle.su_history.specs.declared.line.Fate.TheVariants.{Undone}
use Rattle.su_history_text.specs.FileNames.{Names}
use Rattle.su_history_text.specs.Parts.{author_text, file_text}

abbrev pub what_word : Deed → List ℕ
what_word (Made c) = codes "made"
what_word (Put c n) = codes "put"
what_word (Wrote f n) = codes "wrote"
what_word (Cut t) = codes "cut"
what_word (Linked l) = codes "linked"
what_word (Renamed r) = codes "renamed"
what_word (Removed u) = codes "removed"
what_word (TookOver t) = codes "took"
what_word (Dropped d) = codes "dropped"
what_word (Together s) = codes "together"
what_word (Undid n) = codes "undid"
what_word NamedKey = codes "rekeyed"

-- the file that a deed is about
abbrev pub file_of : Deed → Option FileId
file_of (Made c) = Some c.file
file_of (Put c n) = Some c.file
file_of (Wrote f n) = Some f
file_of (Cut t) = Some t.file
file_of (Linked l) = Some l.file
file_of (Renamed r) = Some r.file
file_of (Removed u) = Some u.file
file_of (TookOver t) = Some t.file
file_of _ = None

-- how many bytes were written, or which size a file got
abbrev pub bytes_of : Deed → Option ℕ
bytes_of (Put c n) = Some n
bytes_of (Wrote f n) = Some n
bytes_of (Together s) = Some s.bytes
bytes_of (Cut t) = Some t.size
bytes_of _ = None

-- the operation that was undone
abbrev pub undid_of : Deed → Option ℕ
undid_of (Undid n) = Some n
undid_of _ = None

-- by which entry a line is undone
abbrev pub undoer_of : Fate → Option ℕ
undoer_of (Undone by) = Some by
undoer_of _ = None

abbrev pub number_or_null : Option ℕ → Data
number_or_null (Some n) = number (unsigned n)
number_or_null None = null

abbrev pub text_or_null : Option (List ℕ) → Data
text_or_null (Some text) = string text
text_or_null None = null

abbrev pub path_data : Names → Deed → Data
path_data names d = text_or_null (option_map (file_text names) (file_of d))

-- The object of a line, its members in the order of their names.
abbrev pub line_data : List (List ℕ × List ℕ) → Names → Line → Data
line_data team names l = object
    (member (codes "author") (string (author_text team l.author))
    (member (codes "bytes") (number_or_null (bytes_of l.deed))
    (member (codes "first") (number (unsigned l.first))
    (member (codes "last") (number (unsigned l.last))
    (member (codes "path") (path_data names l.deed)
    (member (codes "undid") (number_or_null (undid_of l.deed))
    (member (codes "undone_by") (number_or_null (undoer_of l.fate))
    (member (codes "what") (string (what_word l.deed))
    no_members))))))))

-- The array of a history.
abbrev pub history_data : List (List ℕ × List ℕ) → Names → List Line → Data
history_data team names ls = array (items_of (map (line_data team names) ls))
