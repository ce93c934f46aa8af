-- The lines of a device's sessions, each with its verdict (this project's profile).
use Rattle.std.specs.Prelude.{ℕ, Bool, true, false, nat_lt, List, [], ◌++◌, codes, Option, Some, None}
use Rattle.std.specs.Fmt.{decimal}
use Rattle.std.specs.Str.{bytes_eq}
use Rattle.hex.specs.Hex.{encode_lower}
use Rattle.frag_session.specs.declared.answers.Verdict.{Verdict}
use Rattle.frag_session.specs.declared.answers.Verdict.TheVariants as verdict
use Rattle.frag_session.specs.Session.{Session, Seen, seen_of, view_of}
use Rattle.device_core.specs.SessionTable.{SessionTable}
use Rattle.report_lines.specs.Devices.{◌⧺◌}

-- ---- what a report says of a whole file: whether it is that of an image, or its bytes

pub data ToldFile : Type 0 where
  same : (image : List ℕ) → ToldFile
  whole : ToldFile

-- whether the file is the image
abbrev pub same_word : Bool → List ℕ
same_word true = codes " same"
same_word false = codes " other"

-- the file in hex, on a line of its own, where it is whole
abbrev pub file_line : Verdict → (file : List ℕ) → List ℕ
file_line verdict.Receiving file = []
file_line (verdict.Complete line) file = codes "file " ++ (encode_lower file ++ codes "\n")
file_line (verdict.NoRows line) file = []
file_line (verdict.Conflict line) file = []

-- ---- lines

-- the verdict; that of a whole file may have more after it
abbrev pub verdict_text : Verdict → (behind : List ℕ) → List ℕ
verdict_text verdict.Receiving behind = codes "receiving"
verdict_text (verdict.Complete line) behind = codes "complete at " ⧺ decimal line ⧺ behind
verdict_text (verdict.NoRows line) behind = codes "norows at " ⧺ decimal line
verdict_text (verdict.Conflict line) behind = codes "conflict at " ⧺ decimal line

-- session I received N missing K STATE
abbrev pub session_text : (index received missing : ℕ) → (verdict : List ℕ) → List ℕ
session_text index received missing verdict =
    codes "session " ⧺ decimal index ⧺ codes " received " ⧺ decimal received ⧺ codes " missing " ⧺ decimal missing ⧺ codes " "
    ⧺ verdict ⧺ codes "\n"

-- what a session shows: same or other by its file, or the file after its line
abbrev pub seen_line : ToldFile → (index : ℕ) → Seen → List ℕ
seen_line (same image) index seen =
    session_text index seen.received seen.missing (verdict_text seen.verdict (same_word (bytes_eq seen.file image)))
seen_line whole index seen =
    session_text index seen.received seen.missing (verdict_text seen.verdict []) ++ file_line seen.verdict seen.file

-- no line without a session
abbrev pub session_line : ToldFile → (index : ℕ) → Option Seen → List ℕ
session_line tail index None = []
session_line tail index (Some seen) = seen_line tail index seen

-- the line of a session, with these words as its verdict
abbrev pub saying : (index : ℕ) → Session → List ℕ → List ℕ
saying index s words = session_text index (seen_of s).received (seen_of s).missing words

-- the lines of all sessions, in the order of their indexes
abbrev pub session_lines : ToldFile → SessionTable → List ℕ
session_lines tail table =
    session_line tail 0 (view_of table.first) ⧺ session_line tail 1 (view_of table.second)
    ⧺ session_line tail 2 (view_of table.third) ⧺ session_line tail 3 (view_of table.fourth)

-- ---- where the line of a session is among them

abbrev pub line_where : Bool → (line : List ℕ) → List ℕ
line_where true line = line
line_where false line = []

-- the lines of the sessions below an index
abbrev pub lines_below : ToldFile → SessionTable → (index : ℕ) → List ℕ
lines_below tail table index =
    line_where (nat_lt 0 index) (session_line tail 0 (view_of table.first))
    ⧺ line_where (nat_lt 1 index) (session_line tail 1 (view_of table.second))
    ⧺ line_where (nat_lt 2 index) (session_line tail 2 (view_of table.third))

-- and of those above it
abbrev pub lines_above : ToldFile → SessionTable → (index : ℕ) → List ℕ
lines_above tail table index =
    line_where (nat_lt index 1) (session_line tail 1 (view_of table.second))
    ⧺ line_where (nat_lt index 2) (session_line tail 2 (view_of table.third))
    ⧺ line_where (nat_lt index 3) (session_line tail 3 (view_of table.fourth))
