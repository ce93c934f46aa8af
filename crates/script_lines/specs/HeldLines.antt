-- What is kept of a stream between its pieces, and how a piece changes it.
use Rattle.std.specs.Prelude.{◌≡◌, ◌<◌, ◌≤◌, ℕ, ◌+◌, Bool, true, false, List, [], ◌∷◌, ◌++◌, All, length, drop, get_or, position, Option, Some, None}
use Rattle.script_lines.specs.declared.pieces.Cut.{Cut}
use Rattle.script_lines.specs.declared.pieces.Cut.TheVariants.{More, Line}
use Rattle.script_lines.specs.Limits.{max_line}
use Rattle.script_lines.specs.Lines.{is_feed, lines_of}
use Rattle.script_lines.specs.Pieces.{ended_of, open_of, cut}

-- the open line, and the line that has just ended
pub record HeldLines : Type 0 where
  pub open_line : List ℕ
  pub line : Option (List ℕ)

-- it stands for every stream whose part after its last line feed is the open line, once cut
abbrev pub LinesStand : HeldLines → List ℕ → Type 0
LinesStand held stream = held.open_line ≡ cut (open_of stream)

-- how much of a piece is used: up to and with its first line feed, or all of it
abbrev pub used_by : List ℕ → Option ℕ → ℕ × Cut
used_by piece None = (length piece, More)
used_by piece (Some feed) = (feed + 1, Line)

abbrev pub used_of : List ℕ → ℕ × Cut
used_of piece = used_by piece (position is_feed piece)

-- no line ended between the streams; or one did, and it is given
abbrev pub Ended : (old new : List ℕ) → HeldLines → Cut → Type 0
Ended old new held More = ended_of new ≡ ended_of old
Ended old new held Line = (line : List ℕ) × (ended_of new ≡ ended_of old ++ line ∷ []) × (held.line ≡ Some (cut line))

-- a stream goes on by some bytes
pub record GoesOn (old new : HeldLines) (bytes : List ℕ) (answer : Cut) (stream : List ℕ) : Type 0 where
  pub stands : LinesStand new (stream ++ bytes)
  pub lines : Ended stream (stream ++ bytes) new answer

-- the stream is at its end: its last line had no line feed, and is given; or there is no such line
abbrev pub Ends : HeldLines → List ℕ → Bool → Type 0
Ends held stream true = (line : List ℕ) × (lines_of stream ≡ ended_of stream ++ line ∷ []) × (held.line ≡ Some (cut line))
Ends held stream false = lines_of stream ≡ ended_of stream

-- the bytes that are kept are those of the open line, or of one that has ended
abbrev pub open_in : List ℕ → Bool → List ℕ
open_in bytes false = bytes
open_in bytes true = []

abbrev pub line_in : List ℕ → Bool → Option (List ℕ)
line_in bytes false = None
line_in bytes true = Some bytes

abbrev pub held_as : List ℕ → Bool → HeldLines
held_as bytes ended = record { open_line = open_in bytes ended; line = line_in bytes ended }

-- the last line feed is at this place
pub record IsLastFeed (piece : List ℕ) (end : ℕ) : Type 0 where
  pub inside : end < length piece
  pub feed : is_feed (get_or piece end 0) ≡ true
  pub none : All (λ b. is_feed b ≡ false) (drop (end + 1) piece)

-- a line of a piece that begins where no line is open ends at this place, and all of it is given
pub record IsWholeLine (held : HeldLines) (piece : List ℕ) (end : ℕ) : Type 0 where
  pub fresh : held.open_line ≡ []
  pub feed : position is_feed piece ≡ Some end
  pub fits : end ≤ max_line + 1
