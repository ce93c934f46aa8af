-- A consumer that hears the lines of a stream, one after another.
use Rattle.std.specs.Prelude.{◌≡◌, ℕ, List, [], ◌∷◌, ◌++◌}
use Rattle.script_lines.specs.Lines.{lines_of}
use Rattle.script_lines.specs.Pieces.{ended_of, cut_lines}
use Rattle.script_lines.specs.HeldLines.{HeldLines, LinesStand}

-- from one state to another by hearing all the lines in order
unfoldable pub HearsAll : {W : Type 0} → (W → List ℕ → W → Type 0) → W → List (List ℕ) → W → Type 0
HearsAll Step old [] new = new ≡ old
HearsAll {W} Step old (line ∷ lines) new = (next : W) × Step old line next × HearsAll Step next lines new

-- for a stream so far: the open line is held, and the consumer has heard the lines that ended, since it was in its first state
pub record HasHeard {W : Type 0} (Step : W → List ℕ → W → Type 0) (first : W) (held : HeldLines) (now : W) (stream : List ℕ) : Type 0 where
  pub stands : LinesStand held stream
  pub heard : HearsAll Step first (cut_lines (ended_of stream)) now

-- the stream goes on by some bytes, whatever it was so far
abbrev pub Hears : {W : Type 0} → (W → List ℕ → W → Type 0) → (old new : HeldLines) → (before now : W) → List ℕ → Type 0
Hears {W} Step old new before now bytes =
    (first : W) (stream : List ℕ) → HasHeard Step first old before stream → HasHeard Step first new now (stream ++ bytes)

-- all lines of a stream, each cut
abbrev pub HearsLines : {W : Type 0} → (W → List ℕ → W → Type 0) → W → W → List ℕ → Type 0
HearsLines Step first now stream = HearsAll Step first (cut_lines (lines_of stream)) now
