-- A consumer of the lines of a stream, and the lines that it stands after.
use Rattle.std.specs.Prelude.{◌≡◌, ℕ, List, [], ◌∷◌, ◌++◌}
use Rattle.script_lines.specs.Pieces.{cut}

-- whatever lines it stood after, it stands after one line more, of which it hears what it is given
abbrev pub GoesBehind : {W : Type 0} → (W → List (List ℕ) → Type 0) → W → List ℕ → W → Type 0
GoesBehind Stands old line new =
    (lines : List (List ℕ)) (whole : List ℕ) → line ≡ cut whole → Stands old lines → Stands new (lines ++ whole ∷ [])
