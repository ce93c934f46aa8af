-- A source that is heard line by line as it is read.
use Rattle.std.specs.Prelude.{◌≡◌, ℕ, List, length, Option}
use Rattle.std.specs.Io.KnownBytes.{Consumes}
use Rattle.script_lines.specs.HeldLines.{HeldLines}
use Rattle.script_lines.specs.Hearing.{Hears}

-- the stream goes on by so many bytes, which the source gives, and their lines are heard
abbrev pub HearsOn : {W : Type 0} → (W → List ℕ → W → Type 0) → (left_before left : Option (List ℕ)) → (old new : HeldLines) → (before now : W) → ℕ → Type 0
HearsOn Step left_before left old new before now n =
    (bytes : List ℕ) × (length bytes ≡ n) × Consumes left_before left bytes × Hears Step old new before now bytes
