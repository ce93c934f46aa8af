-- The answer of reading a whole source.
use Rattle.std.specs.Prelude.{◌≡◌, ◌⊎◌, ℕ, ◌<◌, List, length, ⊤, Option, None, Some, IfSome}
use Rattle.fuota_run.specs.Outside.{Held, IsReadSoFar}
use Rattle.fuota_run.specs.Words.{Invocation, plays, payloads, generates, plays_two}

-- where the files tell what the name holds: all of it, within the limit; or it goes on after the limit
abbrev pub IsSource : Option Held → List ℕ → ℕ → List ℕ → Type 0
IsSource None name limit bytes = ⊤
IsSource (Some held) name limit bytes = held name ≡ Some bytes

-- a told file is longer than is read
abbrev pub IsTooLong : Option Held → List ℕ → ℕ → Type 0
IsTooLong None name limit = ⊤
IsTooLong (Some held) name limit = IfSome (held name) (λ bytes. limit < length bytes)

-- where the files tell what the name holds: exactly so many bytes of it were taken, and the others are left
abbrev pub IsTaken : Option Held → List ℕ → ℕ → Option (List ℕ) → Type 0
IsTaken None name taken left = ⊤
IsTaken (Some held) name taken left = (bytes : List ℕ) × (length bytes ≡ taken) × IsReadSoFar (Some held) name bytes left

-- so many of a file that is asked for
abbrev pub IsTakenOf : Option Held → Option Invocation → ℕ → Option (List ℕ) → Type 0
IsTakenOf held None taken left = ⊥
IsTakenOf held (Some (plays what image script)) taken left = IsTaken held image taken left ⊎ IsTaken held script taken left
IsTakenOf held (Some (payloads what file)) taken left = IsTaken held file taken left
IsTakenOf held (Some (generates seed)) taken left = ⊥
IsTakenOf held (Some (plays_two image_a image_b script)) taken left =
    IsTaken held image_a taken left ⊎ (IsTaken held image_b taken left ⊎ IsTaken held script taken left)
