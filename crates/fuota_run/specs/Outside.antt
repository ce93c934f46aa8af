-- What files and a sink tell, and when one of their calls may fail.
use Rattle.std.specs.Io.KnownBytes.{Appends}
use Rattle.std.specs.Prelude.{◌≡◌, ℕ, ◌+◌, ◌-◌, ◌^◌, ◌≤◌, ◌<◌, min, List, ◌++◌, take, ⊤, Option, None, Some, IsSome, Result, OnOk, OnErr, MatchResult}

-- what each name holds: nothing, or its bytes
abbrev pub Held : Type 0
Held = List ℕ → Option (List ℕ)

-- where the files tell what they hold, something is held under the name
abbrev pub HoldsName : Option Held → List ℕ → Type 0
HoldsName None name = ⊤
HoldsName (Some held) name = IsSome (held name)

-- where the files tell what they hold, the bytes that are left are all those of the name
abbrev pub IsWhole : Option Held → List ℕ → Option (List ℕ) → Type 0
IsWhole None name left = ⊤
IsWhole (Some held) name left = left ≡ held name

-- a count that has risen, or stands at its type's end
abbrev pub HasRisen : ℕ → ℕ → Type 0
HasRisen before now = min (before + 1) (2 ^ 64 - 1) ≤ now

-- a failure comes only where the count of faults rose in this call; the count never falls, and a call that is Ok leaves it
abbrev pub HasCause : {T E : Type 0} → ℕ → ℕ → Result T E → Type 0
HasCause before now r = OnErr r (HasRisen before now) × (before ≤ now) × OnOk r (now ≡ before)

-- a call of `read` gives at most as many bytes as the buffer has
abbrev pub AtMost : {E : Type 0} → Result ℕ E → ℕ → Type 0
AtMost r room = MatchResult r (λ n. n ≤ room) (λ _. ⊤)

-- a call of `write` takes at most the piece, and something of a piece that is not empty
abbrev pub TakesSome : {E : Type 0} → Result ℕ E → ℕ → Type 0
TakesSome r len = MatchResult r (λ n. (n ≤ len) × (0 < len → 0 < n)) (λ _. ⊤)

-- these bytes were read from the name so far, and those are left: together they are all that it holds, where the files tell it
abbrev pub IsReadSoFar : Option Held → List ℕ → List ℕ → Option (List ℕ) → Type 0
IsReadSoFar None name bytes left = ⊤
IsReadSoFar (Some held) name bytes None = ⊥
IsReadSoFar (Some held) name bytes (Some rest) = held name ≡ Some (bytes ++ rest)

-- a front of the text was written, the whole of it maybe
abbrev pub AppendsFront : Option (List ℕ) → Option (List ℕ) → List ℕ → Type 0
AppendsFront old new text = (n : ℕ) × Appends old new (take n text)
