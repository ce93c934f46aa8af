-- Files in memory: what a list of named files holds, and which calls of a schedule fail.
use Rattle.std.specs.Prelude.{◌≡◌, ◌<◌, ℕ, ◌+◌, ◌-◌, ◌^◌, min, Bool, List, [], ◌∷◌, Option, None, Some, if◌then◌else◌, map, get_or, Result, Ok, Err}
use Rattle.std.specs.Str.{bytes_eq}
use Rattle.fuota_run.specs.Outside.{HasCause}

-- a name, and the bytes that it holds
abbrev pub Named : Type 0
Named = List ℕ × List ℕ

-- what is held under a name: the bytes of the first file of that name
abbrev pub held_by : List Named → List ℕ → Option (List ℕ)
held_by [] name = None
held_by (f ∷ fs) name = if bytes_eq f.0 name then Some f.1 else held_by fs name

-- the bytes of the file at a place; none where no place is chosen
abbrev pub bytes_at : List Named → Option ℕ → List ℕ
bytes_at files None = []
bytes_at files (Some i) = get_or (map (λ f. f.1) files) i []

-- what is seen of files in memory: the files; whether one is chosen, and what is left of it (nothing where none is);
-- the numbers of the calls that fail; and how many calls there were, and how many of them failed
pub record SeenFiles : Type 0 where
  pub files : List Named
  pub chosen : Bool
  pub left : List ℕ
  pub fails : List ℕ
  pub calls : ℕ
  pub faults : ℕ

-- what is seen of a sink in memory: all bytes that were written; how many it has room for in all; whether the last call was
-- a `finish` that was Ok; and its calls, as those of files
pub record SeenSink : Type 0 where
  pub bytes : List ℕ
  pub room : ℕ
  pub finished : Bool
  pub fails : List ℕ
  pub calls : ℕ
  pub faults : ℕ

-- the number of the call that comes after so many
abbrev pub next_call : ℕ → ℕ
next_call calls = min (calls + 1) (2 ^ 64 - 1)

-- the count of faults after a call: one more where it failed
abbrev pub faults_after : {T E : Type 0} → Result T E → ℕ → ℕ
faults_after (Ok done) faults = faults
faults_after (Err failed) faults = next_call faults

-- how a call changes a schedule: it is counted, and a fault where it failed; which calls fail stays as it was
pub record IsCounted {T E : Type 0} (old_faults new_faults old_calls new_calls : ℕ) (old_fails new_fails : List ℕ) (result : Result T E) : Type 0 where
  pub cause : HasCause old_faults new_faults result
  pub faults : new_faults ≡ faults_after result old_faults
  pub counted : new_calls ≡ next_call old_calls
  pub schedule : new_fails ≡ old_fails

abbrev pub FilesCount : {T E : Type 0} → (old new : SeenFiles) → Result T E → Type 0
FilesCount old new result = IsCounted old.faults new.faults old.calls new.calls old.fails new.fails result

abbrev pub SinkCounts : {T E : Type 0} → (old new : SeenSink) → Result T E → Type 0
SinkCounts old new result = IsCounted old.faults new.faults old.calls new.calls old.fails new.fails result

-- a sink has no room for any byte of a piece that is not empty
abbrev pub IsFull : (room held piece : ℕ) → Type 0
IsFull room held piece = (held ≡ room) × (0 < piece)
