-- What a consumer of a file with a header holds, and after which lines it stands.
use Rattle.std.specs.Prelude.{◌≡◌, ℕ, ◌<◌, List, [], length, Option, Some, None, Result, Ok, Err}
use Rattle.report_lines.specs.declared.faults.LineFault.{LineFault}
use Rattle.report_lines.specs.declared.faults.LineError.{LineError}
use Rattle.report_lines.specs.declared.faults.LineError.TheVariants as error
use Rattle.payload_replay.specs.Headed.{rows_of}

-- what stands for the state after so many lines, once the header has made one; and what keeps it from hearing on, if
-- anything does
pub record HeldHeaded (H : Type 0) : Type 0 where
  pub lines : ℕ
  pub state : Option H
  pub kept : Option LineError

-- before the header nothing is held; after it what stands for the state that the lines lead to
abbrev pub HoldsReached : {S H : Type 0} → (Leads : List (List ℕ) → Result S LineFault → Type 0)
    → (Stands : H → S → Type 0) → ℕ → List (List ℕ) → Option H → Type 0
HoldsReached Leads Stands count lines None = lines ≡ []
HoldsReached {S} Leads Stands count lines (Some held) =
    (count ≡ length lines) × ((state : S) × Leads lines (Ok state) × Stands held state)

-- the lines lead there, or one of them is the first that is refused, or memory was missing
abbrev pub IsHeardBy : {S H : Type 0} → (Leads : List (List ℕ) → Result S LineFault → Type 0)
    → (Stands : H → S → Type 0) → HeldHeaded H → List (List ℕ) → Option LineError → Type 0
IsHeardBy Leads Stands held lines None = HoldsReached Leads Stands held.lines lines held.state
IsHeardBy Leads Stands held lines (Some (error.Line fault)) = (0 < length lines) × Leads lines (Err fault)
IsHeardBy Leads Stands held lines (Some error.Memory) = Unit {0}

-- it stands after these lines
abbrev pub HeadedStands : {S H : Type 0} → (Leads : List (List ℕ) → Result S LineFault → Type 0)
    → (Stands : H → S → Type 0) → HeldHeaded H → List (List ℕ) → Type 0
HeadedStands Leads Stands held lines = IsHeardBy Leads Stands held lines held.kept

-- what the header makes: what stands for the first state over its rows, or it is refused, or memory was missing
abbrev pub IsBegun : {S H : Type 0} → (keyword : List ℕ) → (first : ℕ → S) → (Stands : H → S → Type 0)
    → (header : List ℕ) → Result H LineError → Type 0
IsBegun keyword first Stands header (Ok held) =
    (rows : ℕ) × (rows_of keyword header ≡ Ok rows) × Stands held (first rows)
IsBegun keyword first Stands header (Err (error.Line fault)) =
    (rows_of keyword header ≡ Err fault.why) × (fault.line ≡ 1)
IsBegun keyword first Stands header (Err error.Memory) = Unit {0}
