-- A world after the lines that it has heard, whichever they were.
use Rattle.std.specs.Prelude.{◌≡◌, ◌⊎◌, ℕ, List, [], ◌∷◌, Option, None, Some, Result, Ok, Err}
use Rattle.report_lines.specs.declared.faults.LineError.{LineError}
use Rattle.report_lines.specs.declared.faults.LineError.TheVariants as error
use Rattle.report_lines.specs.declared.faults.LineFault.{LineFault}
use Rattle.campaign_world.specs.World.{WorldState}
use Rattle.campaign_world.specs.Said.{line_of}
use Rattle.campaign_world.specs.Script.{read_lines}
use Rattle.campaign_world.specs.HeldWorld.{HeldWorld, WorldStands}

-- what is held stands for the state so far, or keeps the first refused line
abbrev pub StateIs : {S : Type 0} → (kept : Option LineError) → (stands : S → Type 0) → Result S LineFault → Type 0
StateIs kept stands (Ok state) = (kept ≡ None) × stands state
StateIs kept stands (Err fault) = kept ≡ Some (error.Line fault)

-- or memory was missing
abbrev pub StateIsIf : {S : Type 0} → (kept : Option LineError) → (stands : S → Type 0) → Result S LineFault → Type 0
StateIsIf kept stands so_far = (kept ≡ Some error.Memory) ⊎ StateIs kept stands so_far

abbrev pub WorldIsIf : HeldWorld → Result WorldState LineFault → Type 0
WorldIsIf held so_far = StateIsIf held.kept (WorldStands held) so_far

-- it hears a line, whatever it was after
abbrev pub HearsScriptLine : HeldWorld → List ℕ → HeldWorld → Type 0
HearsScriptLine old line new = (so_far : Result WorldState LineFault) → WorldIsIf old so_far → WorldIsIf new (read_lines so_far (line_of line ∷ []))
