-- A pair after the lines that it has heard, whichever they were.
use Rattle.std.specs.Prelude.{ℕ, List, [], ◌∷◌, Result}
use Rattle.report_lines.specs.declared.faults.LineFault.{LineFault}
use Rattle.campaign_world.specs.HeardWorld.{StateIsIf}
use Rattle.pair_run.specs.Pair.{PairState}
use Rattle.pair_run.specs.PairScript.{read_pair_lines}
use Rattle.pair_run.specs.HeldPair.{HeldPair, PairStands}

-- it stands for the two campaigns so far, or keeps the first refused line, or memory was missing
abbrev pub PairIsIf : HeldPair → Result PairState LineFault → Type 0
PairIsIf held so_far = StateIsIf held.kept (PairStands held) so_far

-- it hears a line, whatever it was after
abbrev pub HearsPairLine : HeldPair → List ℕ → HeldPair → Type 0
HearsPairLine old line new =
    (so_far : Result PairState LineFault) → PairIsIf old so_far → PairIsIf new (read_pair_lines so_far (line ∷ []))
