use Rattle.std.proofs.Common.{◌≡◌, ◌++◌, List, ℕ, length}
use Rattle.script_lines.specs.Hearing.{Hears}
use Rattle.script_lines.proofs.hearing.hear_piece.Given as goal

-- what was used of the piece was heard
abbrev pub invariant-loop-rest : goal.invariant-loop-rest
invariant-loop-rest g l = (used : List ℕ) × (l.fn.piece ≡ used ++ l.rest) × Hears g.W.HearsLine.hears l.fn.lines l.lines l.fn.hearer l.hearer used

abbrev pub decreases-loop-rest : goal.decreases-loop-rest
decreases-loop-rest g l = length l.rest
