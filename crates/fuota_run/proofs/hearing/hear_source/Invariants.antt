use Rattle.std.proofs.Common.{◌≡◌, ◌≤◌, ◌-◌, List, ℕ, true, length}
use Rattle.script_lines.specs.Hearing.{HasHeard}
use Rattle.fuota_run.specs.Outside.{IsReadSoFar}
use Rattle.fuota_run.proofs.hearing.hear_source.Given as goal

-- the bytes taken so far were heard
abbrev pub invariant-loop-taken : goal.invariant-loop-taken
invariant-loop-taken g l = record {
  within : l.taken ≤ l.most;
  chosen : g.F.Files.chosen l.files ≡ true;
  held : g.F.Files.held l.files ≡ g.F.Files.held l.fn.files;
  quiet : g.F.Files.faults l.files ≡ g.F.Files.faults l.fn.files;
  bytes : List ℕ;
  taken : length bytes ≡ l.taken;
  so_far : IsReadSoFar (g.F.Files.held l.fn.files) l.name bytes (g.F.Files.left l.files);
  heard : HasHeard g.W.HearsLine.hears l.fn.hearer l.lines l.hearer bytes;
}

abbrev pub decreases-loop-taken : goal.decreases-loop-taken
decreases-loop-taken g l = l.most - l.taken
