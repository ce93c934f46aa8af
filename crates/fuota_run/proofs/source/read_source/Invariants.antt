use Rattle.std.proofs.Common.{◌≡◌, ◌-◌, ◌≤◌, true, vec_len}
use Rattle.fuota_run.specs.Outside.{IsReadSoFar}
use Rattle.fuota_run.proofs.source.read_source.Given as goal

abbrev pub invariant-loop-files : goal.invariant-loop-files
invariant-loop-files g l = record {
  chosen : g.F.Files.chosen l.files ≡ true;
  held : g.F.Files.held l.files ≡ g.F.Files.held l.fn.files;
  quiet : g.F.Files.faults l.files ≡ g.F.Files.faults l.fn.files;
  so_far : IsReadSoFar (g.F.Files.held l.fn.files) l.name l.bytes.items (g.F.Files.left l.files);
  within : vec_len l.bytes ≤ l.most;
}

abbrev pub decreases-loop-files : goal.decreases-loop-files
decreases-loop-files g l = l.most - vec_len l.bytes
