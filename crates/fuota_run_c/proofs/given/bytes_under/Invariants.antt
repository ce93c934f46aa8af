use Rattle.std.proofs.Common.{◌≡◌, drop}
use Rattle.fuota_run.specs.Memory.{held_by}
use Rattle.fuota_run_c.specs.Given.{files_in}
use Rattle.fuota_run_c.proofs.given.bytes_under.Given as goal

abbrev pub invariant-loop-file : goal.invariant-loop-file
invariant-loop-file l = held_by (files_in l.files) l.name ≡ held_by (files_in (drop l.file-index l.files)) l.name
