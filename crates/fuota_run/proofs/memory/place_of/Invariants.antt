use Rattle.std.proofs.Common.{◌≡◌, map, drop, string_bytes}
use Rattle.fuota_run.specs.Memory.{held_by}
use Rattle.fuota_run.proofs.memory.place_of.Given as goal

abbrev pub invariant-loop-i : goal.invariant-loop-i
invariant-loop-i l =
    held_by (map (λ f. (string_bytes f.0, f.1.items)) l.files) l.name
    ≡ held_by (map (λ f. (string_bytes f.0, f.1.items)) (drop l.i l.files)) l.name
