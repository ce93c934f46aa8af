use Rattle.std.proofs.Common.{◌≡◌, ℕ, take, drop, length}
use Rattle.std.specs.Io.KnownBytes.{Appends}
use Rattle.fuota_run.proofs.output.write_text.Given as goal

abbrev pub invariant-loop-rest : goal.invariant-loop-rest
invariant-loop-rest g l = (n : ℕ) × (l.rest ≡ drop n l.text) × Appends (g.O.Sink.written l.fn.out) (g.O.Sink.written l.out) (take n l.text) × (g.O.Sink.faults l.out ≡ g.O.Sink.faults l.fn.out)

abbrev pub decreases-loop-rest : goal.decreases-loop-rest
decreases-loop-rest g l = length l.rest
