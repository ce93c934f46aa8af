use Rattle.std.proofs.Common.{◌≡◌, ℕ, ◌<◌, slice_index}
use Rattle.flash_session.specs.Layout.{open_gate}
use Rattle.flash_session.proofs.reading.leading_open.Given as goal

abbrev pub invariant-loop-k : goal.invariant-loop-k
invariant-loop-k l = (j : ℕ) → j < l.k → slice_index l.gates j ≡ open_gate
