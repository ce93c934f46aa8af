use Rattle.std.proofs.Common.{List, ℕ}
use Rattle.sample_nor_flash.proofs.sectors.is_blank.Given as goal

abbrev pub invariant-loop-k : goal.invariant-loop-k
invariant-loop-k g l = (c : List ℕ) → g.N.Nor.holds l.part c → g.N.Nor.holds l.initial.part c
