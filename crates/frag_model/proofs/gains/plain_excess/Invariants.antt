use Rattle.std.proofs.Common.{◌≡◌, ℕ, map, take}
use Rattle.frag_model.specs.Fragments.{line_of}
use Rattle.frag_model.proofs.gains.plain_excess.Given as goal

abbrev pub invariant-loop-n : goal.invariant-loop-n
invariant-loop-n l = l.lines.items ≡ map (λ (n : ℕ). line_of l.nb_frag n) (take l.n-index l.numbers)
