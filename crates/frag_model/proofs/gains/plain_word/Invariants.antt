use Rattle.std.proofs.Common.{◌≡◌, take}
use Rattle.frag_model.specs.Parity.{number_of}
use Rattle.frag_model.proofs.gains.plain_word.Given as goal

abbrev pub invariant-loop-c : goal.invariant-loop-c
invariant-loop-c l = l.word ≡ number_of (take l.c l.columns)
