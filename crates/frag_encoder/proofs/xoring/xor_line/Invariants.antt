use Rattle.std.proofs.Common.{◌≡◌, ◌+◌, length, drop}
use Rattle.std.specs.Int.Count.{ones}
use Rattle.frag_model.specs.Fragments.{xor_bytes, xor_all, pieces_at}
use Rattle.parity_lines.specs.Words.{words_number}
use Rattle.frag_encoder.specs.Encoding.{pieces_of}
use Rattle.frag_encoder.proofs.Summing.{LineSummed}
use Rattle.frag_encoder.proofs.xoring.xor_line.Given as goal

abbrev pub invariant-loop-k : goal.invariant-loop-k
invariant-loop-k g l = record {
  summed : LineSummed (length l.initial.sum) l.k l.columns l.line l.bytes l.sum
      (xor_bytes l.initial.sum (xor_all (length l.initial.sum) (pieces_at (words_number l.line) (pieces_of l.columns (length l.initial.sum) l.bytes))));
  counted : l.sums + ones (words_number (drop l.k l.line)) ≡ l.initial.sums + ones (words_number l.line);
}
