-- The worked files, by computing.
use Rattle.std.proofs.Common.{refl, inl, inr, arith}
use lib.Count.{ones}
use Rattle.frag_model.specs.Parity.{states_after, parity_states, modulus, residues, columns_drawn, line_with, line}
use Rattle.frag_model.specs.Fragments.{line_of, pieces_at, xor_bytes, xor_all}
use Rattle.frag_encoder.specs.Encoding.{pieces_of, data_of, sums_of}
use Rattle.frag_encoder.specs.WorkedFiles.{WorkedFiles, WorkedSizes}

pub files : WorkedFiles
unfolding states_after parity_states modulus residues columns_drawn line_with line line_of pieces_at xor_bytes xor_all pieces_of data_of sums_of ones
files = search

pub sizes : WorkedSizes
sizes = record {
  no_file = inl refl;
  no_bytes = inr (inl refl);
  too_long = inr (inr (inl (omega arith)));
  too_many = inr (inr (inr (omega arith)));
  longest = λ h. omega (arith, h);
  most = λ h. omega (arith, h);
  last_of_most = λ h. omega (arith, h);
}
