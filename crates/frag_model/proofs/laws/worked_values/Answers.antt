-- Each value is computed.
use Rattle.std.proofs.Common.{refl}
use lib.Count.{ones}
use Rattle.frag_model.specs.Parity.{states_after, parity_states, modulus, residues, columns_drawn, line_with, line, place_of, draws}
use Rattle.frag_model.specs.Fragments.{line_of, draws_of, xor_bytes, file_of}
use Rattle.frag_model.specs.Gain.{sums, is_sum, gain_of_lines, gain_of, direct_of}
use Rattle.frag_model.proofs.laws.worked_values.Goals as goal

pub returns : goal.returns
unfolding states_after parity_states modulus residues columns_drawn line_with line place_of draws line_of draws_of xor_bytes file_of sums is_sum gain_of_lines gain_of direct_of ones
returns c = record {
  state = refl;
  two_columns = refl;
  first_of_4096 = refl;
  line_1 = refl;
  line_2 = refl;
  line_3 = refl;
  line_4 = refl;
  line_5 = refl;
  drawn_twice = refl;
  line_7 = refl;
  five_columns = refl;
  six_columns = refl;
  rejected = refl;
  draws_9 = refl;
  one_piece = refl;
  no_draw = refl;
  last_piece = refl;
  first_coded = refl;
  third_coded = refl;
  piece_draws = refl;
  coded_draws = refl;
  all_pieces = refl;
  two_and_two = refl;
  direct_two = refl;
  equal_lines = refl;
  repeats = refl;
  last_direct = refl;
  direct_again = refl;
  shorter_first = refl;
  shorter_second = refl;
  unpadded = refl;
}
